use Rattle.std.proofs.Common.{◌≡◌, ℕ, ◌+◌, ◌-◌, ◌≤◌, List, ◌++◌, length, take, drop, arith, sym, ap, ◌∙◌, length-drop}
use Rattle.std.proofs.KnownBytes.{Appends-trans}
use Rattle.std.proofs.Math.Seq.{take-add}
use Rattle.std.proofs.lemmas.List.{length-take, take_all}
use Rattle.vt_outside.proofs.file_disk.put.Goals as goal

-- the first bytes, and the first of the others
front : (a n : ℕ) (xs : List ℕ) → a ≤ length xs → take a xs ++ take n (take (length xs - a) (drop a xs)) ≡ take (a + n) xs
front a n xs some =
    let len : length (drop a xs) ≤ length xs - a = omega (arith, length-drop a xs) in
    ap (λ z. take a xs ++ take n z) (take_all (length xs - a) (drop a xs) len) ∙ sym (take-add a n xs)

pub putting-preserved : goal.putting-preserved
putting-preserved g c =
    let some = c.putting.invariant.within in
    let few = (c.in-Ok.ensures).bound in
    let rest = drop c.putting.written c.args.bytes.now in
    record {
      within = omega (arith, some, few, length-take (length c.args.bytes.now - c.putting.written) rest, length-drop c.putting.written c.args.bytes.now);
      appended =
          rw (← front c.putting.written c.in-Ok.n c.args.bytes.now some)
          (Appends-trans _ _ _ _ _ c.putting.invariant.appended (c.in-Ok.ensures).bytes);
    }
