use Rattle.std.proofs.Common.{◌≡◌, ℕ, ◌+◌, ◌≤◌, List, ◌++◌, length, take, arith, sym, ap, ◌∙◌, length-append}
use Rattle.std.proofs.KnownBytes.{Consumes-trans}
use Rattle.std.proofs.Math.Seq.{take-append-add}
use Rattle.std.proofs.lemmas.List.{take-append-le, length-take}
use Rattle.vt_outside.proofs.file_disk.fill.Goals as goal

-- the front of a room that a part was written into
front : (a n : ℕ) (xs ys rest : List ℕ) → a ≤ length xs → n ≤ length ys → take (a + n) (take a xs ++ (ys ++ rest)) ≡ take a xs ++ take n ys
front a n xs ys rest some few =
    let len : length (take a xs) ≡ a = omega (arith, length-take a xs) in
    let e : take (length (take a xs) + n) (take a xs ++ (ys ++ rest)) ≡ take a xs ++ take n (ys ++ rest) = take-append-add (take a xs) (ys ++ rest) n in
    ap (λ (k : ℕ). take (k + n) (take a xs ++ (ys ++ rest))) (sym len) ∙ e ∙ ap (λ z. take a xs ++ z) (take-append-le n ys rest few)

within : (a n : ℕ) (xs ys rest : List ℕ) → a ≤ length xs → n ≤ length ys → a + n ≤ length (take a xs ++ (ys ++ rest))
within a n xs ys rest some few = omega (arith, length-take a xs, length-append (take a xs) (ys ++ rest), length-append ys rest)

pub filling-preserved : goal.filling-preserved
filling-preserved g c =
    let some = c.filling.invariant.within in
    let few = (c.in-Ok.ensures).bound.0 in
    record {
      within = within c.filling.filled c.in-Ok.n c.filling.room c.read.new.buf _ some few;
      consumed =
          rw (front c.filling.filled c.in-Ok.n c.filling.room c.read.new.buf _ some few)
          (Consumes-trans _ _ _ _ _ c.filling.invariant.consumed (c.in-Ok.ensures).bytes.0);
    }
