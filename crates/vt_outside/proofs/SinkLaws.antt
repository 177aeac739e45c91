use Rattle.std.proofs.Common.{◌≡◌, ℕ, zero, suc, ◌+◌, List, [], ◌∷◌, ◌++◌, take, drop, Option, Some, None, refl, sym, ◌∙◌, ap, arith, append_assoc, append-nil, zero-add}
use Rattle.std.proofs.lemmas.Grind.{common_steps}
use Rattle.std.proofs.Math.Seq.{take-nil}
use Rattle.vt_outside.specs.Sink.{Adds}

-- a sink that was not asked has nothing added
pub adds_none : (a : Option (List ℕ)) → Adds a a []
adds_none None = tt
adds_none (Some x) = sym (append-nil x)

-- one text after another
pub adds_then : (a b c : Option (List ℕ)) (x y : List ℕ) → Adds a b x → Adds b c y → Adds a c (x ++ y)
adds_then None None None x y h k = tt
adds_then None None (Some c) x y h k = k
adds_then None (Some b) c x y h k = absurd h
adds_then (Some a) None c x y h k = absurd h
adds_then (Some a) (Some b) None x y h k = k
adds_then (Some a) (Some b) (Some c) x y h k = rw h at k ∙ append_assoc a x y

-- nothing more was added at the same end
pub adds_same : (a b c : Option (List ℕ)) (x : List ℕ) → Adds a b x → c ≡ b → Adds a c x
adds_same a b c x h e = rw e h

-- the first n bytes and then m more are the first n + m
pub take_then : (n m : ℕ) (xs : List ℕ) → take n xs ++ take m (drop n xs) ≡ take (n + m) xs
take_then zero m xs = rw zero-add refl
take_then (suc n) m [] = grind (arith, common_steps, take-nil)
take_then (suc n) m (x ∷ xs) = let e : suc n + m ≡ suc (n + m) = omega arith in rw e (ap (λ z. x ∷ z) (take_then n m xs))
