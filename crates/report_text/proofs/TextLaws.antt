use Rattle.std.proofs.Common.{◌≡◌, ℕ, ◌+◌, ◌<◌, List, [], ◌∷◌, ◌++◌, length, take, get_or, refl, sym, ap, ◌∙◌, arith, append_assoc, append-nil, length-append}
use Rattle.std.specs.Fmt.{decimal}
use Rattle.std.proofs.lemmas.Grind.{common_steps}
use Rattle.report_text.specs.Text.{TextView, Added}
use Rattle.report_text.specs.Words.{numbers, word}

-- one piece after another
pub added_then : (a b c : TextView) (x y : List ℕ) → Added a b x → Added b c y → Added a c (x ++ y)
added_then a b c x y h k = record {
  bytes = k.bytes ∙ ap (λ z. z ++ y) h.bytes ∙ append_assoc a.bytes x y;
  spare = let l = h.spare in let m = k.spare in omega (arith, length-append x y);
}

-- numbers, and then others
numbers_append : (xs ys : List ℕ) → numbers (xs ++ ys) ≡ numbers xs ++ numbers ys
numbers_append [] ys = refl
numbers_append (n ∷ xs) ys =
    ap (λ z. word (decimal n) ++ z) (numbers_append xs ys) ∙ sym (append_assoc (word (decimal n)) (numbers xs) (numbers ys))

-- numbers, and one more
pub numbers_more : (xs : List ℕ) (i : ℕ) → i < length xs → numbers (take (i + 1) xs) ≡ numbers (take i xs) ++ word (decimal (get_or xs i 0))
numbers_more xs i h =
    let e : take (i + 1) xs ≡ take i xs ++ get_or xs i 0 ∷ [] = grind (arith, common_steps) in
    rw e (numbers_append (take i xs) (get_or xs i 0 ∷ []) ∙ ap (λ z. numbers (take i xs) ++ z) (append-nil (word (decimal (get_or xs i 0)))))
