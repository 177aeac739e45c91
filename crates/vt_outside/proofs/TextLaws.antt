use Rattle.std.proofs.Common.{◌≡◌, ℕ, List, [], ◌++◌, take, drop, refl, sym, ap, ◌∙◌, append_assoc, append-nil}
use Rattle.std.proofs.lemmas.List.{take-append-drop}
use Rattle.vt_outside.specs.Text.{IsPrefixOf}

-- a text is the front of itself
pub prefix_same : (xs : List ℕ) → IsPrefixOf xs xs
prefix_same xs = ([], append-nil xs)

-- also where it is another name of it
pub prefix_equal : (xs ys : List ℕ) → xs ≡ ys → IsPrefixOf xs ys
prefix_equal xs ys e = ([], append-nil xs ∙ e)

-- nothing is the front of every text
pub prefix_none : (xs : List ℕ) → IsPrefixOf [] xs
prefix_none xs = (xs, refl)

-- the front of a front is a front
pub prefix_then : (xs ys zs : List ℕ) → IsPrefixOf xs ys → IsPrefixOf ys zs → IsPrefixOf xs zs
prefix_then xs ys zs (a, e) (b, f) = (a ++ b, sym (append_assoc xs a b) ∙ ap (λ z. z ++ b) e ∙ f)

-- what comes first is the front of the whole
pub prefix_append : (xs ys : List ℕ) → IsPrefixOf xs (xs ++ ys)
prefix_append xs ys = (ys, refl)

-- a front of the text that follows
pub prefix_behind : (xs ys zs : List ℕ) → IsPrefixOf ys zs → IsPrefixOf (xs ++ ys) (xs ++ zs)
prefix_behind xs ys zs (rest, e) = (rest, append_assoc xs ys rest ∙ ap (λ z. xs ++ z) e)

-- the first n bytes are the front of a text
pub prefix_take : (n : ℕ) (xs : List ℕ) → IsPrefixOf (take n xs) xs
prefix_take n xs = (drop n xs, take-append-drop n xs)
