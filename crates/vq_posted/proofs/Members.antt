-- Members of lists of numbers, and what a filter keeps of them.
use Rattle.std.proofs.Common.{◌≡◌, ℕ, zero, suc, ◌+◌, List, [], ◌∷◌, ◌++◌, Bool, true, false, not, ◌||◌, ◌&&◌, eqb, length, take, filter, refl, sym, ◌∙◌, ap, subst, inl, inr, arith}
use Rattle.std.specs.Prelude.{IsTrue, All}
use Rattle.std.proofs.lemmas.Bool.{false≢true, eqb-true, eq-eqb, ne_eqb, cases_Bool, cases_eq, or_cases, or_parts, or_from, or_left, or_right, and_parts, and_from, not-true, not_from_false, false_from_ne_true}
use Rattle.std.proofs.lemmas.Bool.Decides.{nat_tests}
use Rattle.std.proofs.lemmas.List.Folds.{list_any-append}
use Rattle.std.proofs.lemmas.List.Elements.{All-nil, All-cons, All-head, All-tail}
use Rattle.vq_posted.specs.Free.{is_in, is_distinct}

-- a member of joined lists is one of either
pub is_in-append : (n : ℕ) (xs ys : List ℕ) → is_in n (xs ++ ys) ≡ (is_in n xs || is_in n ys)
is_in-append n xs ys = list_any-append (λ x. eqb x n) xs ys

-- a member of a front is a member
pub is_in_take : (n k : ℕ) (xs : List ℕ) → is_in n (take k xs) ≡ true → is_in n xs ≡ true
is_in_take n zero xs h = absurd (false≢true h)
is_in_take n (suc k) [] h = h
is_in_take n (suc k) (x ∷ xs) h =
    elim (or_cases (eqb x n) (is_in n (take k xs)) h) [ inl e ↦ or_left (eqb x n) (is_in n xs) e | inr e ↦ or_right (eqb x n) (is_in n xs) (is_in_take n k xs e) ]

-- what a filter keeps passes its test, and is a member
pub is_in_filter : (p : ℕ → Bool) (n : ℕ) (xs : List ℕ) → is_in n (filter p xs) ≡ true → (p n ≡ true) × (is_in n xs ≡ true)
is_in_filter p n [] h = absurd (false≢true h)
is_in_filter p n (x ∷ xs) h = elim (cases_Bool (p x)) [
  | inl t ↦ elim (or_cases (eqb x n) (is_in n (filter p xs)) (rw t at h)) [
    | inl e ↦ (ap p (sym (eqb-true x n e)) ∙ t, or_left (eqb x n) (is_in n xs) e)
    | inr e ↦ let (a, b) = is_in_filter p n xs e in (a, or_right (eqb x n) (is_in n xs) b)
  ]
  | inr f ↦ let (a, b) = is_in_filter p n xs (rw f at h) in (a, or_right (eqb x n) (is_in n xs) b)
]

-- two tests that agree on the members keep the same
pub filter_same : (p q : ℕ → Bool) (xs : List ℕ) → ((n : ℕ) → is_in n xs ≡ true → p n ≡ q n) → filter p xs ≡ filter q xs
filter_same p q [] same = refl
filter_same p q (x ∷ xs) same =
    let here : p x ≡ q x = same x (or_left (eqb x x) (is_in x xs) (eq-eqb x x refl)) in
    let rest : filter p xs ≡ filter q xs = filter_same p q xs (λ n m. same n (or_right (eqb x n) (is_in n xs) m)) in
    rw (here, rest) refl

-- a list without duplicates: its head is no member of the rest
pub distinct_parts : (x : ℕ) (xs : List ℕ) → IsTrue (is_distinct (x ∷ xs)) → (is_in x xs ≡ false) × IsTrue (is_distinct xs)
distinct_parts x xs d = let (a, b) = and_parts (not (is_in x xs)) (is_distinct xs) d in (not-true (is_in x xs) a, b)

pub distinct_from : (x : ℕ) (xs : List ℕ) → is_in x xs ≡ false → IsTrue (is_distinct xs) → IsTrue (is_distinct (x ∷ xs))
distinct_from x xs h d = and_from (not (is_in x xs)) (is_distinct xs) (not_from_false (is_in x xs) h) d

-- the front of a list without duplicates has none
pub distinct_take : (k : ℕ) (xs : List ℕ) → IsTrue (is_distinct xs) → IsTrue (is_distinct (take k xs))
distinct_take zero xs d = refl
distinct_take (suc k) [] d = refl
distinct_take (suc k) (x ∷ xs) d =
    let (new, rest) = distinct_parts x xs d in
    distinct_from x (take k xs) (false_from_ne_true (is_in x (take k xs)) (λ t. false≢true (sym new ∙ is_in_take x k xs t))) (distinct_take k xs rest)

-- what a filter keeps of it has none
pub distinct_filter : (p : ℕ → Bool) (xs : List ℕ) → IsTrue (is_distinct xs) → IsTrue (is_distinct (filter p xs))
distinct_filter p [] d = refl
distinct_filter p (x ∷ xs) d =
    let (new, rest) = distinct_parts x xs d in
    elim (cases_Bool (p x)) [
      | inl t ↦ rw t (distinct_from x (filter p xs) (false_from_ne_true (is_in x (filter p xs)) (λ m. false≢true (sym new ∙ (is_in_filter p x xs m).1))) (distinct_filter p xs rest))
      | inr f ↦ rw f (distinct_filter p xs rest)
    ]

-- two such lists with no member in common, joined
pub distinct_append : (xs ys : List ℕ) → IsTrue (is_distinct xs) → IsTrue (is_distinct ys) → ((n : ℕ) → is_in n xs ≡ true → is_in n ys ≡ false) → IsTrue (is_distinct (xs ++ ys))
distinct_append [] ys d e apart = e
distinct_append (x ∷ xs) ys d e apart =
    let (new, rest) = distinct_parts x xs d in
    distinct_from x (xs ++ ys) (is_in-append x xs ys ∙ or_from (is_in x xs) (is_in x ys) new (apart x (or_left (eqb x x) (is_in x xs) (eq-eqb x x refl))))
    (distinct_append xs ys rest e (λ n m. apart n (or_right (eqb x n) (is_in n xs) m)))

-- one taken out of such a list is no member of the others
pub distinct_without : (xs : List ℕ) (n : ℕ) (ys : List ℕ) → IsTrue (is_distinct (xs ++ n ∷ ys)) → (is_in n (xs ++ ys) ≡ false) × IsTrue (is_distinct (xs ++ ys))
distinct_without [] n ys d = distinct_parts n ys d
distinct_without (x ∷ xs) n ys d =
    let (new, rest) = distinct_parts x (xs ++ n ∷ ys) d in
    let (a, b) = distinct_without xs n ys rest in
    let (c, e) = or_parts (is_in x xs) (is_in x (n ∷ ys)) (sym (is_in-append x xs (n ∷ ys)) ∙ new) in
    let (f, g) = or_parts (eqb n x) (is_in x ys) e in
    let other : eqb x n ≡ false = grind (arith, nat_tests) in
    (or_from (eqb x n) (is_in n (xs ++ ys)) other a, distinct_from x (xs ++ ys) (is_in-append x xs ys ∙ or_from (is_in x xs) (is_in x ys) c g) b)

keeps_all : (b : Bool) → (b && not false) ≡ b
keeps_all true = refl
keeps_all false = refl

-- a test that also leaves out one member keeps one fewer
pub length-filter_less : (p : ℕ → Bool) (a : ℕ) (xs : List ℕ) → IsTrue (is_distinct xs) → is_in a xs ≡ true → p a ≡ true → length (filter (λ n. p n && not (eqb a n)) xs) + 1 ≡ length (filter p xs)
length-filter_less p a [] d m t = absurd (false≢true m)
length-filter_less p a (x ∷ xs) d m t =
    let (new, rest) = distinct_parts x xs d in
    elim (cases_eq x a) [
      | inl e ↦
          let here : p x ≡ true = ap p e ∙ t in
          let is : eqb a x ≡ true = eq-eqb a x (sym e) in
          let others : filter (λ n. p n && not (eqb a n)) xs ≡ filter p xs
          = filter_same _ _ xs (λ n h.
          let other : eqb a n ≡ false = false_from_ne_true (eqb a n) (λ w. false≢true (sym new ∙ ap (λ (y : ℕ). is_in y xs) (e ∙ eqb-true a n w) ∙ h)) in
          ap (λ (b : Bool). p n && not b) other ∙ keeps_all (p n))
          in
          rw (here, is, others) (omega arith)
      | inr ne ↦
          let isnt : eqb a x ≡ false = ne_eqb a x (λ w. ne (sym w)) in
          let isnt2 : eqb x a ≡ false = ne_eqb x a ne in
          let inside : is_in a xs ≡ true = rw isnt2 at m in
          let less : length (filter (λ n. p n && not (eqb a n)) xs) + 1 ≡ length (filter p xs) = length-filter_less p a xs rest inside t in
          elim (cases_Bool (p x)) [
            | inl y ↦ rw (y, isnt) (omega arith)
            | inr y ↦ rw y less
          ]
    ]

-- what holds of each item holds of each member, and the other way round
pub all_at : (P : ℕ → Type 0) (xs : List ℕ) (n : ℕ) → All P xs → is_in n xs ≡ true → P n
all_at P [] n all h = absurd (false≢true h)
all_at P (x ∷ xs) n all h =
    elim (or_cases (eqb x n) (is_in n xs) h) [ inl e ↦ subst P (eqb-true x n e) (All-head P x xs all) | inr e ↦ all_at P xs n (All-tail P x xs all) e ]

pub all_from_members : (P : ℕ → Type 0) (xs : List ℕ) → ((n : ℕ) → is_in n xs ≡ true → P n) → All P xs
all_from_members P [] each = All-nil P
all_from_members P (x ∷ xs) each =
    All-cons P x xs (each x (or_left (eqb x x) (is_in x xs) (eq-eqb x x refl))) (all_from_members P xs (λ n h. each n (or_right (eqb x n) (is_in n xs) h)))

-- what holds of each holds of each of the others, without one
pub all_without : {X : Type 0} (P : X → Type 0) (xs : List X) (y : X) (ys : List X) → All P (xs ++ y ∷ ys) → All P (xs ++ ys)
all_without P [] y ys all = All-tail P y ys all
all_without P (x ∷ xs) y ys all =
    All-cons P x (xs ++ ys) (All-head P x (xs ++ y ∷ ys) all) (all_without P xs y ys (All-tail P x (xs ++ y ∷ ys) all))

-- the parts of such a list have none, and no member in common
pub distinct_front : (xs ys : List ℕ) → IsTrue (is_distinct (xs ++ ys)) → IsTrue (is_distinct xs)
distinct_front [] ys d = refl
distinct_front (x ∷ xs) ys d =
    let (new, rest) = distinct_parts x (xs ++ ys) d in
    let (out, _) = or_parts (is_in x xs) (is_in x ys) (sym (is_in-append x xs ys) ∙ new) in
    distinct_from x xs out (distinct_front xs ys rest)

pub distinct_back : (xs ys : List ℕ) → IsTrue (is_distinct (xs ++ ys)) → IsTrue (is_distinct ys)
distinct_back [] ys d = d
distinct_back (x ∷ xs) ys d = distinct_back xs ys (distinct_parts x (xs ++ ys) d).1

pub distinct_apart : (xs ys : List ℕ) → IsTrue (is_distinct (xs ++ ys)) → (n : ℕ) → is_in n xs ≡ true → is_in n ys ≡ false
distinct_apart [] ys d n m = absurd (false≢true m)
distinct_apart (x ∷ xs) ys d n m =
    let (new, rest) = distinct_parts x (xs ++ ys) d in
    let (_, out) = or_parts (is_in x xs) (is_in x ys) (sym (is_in-append x xs ys) ∙ new) in
    elim (or_cases (eqb x n) (is_in n xs) m) [
      | inl e ↦ ap (λ (k : ℕ). is_in k ys) (sym (eqb-true x n e)) ∙ out
      | inr e ↦ distinct_apart xs ys rest n e
    ]

-- a list in the middle of another one: what is a member of it is none of what stands around
pub middle_apart : (xs ys zs : List ℕ) → IsTrue (is_distinct (xs ++ (ys ++ zs))) → (n : ℕ) → is_in n ys ≡ true → is_in n (xs ++ zs) ≡ false
middle_apart xs ys zs d n m =
    let before : is_in n xs ≡ false
    = false_from_ne_true (is_in n xs) (λ t.
    let (out, _) = or_parts (is_in n ys) (is_in n zs) (sym (is_in-append n ys zs) ∙ distinct_apart xs (ys ++ zs) d n t) in
    false≢true (sym out ∙ m))
    in
    is_in-append n xs zs ∙ or_from (is_in n xs) (is_in n zs) before (distinct_apart ys zs (distinct_back xs (ys ++ zs) d) n m)

pub distinct_middle : (xs ys zs : List ℕ) → IsTrue (is_distinct (xs ++ (ys ++ zs))) → IsTrue (is_distinct (xs ++ zs))
distinct_middle xs [] zs d = d
distinct_middle xs (y ∷ ys) zs d = distinct_middle xs ys zs (distinct_without xs y (ys ++ zs) d).1

pub distinct_between : (xs ys zs : List ℕ) → IsTrue (is_distinct (xs ++ zs)) → IsTrue (is_distinct ys) → ((n : ℕ) → is_in n ys ≡ true → is_in n (xs ++ zs) ≡ false)
    → IsTrue (is_distinct (xs ++ (ys ++ zs)))
distinct_between xs ys zs d e apart =
    distinct_append xs (ys ++ zs) (distinct_front xs zs d)
    (distinct_append ys zs e (distinct_back xs zs d) (λ n m. (or_parts (is_in n xs) (is_in n zs) (sym (is_in-append n xs zs) ∙ apart n m)).1))
    (λ n m.
    let out : is_in n ys ≡ false = false_from_ne_true (is_in n ys) (λ t. false≢true (sym (or_parts (is_in n xs) (is_in n zs) (sym (is_in-append n xs zs) ∙ apart n t)).0 ∙ m)) in
    is_in-append n ys zs ∙ or_from (is_in n ys) (is_in n zs) out (distinct_apart xs zs d n m))

pub all_middle : (P : ℕ → Type 0) (xs ys zs : List ℕ) → All P (xs ++ (ys ++ zs)) → All P (xs ++ zs)
all_middle P xs [] zs all = all
all_middle P xs (y ∷ ys) zs all = all_middle P xs ys zs (all_without P xs y (ys ++ zs) all)

-- what holds of each, with one more in the middle
pub all_with : {X : Type 0} (P : X → Type 0) (xs : List X) (y : X) (ys : List X) → All P (xs ++ ys) → P y → All P (xs ++ y ∷ ys)
all_with P [] y ys all h = All-cons P y ys h all
all_with P (x ∷ xs) y ys all h =
    All-cons P x (xs ++ y ∷ ys) (All-head P x (xs ++ ys) all) (all_with P xs y ys (All-tail P x (xs ++ ys) all) h)
