-- Numbers that follow one another, and what a filter keeps of them.
use Rattle.std.proofs.Common.{◌≡◌, ℕ, zero, suc, ◌+◌, ◌-◌, ◌*◌, ◌<◌, ◌≤◌, List, [], ◌∷◌, ◌++◌, Bool, true, false, not, ◌||◌, ◌&&◌, eqb, ltb, length, take, filter, refl, sym, ◌∙◌, ap, inl, inr, arith, append_assoc, append-nil}
use Rattle.std.specs.Prelude.{IsTrue}
use Rattle.std.proofs.lemmas.Bool.{false≢true, cases_eq, cases_Bool, lt-ltb, le-ltb, eqb-true, eq-eqb, or_cases, or_left, or_right, not_from_false, false_from_ne_true, cond-true, cond-false}
use Rattle.std.proofs.lemmas.List.Elements.{filter_agree}
use Rattle.vq_posted.specs.Free.{is_in, is_distinct, numbers}
use Rattle.vq_posted.specs.Members.{is_member, IsNext}
use Rattle.vq_posted.proofs.Members.{distinct_parts, distinct_from, length-filter_less}

take_of_none : (k : ℕ) → take {A = ℕ} k [] ≡ []
take_of_none zero = refl
take_of_none (suc k) = refl

-- none of them passes
pub filter_none : (p : ℕ → Bool) (from count : ℕ) → ((k : ℕ) → from ≤ k → p k ≡ false) → filter p (numbers from count) ≡ []
filter_none p from zero none = refl
filter_none p from (suc count) none =
    cond-false (p from) (from ∷ filter p (numbers (from + 1) count)) (filter p (numbers (from + 1) count)) (none from (omega arith))
    ∙ filter_none p (from + 1) count (λ k h. none k (omega arith))

-- the first of them that passes is m
pub filter_first : (p : ℕ → Bool) (from count m : ℕ) → from ≤ m → m < from + count → p m ≡ true → ((k : ℕ) → from ≤ k → k < m → p k ≡ false)
    → filter p (numbers from count) ≡ m ∷ filter p (numbers (m + 1) (from + count - (m + 1)))
filter_first p from zero m low high on off = absurd (omega arith)
filter_first p from (suc count) m low high on off =
    elim (cases_eq from m) [
      | inl e ↦
          let rest : count ≡ from + suc count - (m + 1) = omega arith in
          cond-true (p from) (from ∷ filter p (numbers (from + 1) count)) (filter p (numbers (from + 1) count)) (ap p e ∙ on)
          ∙ ap (λ (k : ℕ). k ∷ filter p (numbers (k + 1) count)) e
          ∙ ap (λ (k : ℕ). m ∷ filter p (numbers (m + 1) k)) rest
      | inr d ↦
          let rest : from + 1 + count - (m + 1) ≡ from + suc count - (m + 1) = omega arith in
          cond-false (p from) (from ∷ filter p (numbers (from + 1) count)) (filter p (numbers (from + 1) count)) (off from (omega arith) (omega arith))
          ∙ filter_first p (from + 1) count m (omega arith) (omega arith) on (λ k h. off k (omega arith))
          ∙ ap (λ (k : ℕ). m ∷ filter p (numbers (m + 1) k)) rest
    ]

-- one more of the lowest members is found
pub lowest_more : (words items all : List ℕ) (from left count m : ℕ) → left < count → IsNext words from m
    → items ++ take (count - left) (filter (is_member words) (numbers from (64 * length words - from))) ≡ all
    → (items ++ m ∷ []) ++ take (count - (left + 1)) (filter (is_member words) (numbers (m + 1) (64 * length words - (m + 1)))) ≡ all
lowest_more words items all from left count m more next so_far =
    let bound : ℕ = 64 * length words in
    let low : from ≤ m = next.low in
    let inside : m < 64 * length words = next.inside in
    let first : filter (is_member words) (numbers from (bound - from)) ≡ m ∷ filter (is_member words) (numbers (m + 1) (from + (bound - from) - (m + 1)))
    = filter_first (is_member words) from (bound - from) m low (omega arith) next.member next.none_before
    in
    let same : from + (bound - from) - (m + 1) ≡ bound - (m + 1) = omega arith in
    let one : count - left ≡ suc (count - (left + 1)) = omega arith in
    let rest : List ℕ = filter (is_member words) (numbers (m + 1) (bound - (m + 1))) in
    append_assoc items (m ∷ []) (take (count - (left + 1)) rest)
    ∙ ap (λ (k : ℕ). items ++ take k (m ∷ rest)) (sym one)
    ∙ ap (λ (ns : List ℕ). items ++ take (count - left) ns) (sym (first ∙ ap (λ (k : ℕ). m ∷ filter (is_member words) (numbers (m + 1) k)) same))
    ∙ so_far

-- there are no more
pub lowest_all : (words items all : List ℕ) (from left count : ℕ) → ((k : ℕ) → from ≤ k → is_member words k ≡ false)
    → items ++ take (count - left) (filter (is_member words) (numbers from (64 * length words - from))) ≡ all → items ≡ all
lowest_all words items all from left count none so_far =
    sym (append-nil items)
    ∙ ap (λ (ns : List ℕ). items ++ ns) (sym (take_of_none (count - left)))
    ∙ ap (λ (ns : List ℕ). items ++ take (count - left) ns) (sym (filter_none (is_member words) from (64 * length words - from) none))
    ∙ so_far

-- the members of the numbers from `from` on
pub is_in_numbers : (m from n : ℕ) → is_in m (numbers from n) ≡ true → (from ≤ m) × (m < from + n)
is_in_numbers m from zero h = absurd (false≢true h)
is_in_numbers m from (suc n) h =
    elim (or_cases (eqb from m) (is_in m (numbers (from + 1) n)) h) [
      | inl e ↦ let same : from ≡ m = eqb-true from m e in (omega arith, omega arith)
      | inr e ↦ let (a, b) = is_in_numbers m (from + 1) n e in (omega arith, omega arith)
    ]

pub numbers_has : (m from n : ℕ) → from ≤ m → m < from + n → is_in m (numbers from n) ≡ true
numbers_has m from zero low high = absurd (omega arith)
numbers_has m from (suc n) low high =
    elim (cases_eq from m) [
      | inl e ↦ or_left (eqb from m) (is_in m (numbers (from + 1) n)) (eq-eqb from m e)
      | inr e ↦ or_right (eqb from m) (is_in m (numbers (from + 1) n)) (numbers_has m (from + 1) n (omega arith) (omega arith))
    ]

pub distinct_numbers : (from n : ℕ) → IsTrue (is_distinct (numbers from n))
distinct_numbers from zero = refl
distinct_numbers from (suc n) =
    distinct_from from (numbers (from + 1) n) (false_from_ne_true (is_in from (numbers (from + 1) n)) (λ t. let (a, b) = is_in_numbers from (from + 1) n t in absurd (omega arith)))
    (distinct_numbers (from + 1) n)

pub length-numbers : (from n : ℕ) → length (numbers from n) ≡ n
length-numbers from zero = refl
length-numbers from (suc n) = ap suc (length-numbers (from + 1) n)

-- a filter that all pass
pub none_out : (xs : List ℕ) → filter (λ n. true) xs ≡ xs
none_out [] = refl
none_out (x ∷ xs) = ap (λ (ns : List ℕ). x ∷ ns) (none_out xs)

not_either : (a b : Bool) → not (a || b) ≡ (not b && not a)
not_either true true = refl
not_either true false = refl
not_either false true = refl
not_either false false = refl

-- those that are not taken, and those that are, are all
pub length_free : (taken xs : List ℕ) → IsTrue (is_distinct taken) → IsTrue (is_distinct xs) → ((n : ℕ) → is_in n taken ≡ true → is_in n xs ≡ true)
    → length (filter (λ n. not (is_in n taken)) xs) + length taken ≡ length xs
length_free [] xs distinct all inside = ap (λ (ns : List ℕ). length ns + 0) (none_out xs) ∙ omega arith
length_free (t ∷ taken) xs distinct all inside =
    let (new, rest) = distinct_parts t taken distinct in
    let one : length (filter (λ n. not (is_in n taken) && not (eqb t n)) xs) + 1 ≡ length (filter (λ n. not (is_in n taken)) xs)
    = length-filter_less (λ n. not (is_in n taken)) t xs all (inside t (or_left (eqb t t) (is_in t taken) (eq-eqb t t refl))) (not_from_false (is_in t taken) new)
    in
    let others : length (filter (λ n. not (is_in n taken)) xs) + length taken ≡ length xs = length_free taken xs rest all (λ n m. inside n (or_right (eqb t n) (is_in n taken) m)) in
    let same : filter (λ n. not (eqb t n || is_in n taken)) xs ≡ filter (λ n. not (is_in n taken) && not (eqb t n)) xs
    = filter_agree (λ n. not (eqb t n || is_in n taken)) (λ n. not (is_in n taken) && not (eqb t n)) (λ n. not_either (eqb t n) (is_in n taken)) xs
    in
    rw same (omega arith)

-- those below a limit
pub filter_below : (q : ℕ → Bool) (limit from count more : ℕ) → limit ≡ from + count → filter (λ n. ltb n limit && q n) (numbers from (count + more)) ≡ filter q (numbers from count)
filter_below q limit from zero more e =
    let all : 0 + more ≡ more = omega arith in
    ap (λ (k : ℕ). filter (λ n. ltb n limit && q n) (numbers from k)) all
    ∙ filter_none (λ n. ltb n limit && q n) from more (λ k h. ap (λ (b : Bool). b && q k) (le-ltb k limit (omega arith)))
filter_below q limit from (suc count) more e =
    let one : suc count + more ≡ suc (count + more) = omega arith in
    let low : ltb from limit ≡ true = lt-ltb from limit (omega arith) in
    let rest : filter (λ n. ltb n limit && q n) (numbers (from + 1) (count + more)) ≡ filter q (numbers (from + 1) count) = filter_below q limit (from + 1) count more (omega arith) in
    ap (λ (k : ℕ). filter (λ n. ltb n limit && q n) (numbers from k)) one
    ∙ elim (cases_Bool (q from)) [ inl t ↦ rw (low, t) (ap (λ (ns : List ℕ). from ∷ ns) rest) | inr f ↦ rw (low, f) rest ]
