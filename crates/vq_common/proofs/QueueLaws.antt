-- The sizes of a ring, and unreaped buffers of two lists.
use Rattle.std.proofs.Common.{◌≡◌, ℕ, zero, suc, ◌+◌, ◌-◌, ◌*◌, ◌/◌, ◌%◌, ◌^◌, bit_and, ◌≤◌, List, [], ◌∷◌, ◌++◌, Bool, true, false, inl, inr, refl, sym, ◌∙◌, ap, arith}
use Rattle.std.specs.Prelude.{◌||◌, ◌&&◌, ◌==◌, IsTrue, nat_le}
use Rattle.std.specs.Int as int
use Rattle.std.specs.Bool.{beq}
use Rattle.std.proofs.lemmas.Bool.{and_parts, and_right, cases_lt}
use Rattle.std.proofs.lemmas.Bool.Decides.{nat_tests}
use Rattle.std.proofs.lemmas.Grind.{bit_length}
use Rattle.std.proofs.lemmas.Nat.{and_mask}
use Rattle.vq_common.specs.Queue.{Unreaped, is_ring_size, slots_of_all, holds_tag}

-- two tests answer the same up to a number
abbrev agree : (p q : ℕ → Bool) → ℕ → Bool
agree p q zero = beq (p 0) (q 0)
agree p q (suc k) = beq (p (suc k)) (q (suc k)) && agree p q k

same : (a b : Bool) → IsTrue (beq a b) → a ≡ b
same true true h = refl
same false false h = refl
same true false h = absurd (cc)
same false true h = absurd (cc)

agree_at : (p q : ℕ → Bool) (k n : ℕ) → n ≤ k → IsTrue (agree p q k) → p n ≡ q n
agree_at p q zero n few all = let e : n ≡ 0 = omega arith in rw e (same (p 0) (q 0) all)
agree_at p q (suc k) n few all =
    let (last, before) = and_parts (beq (p (suc k)) (q (suc k))) (agree p q k) all in
    elim (cases_lt k n) [
      | inl at_last ↦ let e : n ≡ suc k = omega arith in rw e (same (p (suc k)) (q (suc k)) last)
      | inr below ↦ agree_at p q k n below before
    ]

-- the sizes are the powers of two up to 1,024
pub ring_size_test : (n : ℕ) → (int.is_power_of_two n && nat_le n 1024) ≡ is_ring_size n
unfolding int.Count.ones
ring_size_test n =
    elim (cases_lt 1024 n) [
      | inl past ↦
          let test : nat_le n 1024 ≡ false = grind (arith, nat_tests) in
          let none : is_ring_size n ≡ false = grind (arith, nat_tests) in
          rw (test, none) (and_right (int.is_power_of_two n) false refl)
      | inr few ↦
          let test : nat_le n 1024 ≡ true = grind (arith, nat_tests) in
          rw test (agree_at (λ k. int.is_power_of_two k && true) is_ring_size 1024 n (omega arith) refl)
    ]

-- each size divides 2 ^ 16
abbrev divides : ℕ → Bool
divides n = 2 ^ 16 / n * n == 2 ^ 16

quotient : (n : ℕ) → IsTrue (divides n) → 2 ^ 16 ≡ 2 ^ 16 / n * n
quotient n test = grind (arith, nat_tests)

ring_size_divides : (n : ℕ) → n ≤ 1024 → IsTrue (is_ring_size n) → IsTrue (divides n)
ring_size_divides n few test =
    let same : is_ring_size n ≡ (is_ring_size n && divides n) = agree_at is_ring_size (λ k. is_ring_size k && divides k) 1024 n few refl in
    let (size, whole) = and_parts (is_ring_size n) (divides n) (sym same ∙ test) in
    whole

-- a ring has 1 to 1,024 locations, and its size divides 2 ^ 16
pub record IsRingSize (n : ℕ) : Type 0 where
  pub some : 1 ≤ n
  pub few : n ≤ 1024
  pub divides : 2 ^ 16 ≡ 2 ^ 16 / n * n

pub ring_size_facts : (n : ℕ) → IsTrue (is_ring_size n) → IsRingSize n
ring_size_facts n test =
    let most : n ≤ 1024 = grind (arith, nat_tests) in
    record { some = grind (arith, nat_tests); few = most; divides = quotient n (ring_size_divides n most test) }

-- each size is the power of two whose exponent is the number of bits of the size less one
abbrev is_power : ℕ → Bool
is_power n = 2 ^ bit_length 128 (n - 1) == n

power : (n : ℕ) → IsTrue (is_power n) → 2 ^ bit_length 128 (n - 1) ≡ n
power n test = grind (arith, nat_tests)

ring_size_is_power : (n : ℕ) → n ≤ 1024 → IsTrue (is_ring_size n) → IsTrue (is_power n)
ring_size_is_power n few test =
    let same : is_ring_size n ≡ (is_ring_size n && is_power n) = agree_at is_ring_size (λ k. is_ring_size k && is_power k) 1024 n few refl in
    let (size, whole) = and_parts (is_ring_size n) (is_power n) (sym same ∙ test) in
    whole

-- the low bits of an index are its location in a ring
pub masked : (index size : ℕ) → IsTrue (is_ring_size size) → bit_and index (size - 1) ≡ index % size
masked index size test =
    let k : ℕ = bit_length 128 (size - 1) in
    let most : size ≤ 1024 = grind (arith, nat_tests) in
    let whole : 2 ^ k ≡ size = power size (ring_size_is_power size most test) in
    ap (λ (n : ℕ). bit_and index (n - 1)) (sym whole) ∙ and_mask index k ∙ ap (λ (n : ℕ). index % n) whole

or_assoc : (a b c : Bool) → (a || (b || c)) ≡ ((a || b) || c)
or_assoc true b c = refl
or_assoc false b c = refl

pub slots_of_all-append : (us vs : List Unreaped) → slots_of_all (us ++ vs) ≡ slots_of_all us + slots_of_all vs
slots_of_all-append [] vs = omega arith
slots_of_all-append (u ∷ us) vs = omega (arith, slots_of_all-append us vs)

pub holds_tag-append : (tag : ℕ) (us vs : List Unreaped) → holds_tag tag (us ++ vs) ≡ (holds_tag tag us || holds_tag tag vs)
holds_tag-append tag [] vs = refl
holds_tag-append tag (u ∷ us) vs = ap (λ b. u.tag == tag || b) (holds_tag-append tag us vs) ∙ or_assoc (u.tag == tag) (holds_tag tag us) (holds_tag tag vs)
