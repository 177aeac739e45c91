-- Numbers as bits of words.
use Rattle.std.proofs.Common.{◌≡◌, ◌≢◌, ℕ, ◌+◌, ◌-◌, ◌*◌, ◌/◌, ◌%◌, ◌^◌, ◌<◌, ◌≤◌, List, ◌∷◌, Option, Some, None, Bool, true, false, not, ◌||◌, ◌&&◌, eqb, length, get_or, replicate, w64, refl, sym, ◌∙◌, ap, inl, inr, min, arith, bit_and, bit_or, get_or-set_other}
use Rattle.std.specs.Prelude.{slice_set, MatchOption}
use Rattle.std.specs.Int.{bit_at, bit_not, trailing_zeros}
use Rattle.std.proofs.lemmas.Bool.{cases_lt, cases_eq, eq-eqb, ne_eqb}
use Rattle.std.proofs.lemmas.List.{get_or-replicate, get_or_past, length-replicate}
use Rattle.std.proofs.lemmas.Grind.{get_or_default_zero, get_or-set_at}
use Rattle.std.proofs.lemmas.Nat.{and_le_l}
use Rattle.std.proofs.lemmas.Nat.Bits.{bit_at-zero, shr_and_one, bit_at_and, bit_at_set_same, bit_at_set_other, bit_at_clear_same, bit_at_clear_other, bit_at-trailing_zeros, bit_at_mask_inside, bit_at_mask_below, bit_at-lt, ones_shl}
use Rattle.vq_posted.specs.Free.{is_in}
use Rattle.vq_posted.specs.Members.{is_member, IsNext}

or_turned : (a b m : Bool) → (a || (b || m)) ≡ ((b || a) || m)
or_turned true true m = refl
or_turned true false m = refl
or_turned false true m = refl
or_turned false false m = refl

and_turned : (a b m : Bool) → (not a && (not b && m)) ≡ (not (b || a) && m)
and_turned true true m = refl
and_turned true false m = refl
and_turned false true m = refl
and_turned false false m = refl

-- a number whose word is zero is no member
pub member_of_zero : (words : List ℕ) (n : ℕ) → get_or words (n / 64) 0 ≡ 0 → is_member words n ≡ false
unfolding is_member
member_of_zero words n h = ap (λ (w : ℕ). eqb (bit_at w (n % 64)) 1) h ∙ ap (λ (b : ℕ). eqb b 1) (bit_at-zero (n % 64))

-- nor one past the words
pub member_past : (words : List ℕ) (n : ℕ) → 64 * length words ≤ n → is_member words n ≡ false
member_past words n h = member_of_zero words n (get_or_past words (n / 64) 0 (omega arith))

-- words that are all zero have no member
pub member_of_zeros : (count n : ℕ) → is_member (replicate count 0) n ≡ false
member_of_zeros count n =
    elim (cases_lt (n / 64) count) [
      | inl h ↦ member_of_zero (replicate count 0) n (get_or-replicate count (n / 64) 0 0 h)
      | inr h ↦ member_of_zero (replicate count 0) n (get_or_past (replicate count 0) (n / 64) 0 (omega (arith, length-replicate {A = ℕ})))
    ]

-- the bit of a number tells whether it is a member
pub member_by_bit : (words : List ℕ) (i word n : ℕ) → i ≡ n / 64 → i < length words → word ≡ get_or words i word → eqb (bit_and (word / 2 ^ (n % 64)) 1) 1 ≡ is_member words n
unfolding is_member
member_by_bit words i word n e h is =
    ap (λ (b : ℕ). eqb b 1) (shr_and_one word (n % 64))
    ∙ ap (λ (w : ℕ). eqb (bit_at w (n % 64)) 1) (is ∙ get_or_default_zero words i word h ∙ ap (λ (k : ℕ). get_or words k 0) e)

-- a word at another location is the same, and so are the members there
member_elsewhere : (words : List ℕ) (i word n : ℕ) → n / 64 ≢ i → is_member (slice_set words i word) n ≡ is_member words n
unfolding is_member
member_elsewhere words i word n d = ap (λ (w : ℕ). eqb (bit_at w (n % 64)) 1) (get_or-set_other words i (n / 64) word 0 d)

member_here : (words : List ℕ) (i word n : ℕ) → n / 64 ≡ i → i < length words → is_member (slice_set words i word) n ≡ eqb (bit_at word (n % 64)) 1
unfolding is_member
member_here words i word n e h = ap (λ (w : ℕ). eqb (bit_at w (n % 64)) 1) (get_or-set_at words i (n / 64) word 0 e h)

member_is : (words : List ℕ) (i word n : ℕ) → n / 64 ≡ i → i < length words → word ≡ get_or words i word → eqb (bit_at word (n % 64)) 1 ≡ is_member words n
unfolding is_member
member_is words i word n e h is =
    ap (λ (w : ℕ). eqb (bit_at w (n % 64)) 1) (is ∙ get_or_default_zero words i word h ∙ ap (λ (k : ℕ). get_or words k 0) (sym e))

-- a bit is set
pub member_set : (words : List ℕ) (i word number n : ℕ) → i ≡ number / 64 → i < length words → word ≡ get_or words i word
    → is_member (slice_set words i (bit_or word (1 * 2 ^ (number % 64) % 2 ^ 64))) n ≡ (eqb number n || is_member words n)
member_set words i word number n at h is =
    let new : ℕ = bit_or word (1 * 2 ^ (number % 64) % 2 ^ 64) in
    elim (cases_eq (n / 64) i) [
      | inl e ↦ elim (cases_eq (n % 64) (number % 64)) [
        | inl b ↦
            let same : n ≡ number = omega arith in
            let on : eqb number n ≡ true = eq-eqb number n (sym same) in
            member_here words i new n e h
            ∙ ap (λ (k : ℕ). eqb (bit_at new k) 1) b
            ∙ ap (λ (x : ℕ). eqb x 1) (bit_at_set_same w64 word (number % 64) (omega arith))
            ∙ sym (ap (λ (x : Bool). x || is_member words n) on)
        | inr b ↦
            let off : eqb number n ≡ false = ne_eqb number n (λ w. b (ap (λ (k : ℕ). k % 64) (sym w))) in
            member_here words i new n e h
            ∙ ap (λ (x : ℕ). eqb x 1) (bit_at_set_other w64 word (number % 64) (omega arith) (n % 64) b)
            ∙ member_is words i word n e h is
            ∙ sym (ap (λ (x : Bool). x || is_member words n) off)
      ]
      | inr d ↦
          let off : eqb number n ≡ false = ne_eqb number n (λ w. d (ap (λ (k : ℕ). k / 64) (sym w) ∙ sym at)) in
          member_elsewhere words i new n d ∙ sym (ap (λ (x : Bool). x || is_member words n) off)
    ]

-- a bit is cleared
pub member_clear : (words : List ℕ) (i word number n : ℕ) → i ≡ number / 64 → i < length words → word ≡ get_or words i word
    → is_member (slice_set words i (bit_and word (bit_not w64 (1 * 2 ^ (number % 64) % 2 ^ 64)))) n ≡ (not (eqb number n) && is_member words n)
member_clear words i word number n at h is =
    let new : ℕ = bit_and word (bit_not w64 (1 * 2 ^ (number % 64) % 2 ^ 64)) in
    elim (cases_eq (n / 64) i) [
      | inl e ↦ elim (cases_eq (n % 64) (number % 64)) [
        | inl b ↦
            let same : n ≡ number = omega arith in
            let on : eqb number n ≡ true = eq-eqb number n (sym same) in
            member_here words i new n e h
            ∙ ap (λ (k : ℕ). eqb (bit_at new k) 1) b
            ∙ ap (λ (x : ℕ). eqb x 1) (bit_at_clear_same w64 word (number % 64) (omega arith))
            ∙ sym (ap (λ (x : Bool). not x && is_member words n) on)
        | inr b ↦
            let off : eqb number n ≡ false = ne_eqb number n (λ w. b (ap (λ (k : ℕ). k % 64) (sym w))) in
            member_here words i new n e h
            ∙ ap (λ (x : ℕ). eqb x 1) (bit_at_clear_other w64 word (number % 64) (omega arith) (n % 64) (omega arith) b)
            ∙ member_is words i word n e h is
            ∙ sym (ap (λ (x : Bool). not x && is_member words n) off)
      ]
      | inr d ↦
          let off : eqb number n ≡ false = ne_eqb number n (λ w. d (ap (λ (k : ℕ). k / 64) (sym w) ∙ sym at)) in
          member_elsewhere words i new n d ∙ sym (ap (λ (x : Bool). not x && is_member words n) off)
    ]

-- the lowest 1 of a word that isn't zero, where the words before it from `first` on are zero
pub next_in_word : (words : List ℕ) (first i word : ℕ) → first ≤ i → i < length words → word ≡ get_or words i word → 0 < word → word < 2 ^ 64
    → ((k : ℕ) → first ≤ k → k < i → get_or words k 0 ≡ 0) → IsNext words (64 * first) (64 * i + trailing_zeros w64 word)
next_in_word words first i word low h is some bound zeros =
    let t : ℕ = trailing_zeros w64 word in
    let (inside, on, off) = bit_at-trailing_zeros w64 word some bound in
    let location : (64 * i + t) / 64 ≡ i = omega arith in
    let bit : (64 * i + t) % 64 ≡ t = omega arith in
    record {
      low = omega arith;
      inside = omega arith;
      member =
          sym (member_is words i word (64 * i + t) location h is)
          ∙ ap (λ (k : ℕ). eqb (bit_at word k) 1) bit
          ∙ ap (λ (x : ℕ). eqb x 1) on;
      none_before = λ k from below.
          elim (cases_eq (k / 64) i) [
            | inl e ↦ sym (member_is words i word k e h is) ∙ ap (λ (x : ℕ). eqb x 1) (off (k % 64) (omega arith))
            | inr d ↦ member_of_zero words k (zeros (k / 64) (omega arith) (omega arith))
          ];
    }

-- words that are zero from `first` on have no member there
pub none_in_words : (words : List ℕ) (first : ℕ) → ((k : ℕ) → first ≤ k → k < length words → get_or words k 0 ≡ 0) → (n : ℕ) → 64 * first ≤ n → is_member words n ≡ false
none_in_words words first zeros n h =
    elim (cases_lt (n / 64) (length words)) [
      | inl low ↦ member_of_zero words n (zeros (n / 64) (omega arith) low)
      | inr high ↦ member_past words n (omega arith)
    ]

min_zero : (b : ℕ) → min b 1 ≡ 0 → b ≡ 0
min_zero b h = omega arith

min_of_zero : (b : ℕ) → min b 0 ≡ 1 → ⊥
min_of_zero b h = omega arith

min_one : (a b : ℕ) → a < 2 → min a b ≡ 1 → a ≡ 1
min_one a b small h = omega arith

-- a bit of a word behind a mask
masked_bit : (word k j : ℕ) → k ≤ 64 → bit_at (bit_and word (18446744073709551615 * 2 ^ k % 2 ^ 64)) j ≡ min (bit_at word j) (bit_at (2 ^ 64 - 2 ^ k) j)
masked_bit word k j h = bit_at_and word _ j ∙ ap (λ (m : ℕ). min (bit_at word j) (bit_at m j)) (ones_shl 64 k h)

-- a bit that is off behind the mask, and not cut off by it, is off
masked_off : (word k j : ℕ) → k ≤ j → j < 64 → bit_at (bit_and word (18446744073709551615 * 2 ^ k % 2 ^ 64)) j ≡ 0 → bit_at word j ≡ 0
masked_off word k j low high off =
    let both : min (bit_at word j) (bit_at (2 ^ 64 - 2 ^ k) j) ≡ 0 = sym (masked_bit word k j (omega arith)) ∙ off in
    let one : bit_at (2 ^ 64 - 2 ^ k) j ≡ 1 = bit_at_mask_inside k 64 j low high in
    let least : min (bit_at word j) 1 ≡ 0 = sym (ap (min (bit_at word j)) one) ∙ both in
    let small : bit_at word j < 2 = bit_at-lt word j in
    min_zero (bit_at word j) least

-- one that is on behind the mask is on, and not cut off
masked_on : (word k j : ℕ) → k ≤ 64 → bit_at (bit_and word (18446744073709551615 * 2 ^ k % 2 ^ 64)) j ≡ 1 → (bit_at word j ≡ 1) × (k ≤ j)
masked_on word k j h on =
    let both : min (bit_at word j) (bit_at (2 ^ 64 - 2 ^ k) j) ≡ 1 = sym (masked_bit word k j h) ∙ on in
    elim (cases_lt j k) [
      | inl low ↦
          let zero : bit_at (2 ^ 64 - 2 ^ k) j ≡ 0 = bit_at_mask_below k 64 j low in
          let least : min (bit_at word j) 0 ≡ 1 = sym (ap (min (bit_at word j)) zero) ∙ both in
          absurd (min_of_zero (bit_at word j) least)
      | inr high ↦ (min_one (bit_at word j) (bit_at (2 ^ 64 - 2 ^ k) j) (bit_at-lt word j) both, high)
    ]

-- the lowest 1 behind the mask
pub next_behind_mask : (words : List ℕ) (from i word : ℕ) → i ≡ from / 64 → i < length words → word ≡ get_or words i word
    → 0 < bit_and word (18446744073709551615 * 2 ^ (from % 64) % 2 ^ 64) → word < 2 ^ 64
    → IsNext words from (64 * i + trailing_zeros w64 (bit_and word (18446744073709551615 * 2 ^ (from % 64) % 2 ^ 64)))
next_behind_mask words from i word at h is some bound =
    let masked : ℕ = bit_and word (18446744073709551615 * 2 ^ (from % 64) % 2 ^ 64) in
    let t : ℕ = trailing_zeros w64 masked in
    let small : masked ≤ word = and_le_l word _ in
    let (inside, on, off) = bit_at-trailing_zeros w64 masked some (omega arith) in
    let (bit_on, cut) = masked_on word (from % 64) t (omega arith) on in
    let location : (64 * i + t) / 64 ≡ i = omega arith in
    let bit : (64 * i + t) % 64 ≡ t = omega arith in
    record {
      low = omega arith;
      inside = omega arith;
      member =
          sym (member_is words i word (64 * i + t) location h is)
          ∙ ap (λ (k : ℕ). eqb (bit_at word k) 1) bit
          ∙ ap (λ (x : ℕ). eqb x 1) bit_on;
      none_before = λ k low below.
          let here : k / 64 ≡ i = omega arith in
          sym (member_is words i word k here h is)
          ∙ ap (λ (x : ℕ). eqb x 1) (masked_off word (from % 64) (k % 64) (omega arith) (omega arith) (off (k % 64) (omega arith)));
    }

-- where none is behind the mask, the first in the words that follow is the next
none_behind_mask : (words : List ℕ) (from i word : ℕ) → i ≡ from / 64 → i < length words → word ≡ get_or words i word
    → bit_and word (18446744073709551615 * 2 ^ (from % 64) % 2 ^ 64) ≡ 0 → (k : ℕ) → from ≤ k → k < 64 * (i + 1) → is_member words k ≡ false
none_behind_mask words from i word at h is none k low high =
    let here : k / 64 ≡ i = omega arith in
    sym (member_is words i word k here h is)
    ∙ ap (λ (x : ℕ). eqb x 1) (masked_off word (from % 64) (k % 64) (omega arith) (omega arith) (ap (λ (w : ℕ). bit_at w (k % 64)) none ∙ bit_at-zero (k % 64)))

next_after_mask : (words : List ℕ) (from i word : ℕ) → i ≡ from / 64 → i < length words → word ≡ get_or words i word
    → bit_and word (18446744073709551615 * 2 ^ (from % 64) % 2 ^ 64) ≡ 0 → (n : ℕ) → IsNext words (64 * (i + 1)) n → IsNext words from n
next_after_mask words from i word at h is none n next =
    let low : 64 * (i + 1) ≤ n = next.low in
    record {
      low = omega arith;
      inside = next.inside;
      member = next.member;
      none_before = λ k from_k below.
          elim (cases_lt k (64 * (i + 1))) [
            | inl before ↦ none_behind_mask words from i word at h is none k from_k before
            | inr after ↦ next.none_before k after below
          ];
    }

none_after_mask : (words : List ℕ) (from i word : ℕ) → i ≡ from / 64 → i < length words → word ≡ get_or words i word
    → bit_and word (18446744073709551615 * 2 ^ (from % 64) % 2 ^ 64) ≡ 0
    → ((k : ℕ) → 64 * (i + 1) ≤ k → is_member words k ≡ false) → (k : ℕ) → from ≤ k → is_member words k ≡ false
none_after_mask words from i word at h is none rest k low =
    elim (cases_lt k (64 * (i + 1))) [ inl before ↦ none_behind_mask words from i word at h is none k low before | inr after ↦ rest k after ]

pub after_mask : (words : List ℕ) (from i word : ℕ) (r : Option ℕ) → i ≡ from / 64 → i < length words → word ≡ get_or words i word
    → bit_and word (18446744073709551615 * 2 ^ (from % 64) % 2 ^ 64) ≡ 0
    → MatchOption r ((k : ℕ) → 64 * (i + 1) ≤ k → is_member words k ≡ false) (IsNext words (64 * (i + 1)))
    → MatchOption r ((k : ℕ) → from ≤ k → is_member words k ≡ false) (IsNext words from)
after_mask words from i word None at h is none rest = none_after_mask words from i word at h is none rest
after_mask words from i word (Some n) at h is none next = next_after_mask words from i word at h is none n next

-- several numbers, one after the other
pub also_inserted : (x : ℕ) (rest : List ℕ) (n : ℕ) (m : Bool) → (is_in n rest || (eqb x n || m)) ≡ (is_in n (x ∷ rest) || m)
also_inserted x rest n m = or_turned (is_in n rest) (eqb x n) m

pub also_removed : (x : ℕ) (rest : List ℕ) (n : ℕ) (m : Bool) → (not (is_in n rest) && (not (eqb x n) && m)) ≡ (not (is_in n (x ∷ rest)) && m)
also_removed x rest n m = and_turned (is_in n rest) (eqb x n) m
