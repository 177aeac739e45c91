-- Facts on numbers in digits.
use Rattle.std.proofs.Common.{◌≡◌, ℕ, ◌+◌, ◌*◌, ◌^◌, ◌≤◌, ◌<◌, Bool, true, false, List, [], ◌∷◌, length, drop, get_or, Option, Some, None, refl, ap, arith}
use Rattle.std.specs.Prelude.{if◌then◌else◌, ◌&&◌, nat_le, nat_lt}
use Rattle.std.specs.List.{fold}
use Rattle.std.specs.Char.{digit_value}
use Rattle.std.proofs.Math.Nat.{mul-le-mul_left}
use Rattle.std.proofs.lemmas.Bool.Decides.{nat_tests}
use Rattle.std.proofs.lemmas.List.{drop_more}
use Rattle.script_text.specs.Fields.{are_digits, number_in, with_digit}

-- the number of digits behind those of n, within bounds
abbrev pub number_after : (base least most n : ℕ) → List ℕ → Option ℕ
number_after base least most n digits =
    if are_digits base digits && nat_le least (fold (λ m b. base * m + digit_value b) n digits) && nat_le (fold (λ m b. base * m + digit_value b) n digits) most
    then Some (fold (λ m b. base * m + digit_value b) n digits)
    else None

pub number_start : (base digits least most : ℕ) (word : List ℕ) → 1 ≤ length word → length word ≤ digits → number_after base least most 0 word ≡ number_in base digits least most word
number_start base digits least most word some few = grind (arith, nat_tests)

-- a number only grows by its digits
grows : (base n : ℕ) (digits : List ℕ) → 2 ≤ base → n ≤ fold (λ m b. base * m + digit_value b) n digits
grows base n [] two = omega arith
grows base n (b ∷ bytes) two =
    let doubled = mul-le-mul_left n two in
    let further = grows base (base * n + digit_value b) bytes two in
    omega (arith, doubled, further)

stuck_by : (t u : Bool) (base least most n b : ℕ) (bytes : List ℕ) → 2 ≤ base → most < 2 ^ 64 → nat_lt (digit_value b) base ≡ t → nat_lt (base * n + digit_value b) (2 ^ 64) ≡ u
    → (if t && u then Some (base * n + digit_value b) else None) ≡ None → number_after base least most n (b ∷ bytes) ≡ None
stuck_by true true base least most n b bytes two small et eu none = absurd cc
stuck_by true false base least most n b bytes two small et eu none =
    let more = grows base (base * n + digit_value b) bytes two in
    grind (arith, nat_tests, more)
stuck_by false u base least most n b bytes two small et eu none = rw et refl

-- a byte that is no digit, or makes the number too great, makes that of all digits no number
pub number_stuck : (base least most n b : ℕ) (bytes : List ℕ) → 2 ≤ base → most < 2 ^ 64 → with_digit base n b ≡ None → number_after base least most n (b ∷ bytes) ≡ None
number_stuck base least most n b bytes two small none =
    stuck_by (nat_lt (digit_value b) base) (nat_lt (base * n + digit_value b) (2 ^ 64)) base least most n b bytes two small refl refl none

pub at_digit : (base least most n i : ℕ) (word : List ℕ) → i < length word → number_after base least most n (drop i word) ≡ number_after base least most n (get_or word i 0 ∷ drop (i + 1) word)
at_digit base least most n i word h = ap (number_after base least most n) (drop_more word i 0 h)
