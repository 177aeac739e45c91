use Rattle.std.proofs.Common.{◌≡◌, ◌≢◌, ℕ, zero, suc, ◌+◌, ◌-◌, ◌*◌, ◌/◌, ◌%◌, ◌^◌, ◌<◌, ◌≤◌, ◌==◌, ◌&&◌, inl, inr, Bool, true, false, cond, nat_lt, List, [], ◌∷◌, ◌++◌, length, take, drop, get_or, slice_index, replicate, refl, sym, ap, ◌∙◌, arith, append_assoc, append-nil, length-append}
use Rattle.std.specs.Fmt.{digit_glyph, digits, digits_onto}
use Rattle.std.specs.Int.{byte_at, bytes_high_first}
use Rattle.std.specs.List.{prefix_len}
use Rattle.std.proofs.lemmas.Bool.{and_parts, cases_lt, eqb-true}
use Rattle.std.proofs.lemmas.Bool.Decides.{eqb_tells}
use Rattle.std.proofs.lemmas.Grind.{common_steps}
use Rattle.std.proofs.lemmas.Fmt.{hex_one_digit}
use Rattle.std.proofs.lemmas.List.{length-replicate, replicate-append-replicate}
use Rattle.std.proofs.Math.Nat.{div-div-eq-div-mul, pow-suc, pow-succ'}
use Rattle.hex.specs.Hex.{encode_lower, encode_with, lower_digits}
use Rattle.hex.proofs.HexLemmas.{length-encode_with}
use Rattle.report_text.specs.Words.{hex_number, low_digits, zero_digit}

-- a byte above the lowest is that of the number without its lowest byte
byte_at-suc : (k n : ℕ) → byte_at (suc k) n ≡ byte_at k (n / 256)
byte_at-suc zero n = refl
byte_at-suc (suc k) n =
    ap (λ p. n / p % 256) (pow-succ' 256 (suc k)) ∙ ap (λ q. q % 256) (sym (div-div-eq-div-mul n 256 (256 ^ suc k)))

-- the lowest byte stands at the end
bytes-end : (k n : ℕ) → bytes_high_first (suc k) n ≡ bytes_high_first k (n / 256) ++ n % 256 ∷ []
bytes-end zero n = refl
bytes-end (suc k) n =
    ap (λ b. b ∷ bytes_high_first (suc k) n) (byte_at-suc k n) ∙ ap (λ bs. byte_at k (n / 256) ∷ bs) (bytes-end k n)

-- the test of the first digits of the table
abbrev same_below : ℕ → Bool
same_below zero = true
same_below (suc n) = (slice_index lower_digits n == digit_glyph false n) && same_below n

same_below-at : (n k : ℕ) → same_below n ≡ true → k < n → slice_index lower_digits k ≡ digit_glyph false k
same_below-at zero k h l = absurd (omega arith)
same_below-at (suc n) k h l =
    let parts = and_parts (slice_index lower_digits n == digit_glyph false n) (same_below n) h in
    elim (cases_lt k n) [
      | inl below ↦ same_below-at n k parts.1 below
      | inr top ↦
          let e : k ≡ n = omega arith in
          rw e (eqb-true _ _ parts.0)
    ]

-- a digit of the table
glyph : (d : ℕ) → d < 16 → slice_index lower_digits d ≡ digit_glyph false d
glyph d h = same_below-at 16 d refl h

-- the digits of one list of bytes after another
pub encode-append : (xs ys : List ℕ) → encode_lower (xs ++ ys) ≡ encode_lower xs ++ encode_lower ys
unfolding encode_with
encode-append [] ys = refl
encode-append (b ∷ xs) ys = ap (λ z. slice_index lower_digits (b / 16) ∷ slice_index lower_digits (b % 16) ∷ z) (encode-append xs ys)

-- the two digits of a number's lowest byte
encode-byte : (n : ℕ) → encode_lower (n % 256 ∷ []) ≡ digit_glyph false (n / 16 % 16) ∷ digit_glyph false (n % 16) ∷ []
unfolding encode_with
encode-byte n =
    let high : n % 256 / 16 ≡ n / 16 % 16 = omega arith in
    let low : n % 256 % 16 ≡ n % 16 = omega arith in
    let first = ap (slice_index lower_digits) high ∙ glyph (n / 16 % 16) (omega arith) in
    let second = ap (slice_index lower_digits) low ∙ glyph (n % 16) (omega arith) in
    ap (λ d. d ∷ slice_index lower_digits (n % 256 % 16) ∷ []) first ∙ ap (λ d. digit_glyph false (n / 16 % 16) ∷ d ∷ []) second

-- the lowest k digits of a number, and more after them
abbrev low : ℕ → ℕ → List ℕ → List ℕ
low zero n more = more
low (suc k) n more = low k (n / 16) (digit_glyph false (n % 16) ∷ more)

-- bytes have two digits each
encode-low : (m k n : ℕ) (more : List ℕ) → k ≡ 2 * m → encode_lower (bytes_high_first m n) ++ more ≡ low k n more
unfolding encode_with
encode-low zero k n more e = let none : k ≡ 0 = omega arith in rw none refl
encode-low (suc m) k n more e =
    let two : k ≡ suc (suc (2 * m)) = omega arith in
    let rest = encode-low m (2 * m) (n / 256) (digit_glyph false (n / 16 % 16) ∷ digit_glyph false (n % 16) ∷ more) refl in
    let byte : n / 16 / 16 ≡ n / 256 = omega arith in
    ap (λ bs. encode_lower bs ++ more) (bytes-end m n)
    ∙ ap (λ ds. ds ++ more) (encode-append (bytes_high_first m (n / 256)) (n % 256 ∷ []) ∙ ap (λ ds. encode_lower (bytes_high_first m (n / 256)) ++ ds) (encode-byte n))
    ∙ append_assoc (encode_lower (bytes_high_first m (n / 256))) _ more
    ∙ rest
    ∙ ap (λ q. low (2 * m) q (digit_glyph false (n / 16 % 16) ∷ digit_glyph false (n % 16) ∷ more)) (sym byte)
    ∙ ap (λ j. low j n more) (sym two)

-- 0 has zeros alone
low-zero : (k : ℕ) (more : List ℕ) → low k 0 more ≡ replicate k zero_digit ++ more
low-zero zero more = refl
low-zero (suc k) more =
    low-zero k (zero_digit ∷ more)
    ∙ sym (append_assoc (replicate k zero_digit) (zero_digit ∷ []) more)
    ∙ ap (λ zs. zs ++ more) (replicate-append-replicate k 1 zero_digit ∙ ap (λ j. replicate j zero_digit) {x = k + 1} {y = suc k} (omega arith))

-- one digit is left, or more
digits_onto-by : (f n : ℕ) (more : List ℕ) (b : Bool) → (n / 16 == 0) ≡ b
    → digits_onto (suc f) 16 false n more
    ≡ cond b (digit_glyph false (n % 16) ∷ more) (digits_onto f 16 false (n / 16) (digit_glyph false (n % 16) ∷ more))
digits_onto-by f n more b e =
    ap (λ t. cond t (digit_glyph false (n % 16) ∷ more) (digits_onto f 16 false (n / 16) (digit_glyph false (n % 16) ∷ more))) e

-- a number above 0 has digits
some_digits : (k m : ℕ) → m ≢ 0 → m < 16 ^ k → 0 < k
some_digits zero m some h = absurd (omega arith)
some_digits (suc k) m some h = omega arith

-- a number that needs fewer digits has zeros before them
low-digits_onto : (k f n : ℕ) (more : List ℕ) → 0 < k → k ≤ f → n < 16 ^ k
    → low k n more ≡ replicate (k + length more - length (digits_onto f 16 false n more)) zero_digit ++ digits_onto f 16 false n more
low-digits_onto zero f n more some few h = absurd (omega arith)
low-digits_onto (suc k) zero n more some few h = absurd (omega arith)
low-digits_onto (suc k) (suc f) n more some few h =
    let g = digit_glyph false (n % 16) in
    elim (eqb_tells (n / 16) 0) [
      | inl one ↦
          let count : suc k + length more - length (g ∷ more) ≡ k = omega arith in
          rw (digits_onto-by f n more true one.0, count) (ap (λ q. low k q (g ∷ more)) one.1 ∙ low-zero k (g ∷ more))
      | inr many ↦
          let front : n / 16 < 16 ^ k = omega (arith, pow-suc 16 k) in
          let ds = digits_onto f 16 false (n / 16) (g ∷ more) in
          let count : k + length (g ∷ more) - length ds ≡ suc k + length more - length ds = omega arith in
          rw (digits_onto-by f n more false many.0)
          (low-digits_onto k f (n / 16) (g ∷ more) (some_digits k (n / 16) many.1 front) (omega arith) front
          ∙ ap (λ j. replicate j zero_digit ++ ds) count)
    ]

-- only 0 is printed by the digit 0
glyph_some : (d : ℕ) → 0 < d → digit_glyph false d ≢ zero_digit
glyph_some d some = by (nat_lt d 10)
  where
    by : (b : Bool) → cond b (48 + d) (87 + d) ≢ zero_digit
    by true e = omega arith
    by false e = omega arith

-- the first digit of a number above 0 is not 0
first_digit : (f n : ℕ) (more : List ℕ) → 0 < n → n < 16 ^ f → get_or (digits_onto f 16 false n more) 0 0 ≢ zero_digit
first_digit zero n more some h = absurd (omega arith)
first_digit (suc f) n more some h =
    elim (eqb_tells (n / 16) 0) [
      | inl one ↦ let e = one.1 in rw (digits_onto-by f n more true one.0) (glyph_some (n % 16) (omega arith))
      | inr many ↦
          let e = many.1 in
          rw (digits_onto-by f n more false many.0)
          (first_digit f (n / 16) (digit_glyph false (n % 16) ∷ more) (omega arith) (omega (arith, pow-suc 16 f)))
    ]

-- without the zeros before them, but for those that make up `least` digits
trimmed : (k m least : ℕ) (ds : List ℕ) → 0 < least → m + least ≡ k + length ds → (get_or ds 0 0 ≡ zero_digit → length ds ≡ 1)
    → drop (prefix_len (λ d. d == zero_digit) (take m (replicate k zero_digit ++ ds))) (replicate k zero_digit ++ ds)
    ≡ replicate (least - length ds) zero_digit ++ ds
trimmed zero zero least ds some count first = let none : least - length ds ≡ 0 = omega arith in rw none refl
trimmed zero (suc m) least [] some count first = absurd (omega arith)
trimmed zero (suc m) least (d ∷ ds) some count first =
    let none : least - length (d ∷ ds) ≡ 0 = omega arith in
    elim (eqb_tells d zero_digit) [
      | inl same ↦ let one : length (d ∷ ds) ≡ 1 = first same.1 in absurd (omega arith)
      | inr other ↦
          let stops : prefix_len (λ x. x == zero_digit) (d ∷ take m ds) ≡ 0 = ap (λ b. cond b (1 + prefix_len (λ x. x == zero_digit) (take m ds)) 0) other.0 in
          rw (stops, none) refl
    ]
trimmed (suc k) zero least ds some count first = let all : least - length ds ≡ suc k = omega arith in rw all refl
trimmed (suc k) (suc m) least ds some count first =
    let after : 1 + prefix_len (λ d. d == zero_digit) (take m (replicate k zero_digit ++ ds)) ≡ suc (prefix_len (λ d. d == zero_digit) (take m (replicate k zero_digit ++ ds))) = omega arith in
    rw after (trimmed k m least ds some (omega arith) first)

-- the digits of a number, however many it may have at most
digits-onto : (f n : ℕ) → f ≡ 64 → digits 16 false n ≡ digits_onto f 16 false n []
unfolding digits
digits-onto f n e = ap (λ j. digits_onto j 16 false n []) (sym e)

-- the first of them is 0 where it is the only one
first_of_digits : (f n : ℕ) → f ≡ 64 → n < 16 ^ f → get_or (digits 16 false n) 0 0 ≡ zero_digit → length (digits 16 false n) ≡ 1
first_of_digits f n e h first =
    elim (eqb_tells n 0) [
      | inl none ↦ ap (λ j. length (digits 16 false j)) none.1 ∙ ap length (hex_one_digit false 0 (omega arith))
      | inr some ↦
          let other = some.1 in
          absurd (first_digit f n [] (omega arith) h (ap (λ ds. get_or ds 0 0) (sym (digits-onto f n e)) ∙ first))
    ]

-- bytes of a number are its digits after zeros
encode-digits : (m k f n : ℕ) → k ≡ 2 * m → 0 < k → k ≤ f → f ≡ 64 → n < 16 ^ k
    → encode_lower (bytes_high_first m n) ≡ replicate (k - length (digits 16 false n)) zero_digit ++ digits 16 false n
encode-digits m k f n e some few is h =
    let count : k + 0 - length (digits 16 false n) ≡ k - length (digits 16 false n) = omega arith in
    sym (append-nil (encode_lower (bytes_high_first m n)))
    ∙ encode-low m k n [] e
    ∙ low-digits_onto k f n [] some few h
    ∙ ap (λ ds. replicate (k + 0 - length ds) zero_digit ++ ds) (sym (digits-onto f n is))
    ∙ ap (λ j. replicate j zero_digit ++ digits 16 false n) count

-- a number of 64 bits has at most 16 digits
length-digits-le : (n : ℕ) → n < 2 ^ 64 → length (digits 16 false n) ≤ 16
length-digits-le n h =
    let ds = digits 16 false n in
    let zeros : encode_lower (bytes_high_first 8 n) ≡ replicate (16 - length ds) zero_digit ++ ds = encode-digits 8 16 64 n refl (omega arith) (omega arith) refl (omega arith) in
    let both : 16 ≡ 16 - length ds + length ds = sym (length-encode_with lower_digits (bytes_high_first 8 n)) ∙ ap length zeros ∙ simp (length-append, length-replicate) in
    omega arith

-- also with the zeros before them
pub length-hex_number-le : (least n : ℕ) → least ≤ 16 → n < 2 ^ 64 → length (hex_number least n) ≤ 16
length-hex_number-le least n few h =
    let ds = digits 16 false n in
    let all : length (hex_number least n) ≡ least - length ds + length ds = simp (length-append, length-replicate) in
    omega (arith, length-digits-le n h)

-- the digits of 8 bytes without the zeros before them
pub hex_number-trimmed : (least n : ℕ) (all : List ℕ) → 0 < least → least ≤ 16 → n < 2 ^ 64 → all ≡ low_digits 8 n
    → let zeros = prefix_len (λ d. d == zero_digit) (take (16 - least) all) in take (16 - zeros) (drop zeros all) ≡ hex_number least n
hex_number-trimmed least n all some few h e =
    let ds = digits 16 false n in
    let zeros = prefix_len (λ d. d == zero_digit) (take (16 - least) all) in
    let is : all ≡ replicate (16 - length ds) zero_digit ++ ds = e ∙ encode-digits 8 16 64 n refl (omega arith) (omega arith) refl (omega arith) in
    let sixteen : length all ≡ 16 = ap length e ∙ length-encode_with lower_digits (bytes_high_first 8 n) in
    let fit : length ds ≤ 16 = length-digits-le n h in
    let rest : drop zeros all ≡ hex_number least n =
    rw is (trimmed (16 - length ds) (16 - least) least ds some (omega arith) (first_of_digits 64 n refl (omega arith))) in
    let whole : take (16 - zeros) (drop zeros all) ≡ drop zeros all = grind (arith, common_steps) in
    whole ∙ rest
