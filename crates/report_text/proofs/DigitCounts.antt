-- How many digits numbers and bytes have.
use Rattle.std.proofs.Common.{ℕ, ◌+◌, ◌*◌, ◌^◌, ◌<◌, ◌≤◌, List, [], ◌∷◌, length, arith, length-append}
use Rattle.std.specs.Fmt.{decimal}
use Rattle.std.proofs.lemmas.Fmt.{length-decimal-le}
use Rattle.byteorder.specs.Numbers.{length-bytes_high_first}
use Rattle.hex.specs.Hex.{lower_digits}
use Rattle.hex.proofs.HexLemmas.{length-encode_with}
use Rattle.report_text.specs.Words.{hex}

-- a number of 64 bits has at most 20 digits
pub length_decimal : (n : ℕ) → n < 2 ^ 64 → length (decimal n) ≤ 20
length_decimal n h = length-decimal-le 20 n (omega arith) (omega arith) h

-- a byte has two hexadecimal digits, and where there is no byte one character stands for that
pub length_hex : (bytes : List ℕ) → length (hex bytes) ≤ 2 * length bytes + 1
length_hex [] = omega arith
length_hex (b ∷ bytes) = omega (arith, length-encode_with lower_digits (b ∷ bytes))

-- how many digits bytes have
pub ruleset lengths = (length-append, length-encode_with, length-bytes_high_first, length_hex)
