use Rattle.std.proofs.Common.{◌≡◌, ℕ, ◌<◌, List, [], ◌∷◌, length, take, drop, refl, sym, ap, ◌∙◌, arith}
use Rattle.std.proofs.lemmas.List.{take-append-drop}
use Rattle.vt_outside.specs.Text.{IsPrefixOf}
use Rattle.hex.specs.Hex.{encode_lower, encode_with}
use Rattle.report_text.specs.Words.{hex}
use Rattle.report_text.proofs.HexNumber.{encode-append}

-- no bytes have no digits
pub digits_none : encode_lower [] ≡ []
unfolding encode_with
digits_none = refl

-- bytes that are there are their digits
pub hex_digits : (xs : List ℕ) → 0 < length xs → hex xs ≡ encode_lower xs
hex_digits [] h = absurd (omega arith)
hex_digits (b ∷ xs) h = refl

-- the digits of the first bytes come first
pub digits_front : (n : ℕ) (xs : List ℕ) → 0 < length xs → IsPrefixOf (encode_lower (take n xs)) (hex xs)
digits_front n xs h = (
  encode_lower (drop n xs),
  sym (encode-append (take n xs) (drop n xs)) ∙ ap encode_lower (take-append-drop n xs) ∙ sym (hex_digits xs h),
)
