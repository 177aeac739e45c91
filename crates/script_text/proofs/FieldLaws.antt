-- Facts on bytes in hexadecimal.
use Rattle.std.proofs.Common.{◌≡◌, ℕ, ◌*◌, ◌≤◌, ◌<◌, List, length, Some, None, Result, Ok, Err, refl, ap, ◌∙◌, arith}
use Rattle.std.proofs.lemmas.Bool.Decides.{nat_tests}
use Rattle.hex.specs.Hex.{decode_of}
use Rattle.hex.specs.declared.error.FromHexError.{FromHexError}
use Rattle.hex.proofs.HexLemmas.{decode_of-ok}
use Rattle.script_text.specs.Fields.{if_few, bytes_in}

long_by : (most : ℕ) (digits : List ℕ) (d : Result (List ℕ) FromHexError) → decode_of digits ≡ d → 2 * most < length digits → if_few most d ≡ None
long_by most digits (Err e) is long = refl
long_by most digits (Ok bytes) is long =
    let (even, all, len, bytes_all) = decode_of-ok digits bytes is in
    grind (arith, nat_tests)

-- more than twice as many digits are too many
pub long_bytes : (most : ℕ) (digits : List ℕ) → 2 * most < length digits → bytes_in most digits ≡ None
long_bytes most digits long = long_by most digits (decode_of digits) refl long

fits_by : (most : ℕ) (bytes : List ℕ) → 0 < length bytes → length bytes ≤ most → if_few most (Ok bytes) ≡ Some bytes
fits_by most bytes some few = grind (arith, nat_tests)

-- bytes that were decoded from few digits
pub few_bytes : (most : ℕ) (digits bytes : List ℕ) → decode_of digits ≡ Ok bytes → 0 < length bytes → length digits ≤ 2 * most
    → (bytes_in most digits ≡ Some bytes) × ((1 ≤ length bytes) × (length bytes ≤ most))
few_bytes most digits bytes is some few =
    let (even, all, len, bytes_all) = decode_of-ok digits bytes is in
    let small : length bytes ≤ most = omega arith in
    (ap (if_few most) is ∙ fits_by most bytes some small, (omega arith, small))
