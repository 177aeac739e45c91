-- One step of a search through the registers of a page.
use Rattle.std.proofs.Common.{◌≡◌, ℕ, ◌+◌, ◌<◌, List, ◌∷◌, length, drop, Some, suc, true, false, refl, ◌∙◌, ap, add-one, drop-cons}
use Rattle.std.specs.Prelude.{slice_get}
use Rattle.std.proofs.lemmas.Option.{slice_get_within, get_or_from_slice_get}
use Rattle.vt_layout.specs.declared.layout.Row.{Row}
use Rattle.vt_layout.specs.Layout.{is_at, covers, find_from, covering_from}

-- the register with the number n is the first of those that are left
first_left : (rows : List Row) (n : ℕ) (r : Row) → slice_get rows n ≡ Some r → drop n rows ≡ r ∷ drop (n + 1) rows
first_left rows n r is =
    let below : n < length rows = slice_get_within rows n r is in
    rw add-one (drop-cons rows n r below ∙ ap (λ first. first ∷ drop (suc n) rows) (get_or_from_slice_get rows n r r is))

-- the register at the offset is found
pub found : (rows : List Row) (n off width : ℕ) (r : Row) → slice_get rows n ≡ Some r → is_at off width r ≡ true → find_from n (drop n rows) off width ≡ Some n
found rows n off width r is at = rw (first_left rows n r is, at) refl

-- another one is passed by
pub passed : (rows : List Row) (n off width : ℕ) (r : Row) → slice_get rows n ≡ Some r → is_at off width r ≡ false
    → find_from n (drop n rows) off width ≡ find_from (n + 1) (drop (n + 1) rows) off width
passed rows n off width r is at = rw (first_left rows n r is, at) refl

-- the register that covers the offset is found
pub covered : (rows : List Row) (n off : ℕ) (r : Row) → slice_get rows n ≡ Some r → covers off r ≡ true → covering_from n (drop n rows) off ≡ Some n
covered rows n off r is at = rw (first_left rows n r is, at) refl

-- another one is passed by
pub uncovered : (rows : List Row) (n off : ℕ) (r : Row) → slice_get rows n ≡ Some r → covers off r ≡ false
    → covering_from n (drop n rows) off ≡ covering_from (n + 1) (drop (n + 1) rows) off
uncovered rows n off r is at = rw (first_left rows n r is, at) refl
