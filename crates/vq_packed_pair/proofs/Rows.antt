-- Descriptors that were put at positions one after the other stand there.
use Rattle.std.proofs.Common.{◌≡◌, ℕ, suc, ◌+◌, ◌*◌, ◌^◌, ◌<◌, ◌≤◌, List, [], ◌∷◌, ◌++◌, length, true, inl, inr, refl, sym, ◌∙◌, ap, subst, arith}
use Rattle.std.specs.Prelude.{All}
use Rattle.std.proofs.lemmas.Bool.{cases_order}
use Rattle.std.proofs.lemmas.Bool.Decides.{nat_tests}
use Rattle.std.proofs.lemmas.List.Elements.{All-nil, All-cons, All-head, All-tail, All-push}
use Rattle.guest_mem.specs.Memory.{part, put_at, Apart}
use Rattle.guest_mem.proofs.Parts.{length-put_at, part-put_at_apart}
use Rattle.vt_types.specs.Access.{AccessValue, Put}
use Rattle.vq_common.specs.declared.chain.Piece.{Piece}
use Rattle.vq_common.specs.declared.packed_descriptor.PackedDescriptor.{PackedDescriptor}
use Rattle.vq_common.specs.declared.position.Position.{Position}
use Rattle.vq_common.specs.PackedDescriptor.{packed_descriptor_at, packed_descriptor_bytes, packed_descriptor_in}
use Rattle.vq_common.specs.Position.{location_after, position_after}
use Rattle.vq_common.proofs.DescriptorLaws.{FitsPacked, packed_descriptor_at-put, packed_descriptor_at-put_apart}
use Rattle.vq_common.proofs.PositionLaws.{location_after-differs, location_after-inside, position_after-zero}
use Rattle.vq_packed_drv.specs.Post.{has_more, head_last, ring_descriptor, ring_puts}
use Rattle.vq_split_pair.proofs.Written.{IsPutWithin, length-written, written, written-append, written_put}
use Rattle.vq_packed_pair.proofs.Flags.{names_piece}
use Rattle.vq_packed_pair.proofs.PostedPieces.{FitsDescriptor}

-- the descriptors of pieces from a position on
abbrev pub row_of : ℕ → ℕ → Position → List Piece → List PackedDescriptor
row_of size id position [] = []
row_of size id position (p ∷ ps) = ring_descriptor id position.wrap (has_more ps) p ∷ row_of size id (position_after size position 1) ps

-- these descriptors are read from a location on, one after the other
abbrev pub IsRow : List ℕ → ℕ → ℕ → ℕ → List PackedDescriptor → Type 0
IsRow mem base size location [] = Unit {0}
IsRow mem base size location (d ∷ ds) = (packed_descriptor_at mem base location ≡ d) × IsRow mem base size (location_after size location 1) ds

-- a location is none of so many in a row
abbrev IsOutside : ℕ → ℕ → ℕ → ℕ → Type 0
IsOutside size first count location = (i : ℕ) → i < count → location_after size first i ≡ location → ⊥

-- no slot further is the same location
no_further : (size location : ℕ) → location < size → location_after size location 0 ≡ location
no_further size location inside = ap (λ (p : Position). p.location) (position_after-zero size (record { location = location; wrap = true }) inside)

-- locations from the next one on
next_location : (size location i : ℕ) → location < size → suc i ≤ size → location_after size (location_after size location 1) i ≡ location_after size location (suc i)
next_location size location i inside few = grind (arith, nat_tests)

-- a location is none of those behind it
first_outside : (size location count : ℕ) → location < size → count < size → IsOutside size (location_after size location 1) count location
first_outside size location count inside few i less same =
    location_after-differs size location 0 (suc i) inside (omega arith) (omega arith) (no_further size location inside ∙ sym same ∙ next_location size location i inside (omega arith))

-- what is none of the locations in a row is none of those behind the first
rest_outside : (size first count location : ℕ) → first < size → suc count ≤ size → IsOutside size first (suc count) location → IsOutside size (location_after size first 1) count location
rest_outside size first count location inside few outside i less same = outside (suc i) (omega arith) (sym (next_location size first i inside (omega arith)) ∙ same)

-- two different locations of a ring lie apart
locations_apart : (base n k : ℕ) → (n ≡ k → ⊥) → Apart (base + 16 * n) 16 (base + 16 * k) 16
locations_apart base n k other =
    elim (cases_order n k) [
      | inl same ↦ absurd (other same)
      | inr order ↦ elim order [ inl below ↦ inl (omega arith) | inr above ↦ inr (omega arith) ]
    ]

-- a descriptor of a piece fits its widths
row_fits : (id : ℕ) (position : Position) (follows : _) (p : Piece) → id < 2 ^ 16 → FitsDescriptor p → FitsPacked (ring_descriptor id position.wrap follows p)
row_fits id position follows p low fits = record { addr = fits.addr; len = fits.len; id = low; flags = (names_piece follows p.write position.wrap).low }

module _ (base size id : ℕ) where
  -- the puts lie in the ring
  pub ring_within : (position : Position) (ps : List Piece) → position.location < size → length ps ≤ size → All (IsPutWithin base (16 * size)) (ring_puts base size id position ps)
  ring_within position [] inside few = All-nil (IsPutWithin base (16 * size))
  ring_within position (p ∷ ps) inside few =
      let bytes : List ℕ = packed_descriptor_bytes (ring_descriptor id position.wrap (has_more ps) p) in
      let long : length bytes ≡ 16 = refl in
      All-cons (IsPutWithin base (16 * size)) (Put (base + 16 * position.location) bytes) (ring_puts base size id (position_after size position 1) ps)
      (record { addr = base + 16 * position.location; bytes = bytes; is = refl; starts = omega arith; ends = omega arith })
      (ring_within (position_after size position 1) ps (location_after-inside size position.location 1 inside (omega arith)) (omega arith))

  -- they leave a location that is none of theirs
  puts_leave : (position : Position) (ps : List Piece) (mem : List ℕ) (location : ℕ) → position.location < size → length ps ≤ size → base + 16 * size ≤ length mem → IsOutside size position.location (length ps) location
      → part (written (ring_puts base size id position ps) mem) (base + 16 * location) 16 ≡ part mem (base + 16 * location) 16
  puts_leave position [] mem location inside few fits outside = refl
  puts_leave position (p ∷ ps) mem location inside few fits outside =
      let bytes : List ℕ = packed_descriptor_bytes (ring_descriptor id position.wrap (has_more ps) p) in
      let long : length bytes ≡ 16 = refl in
      let next : Position = position_after size position 1 in
      let after : List ℕ = put_at mem (base + 16 * position.location) bytes in
      let same : length after ≡ length mem = length-put_at mem (base + 16 * position.location) bytes (omega arith) in
      ap (λ (m : List ℕ). part m (base + 16 * location) 16) (written_put (base + 16 * position.location) bytes (ring_puts base size id next ps) mem (omega arith))
      ∙ puts_leave next ps after location (location_after-inside size position.location 1 inside (omega arith)) (omega arith) (omega arith) (rest_outside size position.location (length ps) location inside few outside)
      ∙ part-put_at_apart mem (base + 16 * position.location) bytes (base + 16 * location) 16 (omega arith)
      (locations_apart base position.location location (λ e. outside 0 (omega arith) (no_further size position.location inside ∙ e)))

  -- and are read at their locations
  puts_stand : (position : Position) (ps : List Piece) (mem : List ℕ) → position.location < size → length ps ≤ size → base + 16 * size ≤ length mem → id < 2 ^ 16 → All FitsDescriptor ps
      → IsRow (written (ring_puts base size id position ps) mem) base size position.location (row_of size id position ps)
  puts_stand position [] mem inside few fits low each = tt
  puts_stand position (p ∷ ps) mem inside few fits low each =
      let d : PackedDescriptor = ring_descriptor id position.wrap (has_more ps) p in
      let bytes : List ℕ = packed_descriptor_bytes d in
      let long : length bytes ≡ 16 = refl in
      let next : Position = position_after size position 1 in
      let there : next.location < size = location_after-inside size position.location 1 inside (omega arith) in
      let after : List ℕ = put_at mem (base + 16 * position.location) bytes in
      let same : length after ≡ length mem = length-put_at mem (base + 16 * position.location) bytes (omega arith) in
      let step : written (ring_puts base size id position (p ∷ ps)) mem ≡ written (ring_puts base size id next ps) after = written_put (base + 16 * position.location) bytes (ring_puts base size id next ps) mem (omega arith) in
      subst (λ (m : List ℕ). IsRow m base size position.location (row_of size id position (p ∷ ps))) (sym step) (
        ap packed_descriptor_in (puts_leave next ps after position.location there (omega arith) (omega arith) (first_outside size position.location (length ps) inside (omega arith)))
            ∙ packed_descriptor_at-put mem base position.location d (row_fits id position (has_more ps) p low (All-head FitsDescriptor p ps each)) (omega arith),
        puts_stand next ps after there (omega arith) (omega arith) low (All-tail FitsDescriptor p ps each),
      )

  -- a put at a location that is none of a row leaves it
  row_stays : (location : ℕ) (ds : List PackedDescriptor) (mem : List ℕ) (other : ℕ) (bytes : List ℕ) → location < size → length ds ≤ size → base + 16 * size ≤ length mem → other < size → length bytes ≡ 16
      → IsOutside size location (length ds) other → IsRow mem base size location ds → IsRow (put_at mem (base + 16 * other) bytes) base size location ds
  row_stays location [] mem other bytes inside few fits here long outside row = tt
  row_stays location (d ∷ ds) mem other bytes inside few fits here long outside (first, rest) = (
    packed_descriptor_at-put_apart mem (base + 16 * other) bytes base location (omega arith)
        (subst (λ (n : ℕ). Apart (base + 16 * other) n (base + 16 * location) 16) (sym long) (locations_apart base other location (λ e. outside 0 (omega arith) (no_further size location inside ∙ sym e))))
        ∙ first,
    row_stays (location_after size location 1) ds mem other bytes (location_after-inside size location 1 inside (omega arith)) (omega arith) fits here long (rest_outside size location (length ds) other inside few outside) rest,
  )

  -- each piece has a descriptor
  pub length-row_of : (position : Position) (ps : List Piece) → length (row_of size id position ps) ≡ length ps
  length-row_of position [] = refl
  length-row_of position (p ∷ ps) = ap suc (length-row_of (position_after size position 1) ps)

  -- the puts with the first of them last lie in the ring
  pub head_last_within : (position : Position) (ps : List Piece) → position.location < size → length ps ≤ size → All (IsPutWithin base (16 * size)) (head_last (ring_puts base size id position ps))
  head_last_within position [] inside few = All-nil (IsPutWithin base (16 * size))
  head_last_within position (p ∷ ps) inside few =
      let P = IsPutWithin base (16 * size) in
      let head : AccessValue = Put (base + 16 * position.location) (packed_descriptor_bytes (ring_descriptor id position.wrap (has_more ps) p)) in
      let others : List AccessValue = ring_puts base size id (position_after size position 1) ps in
      let each : All P (head ∷ others) = ring_within position (p ∷ ps) inside few in
      All-push P others head (All-tail P head others each) (All-head P head others each)

  -- and are read at their locations
  pub head_last_stand : (position : Position) (ps : List Piece) (mem : List ℕ) → position.location < size → length ps ≤ size → base + 16 * size ≤ length mem → id < 2 ^ 16 → All FitsDescriptor ps
      → IsRow (written (head_last (ring_puts base size id position ps)) mem) base size position.location (row_of size id position ps)
  head_last_stand position [] mem inside few fits low each = tt
  head_last_stand position (p ∷ ps) mem inside few fits low each =
      let d : PackedDescriptor = ring_descriptor id position.wrap (has_more ps) p in
      let bytes : List ℕ = packed_descriptor_bytes d in
      let long : length bytes ≡ 16 = refl in
      let next : Position = position_after size position 1 in
      let there : next.location < size = location_after-inside size position.location 1 inside (omega arith) in
      let others : List AccessValue = ring_puts base size id next ps in
      let before : List ℕ = written others mem in
      let same : length before ≡ length mem = length-written base (16 * size) others mem (omega arith) (ring_within next ps there (omega arith)) in
      let many : length (row_of size id next ps) ≡ length ps = length-row_of next ps in
      let step : written (others ++ Put (base + 16 * position.location) bytes ∷ []) mem ≡ put_at before (base + 16 * position.location) bytes
      = written-append others (Put (base + 16 * position.location) bytes ∷ []) mem ∙ written_put (base + 16 * position.location) bytes [] before (omega arith)
      in
      subst (λ (m : List ℕ). IsRow m base size position.location (row_of size id position (p ∷ ps))) (sym step) (
        packed_descriptor_at-put before base position.location d (row_fits id position (has_more ps) p low (All-head FitsDescriptor p ps each)) (omega arith),
        row_stays next.location (row_of size id next ps) before position.location bytes there (omega arith) (omega arith) inside long
            (first_outside size position.location (length (row_of size id next ps)) inside (omega arith))
            (puts_stand next ps mem there (omega arith) (omega arith) low (All-tail FitsDescriptor p ps each)),
      )
