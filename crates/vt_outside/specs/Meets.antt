use Rattle.std.specs.Prelude.{◌≡◌, ℕ, ◌≤◌, List, [], ◌++◌, length, Bool, Option, Some, None, Result, Ok, Err, is_some}
use Rattle.vt_outside.specs.declared.failed.Failed.{Failed}
use Rattle.vt_outside.specs.Disk.{DiskView}
use Rattle.vt_outside.specs.DiskCall.{DiskState}
use Rattle.vt_outside.specs.Faults.{Rose}
use Rattle.vt_outside.specs.Tripped.{TrippedView}

-- how calls of a disk with a trip, any number in a row, are what a function of the disk computes

-- outcomes that are told afterwards were told before, and only more came
abbrev pub Extends : Option (List Bool) → Option (List Bool) → Type 0
Extends old None = Unit {0}
Extends None (Some new) = ⊥
Extends (Some old) (Some new) = (added : List Bool) × (new ≡ old ++ added)

-- what any calls of a disk leave, whatever the disk tells
pub record Goes (old new : DiskView) : Type 0 where
  pub count : new.count ≡ old.count
  pub read_only : new.read_only ≡ old.read_only
  pub later : old.faults ≤ new.faults
  pub tells : is_some new.image ≡ is_some old.image
  pub outcomes : Extends old.outcomes new.outcomes

-- of the outcomes `before`, the calls took all but `after`: those that the disk told; or none, where no fault came
pub data Takes (old new : DiskView) (before after : List Bool) : Type 0 where
  Told : (was is added : List Bool) → old.outcomes ≡ Some was → new.outcomes ≡ Some is → is ≡ was ++ added → before ≡ added ++ after → Takes old new before after
  Quiet : (Rose old.faults new.faults → ⊥) → before ≡ [] → after ≡ [] → Takes old new before after

-- the disk tells that it has these sectors
abbrev pub IsImage : DiskView → List (List ℕ) → Type 0
IsImage disk image = (disk.image ≡ Some image) × (length image ≡ disk.count)

-- a disk that tells these sectors, with the outcomes that are still to come
abbrev pub state_of : TrippedView → List (List ℕ) → List Bool → DiskState
state_of v image outcomes = record { sectors = image; read_only = v.disk.read_only; trip = v.trip; outcomes = outcomes }

-- the calls from one view of a disk to another did what f does, with the answer r: for a disk that tells its image, and
-- with the outcomes that the calls took
pub record Meets {R : Type 0} (f : DiskState → R × DiskState) (old : TrippedView) (r : R) (new : TrippedView) : Type 0 where
  pub goes : Goes old.disk new.disk
  pub does : (image : List (List ℕ)) (before after : List Bool) → IsImage old.disk image → Takes old.disk new.disk before after
      → (image2 : List (List ℕ)) × IsImage new.disk image2 × (f (state_of old image before) ≡ (r, state_of new image2 after))

-- the bytes that a reading call gave, or None where it failed
abbrev pub bytes_read : Result Unit Failed → List ℕ → Option (List ℕ)
bytes_read (Ok x) bytes = Some bytes
bytes_read (Err e) bytes = None
