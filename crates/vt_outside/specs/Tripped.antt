use Rattle.std.specs.Prelude.{◌≡◌, ◌≢◌, ℕ, ◌-◌, ◌<◌, ◌⊎◌, false, Result, is_ok}
use Rattle.vt_outside.specs.declared.failed.Failed.{Failed}
use Rattle.vt_outside.specs.Disk.{DiskView, Called}
use Rattle.vt_outside.specs.Faults.{Rose}

-- what contracts see of a disk with a trip
pub record TrippedView : Type 0 where
  pub disk : DiskView
  pub trip : ℕ

-- a call of a disk with a trip, whatever the disk tells: with trip 1 it fails and asks nothing of the disk; else the
-- disk is asked, and answers; the trip falls by one, down to 0
pub record TripCalled (old new : TrippedView) (result : Result Unit Failed) : Type 0 where
  pub trip : new.trip ≡ old.trip - 1
  pub unasked : old.trip ≡ 1 → (is_ok result ≡ false) × (new.disk ≡ old.disk)
  pub asked : old.trip ≢ 1 → Called old.disk new.disk result

-- the trip was reached: a call failed unasked
abbrev pub Reached : ℕ → ℕ → Type 0
Reached before after = (0 < before) × (after ≡ 0)

-- why one of some calls of a disk with a trip failed: the disk's count of faults rose, or the trip was reached
abbrev pub FailCause : TrippedView → TrippedView → Type 0
FailCause old new = Rose old.disk.faults new.disk.faults ⊎ Reached old.trip new.trip
