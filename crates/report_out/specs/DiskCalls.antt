use Rattle.std.specs.Prelude.{◌≡◌, ℕ, ◌≤◌, List, [], ◌++◌, length, Bool, IfSome, Option, Some, None}
use Rattle.vt_outside.specs.Disk.{DiskView}
use Rattle.vt_outside.specs.Faults.{Rose}

-- the disk has the image, the size and the read-only flag that it had
pub record SameDisk (old new : DiskView) : Type 0 where
  pub image : new.image ≡ old.image
  pub count : new.count ≡ old.count
  pub read_only : new.read_only ≡ old.read_only

-- where the disk tells its image, it is one of as many sectors as the disk has
pub record IsWhole (d : DiskView) : Type 0 where
  pub whole : IfSome d.image (λ image. length image ≡ d.count)

-- where outcomes are told after calls of a disk, they were told before them, and the calls added these
abbrev pub AddsOutcomes : Option (List Bool) → Option (List Bool) → List Bool → Type 0
AddsOutcomes old None outcomes = Unit {0}
AddsOutcomes None (Some new) outcomes = ⊥
AddsOutcomes (Some old) (Some new) outcomes = new ≡ old ++ outcomes

-- the outcomes of a disk's calls: those that it told; or none, where its count of faults did not rise: what stands past
-- the end of the list did not fail
pub data AreOutcomes (old new : DiskView) (outcomes : List Bool) : Type 0 where
  Told : (before : List Bool) → old.outcomes ≡ Some before → new.outcomes ≡ Some (before ++ outcomes) → AreOutcomes old new outcomes
  Calm : (Rose old.faults new.faults → ⊥) → outcomes ≡ [] → AreOutcomes old new outcomes

-- the same of calls that took their outcomes from the front of a list, and left the rest of it
pub data TakesOutcomes (old new : DiskView) (outcomes rest : List Bool) : Type 0 where
  TakesTold : (before taken : List Bool) → old.outcomes ≡ Some before → new.outcomes ≡ Some (before ++ taken) → outcomes ≡ taken ++ rest → TakesOutcomes old new outcomes rest
  TakesNone : (Rose old.faults new.faults → ⊥) → outcomes ≡ [] → rest ≡ [] → TakesOutcomes old new outcomes rest

-- the calls of a disk of so many sectors in a run with this status: each sector is read once by a whole script, and none
-- where the source failed, a line is bad or too many bytes came
pub record AreCallsOf (status sectors calls : ℕ) : Type 0 where
  pub most : calls ≤ sectors
  pub whole : status ≡ 0 → calls ≡ sectors
  pub bad_line : status ≡ 3 → calls ≡ 0
  pub source_failed : status ≡ 4 → calls ≡ 0
  pub too_long : status ≡ 7 → calls ≡ 0
