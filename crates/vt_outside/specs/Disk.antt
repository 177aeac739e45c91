use Rattle.std.specs.Prelude.{◌≡◌, ℕ, ◌≤◌, List, [], ◌∷◌, ◌++◌, length, Bool, Option, Some, None, Result, is_ok, slice_set, slice_get, OnOk, OnErr}
use Rattle.vt_outside.specs.declared.failed.Failed.{Failed}
use Rattle.vt_outside.specs.Faults.{Rose}

-- what contracts see of a disk: its sectors and the outcomes of the calls so far (true where a call answered Ok), where
-- it tells them; how many sectors it has; whether it is read-only; and how many calls failed
pub record DiskView : Type 0 where
  pub image : Option (List (List ℕ))
  pub outcomes : Option (List Bool)
  pub count : ℕ
  pub read_only : Bool
  pub faults : ℕ

-- where outcomes are told after a call, they were told before it, and the call added its own
abbrev pub AddsOutcome : Option (List Bool) → Option (List Bool) → Bool → Type 0
AddsOutcome old None b = Unit {0}
AddsOutcome None (Some new) b = ⊥
AddsOutcome (Some old) (Some new) b = new ≡ old ++ b ∷ []

-- a call of a disk: what never changes stayed, a failure counts and an Ok doesn't, and the outcome is told
pub record Called (old new : DiskView) (result : Result Unit Failed) : Type 0 where
  pub count : new.count ≡ old.count
  pub read_only : new.read_only ≡ old.read_only
  pub later : old.faults ≤ new.faults
  pub calm : OnOk result (new.faults ≡ old.faults)
  pub cause : OnErr result (Rose old.faults new.faults)
  pub outcomes : AddsOutcome old.outcomes new.outcomes (is_ok result)

-- where the image is told, these 512 bytes are its sector n
abbrev pub Reads : ℕ → List ℕ → Option (List (List ℕ)) → Type 0
Reads n bytes None = Unit {0}
Reads n bytes (Some image) = (slice_get image n ≡ Some bytes) × (length bytes ≡ 512)

-- where the image is told, it is told afterwards, with these bytes as its sector n
abbrev pub Writes : ℕ → List ℕ → Option (List (List ℕ)) → Option (List (List ℕ)) → Type 0
Writes n bytes None new = new ≡ None
Writes n bytes (Some old) new = new ≡ Some (slice_set old n bytes)
