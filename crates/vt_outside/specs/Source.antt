use Rattle.std.specs.Prelude.{◌≡◌, ℕ, ◌<◌, ◌≤◌, List, [], ◌++◌, length, take, Option, Some, None}
use Rattle.vt_outside.specs.Faults.{Rose}

-- what contracts see of a source: the bytes that are left, where it tells them, and how many calls failed
pub record SourceView : Type 0 where
  pub left : Option (List ℕ)
  pub faults : ℕ

-- where a source tells what is left, the first n bytes of it went to the front of the room; a room that isn't empty gets
-- nothing only where nothing is left
abbrev pub Moves : Option (List ℕ) → Option (List ℕ) → List ℕ → List ℕ → ℕ → Type 0
Moves None None room room2 n = Unit {0}
Moves None (Some left2) room room2 n = ⊥
Moves (Some left) None room room2 n = ⊥
Moves (Some left) (Some left2) room room2 n = (left ≡ take n room2 ++ left2) × (n ≡ 0 → 0 < length room → left ≡ [])

-- a read that answered Ok(n), from a room to a room: no call failed
pub record ReadOk (old new : SourceView) (room room2 : List ℕ) (n : ℕ) : Type 0 where
  pub bound : n ≤ length room
  pub faults : new.faults ≡ old.faults
  pub moves : Moves old.left new.left room room2 n

-- a read that failed: it counts, and nothing was taken
pub record ReadFailed (old new : SourceView) : Type 0 where
  pub rose : Rose old.faults new.faults
  pub later : old.faults ≤ new.faults
  pub same : new.left ≡ old.left
