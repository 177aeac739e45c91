use Rattle.std.specs.Prelude.{◌≡◌, ℕ, ◌<◌, ◌≤◌, List, ◌++◌, length, take, Option, Some, None}
use Rattle.vt_outside.specs.Faults.{Rose}

-- what contracts see of a sink: the bytes written so far, where it tells them, and how many calls failed
pub record SinkView : Type 0 where
  pub written : Option (List ℕ)
  pub faults : ℕ

-- where a sink tells what was written, these bytes were added at its end; it tells afterwards exactly where it told
abbrev pub Adds : Option (List ℕ) → Option (List ℕ) → List ℕ → Type 0
Adds None None bytes = Unit {0}
Adds None (Some new) bytes = ⊥
Adds (Some old) None bytes = ⊥
Adds (Some old) (Some new) bytes = new ≡ old ++ bytes

-- a write that answered Ok(n): the first n bytes of the piece were added, at least one where there is one, and no call
-- failed
pub record WriteOk (old new : SinkView) (bytes : List ℕ) (n : ℕ) : Type 0 where
  pub bound : n ≤ length bytes
  pub some : 0 < length bytes → 0 < n
  pub faults : new.faults ≡ old.faults
  pub adds : Adds old.written new.written (take n bytes)

-- a write that failed: it counts, and nothing was added
pub record WriteFailed (old new : SinkView) : Type 0 where
  pub rose : Rose old.faults new.faults
  pub later : old.faults ≤ new.faults
  pub same : new.written ≡ old.written
