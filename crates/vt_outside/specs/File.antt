use Rattle.std.specs.Prelude.{◌≡◌, ℕ, ◌*◌, List, Option, Some, None, false, IfSome}
use Rattle.std.specs.Io.KnownBytes.{Appends, Consumes}
use Rattle.vt_outside.specs.Disk.{DiskView}

-- a disk over a file: the file, how many sectors it has, and how many calls failed
pub record FileView (F : Type 0) : Type 0 where
  pub file : F
  pub count : ℕ
  pub faults : ℕ

-- as a disk it tells no more, and is never read-only
abbrev pub file_disk : {F : Type 0} → FileView F → DiskView
file_disk f = record { image = None; outcomes = None; count = f.count; read_only = false; faults = f.faults }

-- the file was sought at sector n, where it tells its position
abbrev pub SeeksSector : {F : Type 0} → (F → Option ℕ) → ℕ → F → F → Type 0
SeeksSector position n old new = IfSome (position old) (λ _. position new ≡ Some (n * 512))

-- sector n of a file was read: it was sought, and these bytes were taken from what was left there, where it tells that
pub record ReadsAt {F : Type 0} (position : F → Option ℕ) (remaining : F → Option (List ℕ)) (n : ℕ) (old new : F) (bytes : List ℕ) : Type 0 where
  pub between : F
  pub seeks : SeeksSector position n old between
  pub consumes : Consumes (remaining between) (remaining new) bytes

-- sector n of a file was written: it was sought, and it took these bytes, where it tells what it holds
pub record WritesAt {F : Type 0} (position : F → Option ℕ) (contents : F → Option (List ℕ)) (n : ℕ) (old new : F) (bytes : List ℕ) : Type 0 where
  pub between : F
  pub seeks : SeeksSector position n old between
  pub appends : Appends (contents between) (contents new) bytes
