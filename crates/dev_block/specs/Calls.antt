use Rattle.std.specs.Prelude.{◌≡◌, ℕ, ◌*◌, ◌≤◌, List, length, Bool, false, Result, is_ok, OnOk}
use Rattle.vq_common.specs.declared.chain.Piece.{Piece}
use Rattle.vq_common.specs.Piece.{scatter}
use Rattle.vt_outside.specs.declared.failed.Failed.{Failed}
use Rattle.vt_outside.specs.DiskCall.{DiskState}
use Rattle.vt_outside.specs.Tripped.{TrippedView, FailCause}
use Rattle.vt_outside.specs.Meets.{Meets, bytes_read}
use Rattle.dev_block.specs.Sectors.{read_sectors}

-- calls of a disk with a trip did what f does, with the answer r; the trip did not rise; and one of them failed only where
-- the disk's count of faults rose or the trip was reached
pub record Calls {R : Type 0} (f : DiskState → R × DiskState) (old : TrippedView) (r : R) (new : TrippedView) (ok : Bool) : Type 0 where
  pub meets : Meets f old r new
  pub falls : new.trip ≤ old.trip
  pub cause : ok ≡ false → FailCause old new

-- sectors were read over the first writable bytes: all, or where a call failed those before
pub record ReadsOver (sector count : ℕ) (pieces : List Piece) (mem mem2 : List ℕ) (old new : TrippedView) (result : Result Unit Failed) : Type 0 where
  pub bytes : List ℕ
  pub most : length bytes ≤ 512 * count
  pub whole : OnOk result (length bytes ≡ 512 * count)
  pub memory : mem2 ≡ scatter mem pieces bytes
  pub calls : Calls (read_sectors count sector) old (bytes_read result bytes) new (is_ok result)
