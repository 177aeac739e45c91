use Rattle.std.specs.Prelude.{◌≡◌, ℕ, ◌+◌, ◌-◌, ◌*◌, ◌<◌, ◌≤◌, List, length, All, Option, Some, None, Result, Ok, Err, IfOk, is_ok}
use Rattle.vq_common.specs.declared.chain.Piece.{Piece}
use Rattle.vq_common.specs.Piece.{readable, room, scatter}
use Rattle.vt_outside.specs.declared.failed.Failed.{Failed}
use Rattle.vt_outside.specs.DiskCall.{DiskState}
use Rattle.vt_outside.specs.Tripped.{TrippedView, FailCause}
use Rattle.vt_outside.specs.Meets.{Meets}
use Rattle.dev_block.specs.declared.state.BlkState.{BlkState}
use Rattle.dev_block.specs.declared.request.Segment.{Segment}
use Rattle.dev_block.specs.declared.request.Refusal.{Refusal}
use Rattle.dev_block.specs.declared.request.Refusal.TheVariants.{IoErr}
use Rattle.dev_block.specs.declared.check.Limits.{Limits}
use Rattle.dev_block.specs.Request.{cache_mode}
use Rattle.dev_block.specs.Check.{Task, Read, Write, Sync, Identify, Clear, checked}
use Rattle.dev_block.specs.Sectors.{AreThere}
use Rattle.dev_block.specs.Calls.{Calls}
use Rattle.dev_block.specs.Answer.{carried_out, request_end, block_answer, written_bytes}

-- what the device knows of a disk with a trip
abbrev pub limits : BlkState → TrippedView → Limits
limits state disk = record { capacity = state.capacity; accepted = state.accepted; sectors = disk.disk.count; read_only = disk.disk.read_only }

-- a task that a device can carry out: with so many readable bytes, so much room for data and a disk of so many sectors
abbrev pub Fits : Task → ℕ → ℕ → ℕ → Type 0
Fits (Read sector count) readable space sectors = (512 * count ≤ space) × AreThere sectors sector count
Fits (Write sector count) readable space sectors = (16 + 512 * count ≤ readable) × AreThere sectors sector count
Fits Sync readable space sectors = Unit {0}
Fits Identify readable space sectors = 20 ≤ space
Fits (Clear segments) readable space sectors = All (λ (s : Segment). AreThere sectors s.sector s.count) segments

-- a task that ended with so many bytes of data, or failed
abbrev pub with_size : Result Unit Failed → ℕ → Result ℕ Failed
with_size (Ok x) size = Ok size
with_size (Err failed) size = Err failed

-- the data of a task that was carried out, or None where a call of the disk failed
abbrev pub data_in : Result ℕ Failed → List ℕ → Option (List ℕ)
data_in (Ok size) bytes = Some bytes
data_in (Err failed) bytes = None

-- a task was carried out: bytes were written over the first writable bytes, its data where no call failed
pub record CarriesOut (task : Task) (mode : ℕ) (pieces : List Piece) (mem mem2 : List ℕ) (old new : TrippedView) (result : Result ℕ Failed) : Type 0 where
  pub bytes : List ℕ
  pub most : length bytes ≤ room pieces - 1
  pub size : IfOk result (λ n. n ≡ length bytes)
  pub memory : mem2 ≡ scatter mem pieces bytes
  pub calls : Calls (carried_out task (readable mem pieces) mode) old (data_in result bytes) new (is_ok result)

-- why a request ends as it does, whatever the disk tells: one that is refused asks nothing of the disk, and one that is
-- carried out fails only by an I/O error, where the disk's count of faults rose or the trip was reached
abbrev pub Cause : Result Task Refusal → Result (List ℕ) Refusal → TrippedView → TrippedView → Type 0
Cause (Err refusal) end old new = (end ≡ Err refusal) × (new ≡ old)
Cause (Ok task) (Ok bytes) old new = Unit {0}
Cause (Ok task) (Err refusal) old new = (refusal ≡ IoErr) × FailCause old new

-- how a request ended: with its data, or refused
abbrev pub end_in : Result ℕ Refusal → List ℕ → Result (List ℕ) Refusal
end_in (Ok size) bytes = Ok bytes
end_in (Err refusal) bytes = Err refusal

-- a request was checked and carried out, and bytes were written over the first writable bytes: its data where it ended well
pub record Ends (state : BlkState) (pieces : List Piece) (mem mem2 : List ℕ) (old new : TrippedView) (result : Result ℕ Refusal) : Type 0 where
  pub bytes : List ℕ
  pub most : length bytes ≤ room pieces - 1
  pub size : IfOk result (λ n. n ≡ length bytes)
  pub memory : mem2 ≡ scatter mem pieces bytes
  pub disk : Meets (request_end (readable mem pieces) (room pieces) state.capacity (cache_mode state.writeback state.accepted.0) state.accepted.0) old (end_in result bytes) new
  pub cause : Cause (checked (limits state old) (readable mem pieces) (room pieces - 1)) (end_in result bytes) old new

-- the answer to readable bytes and a room
abbrev pub answer : BlkState → List ℕ → ℕ → DiskState → List ℕ × DiskState
answer state bytes room d = block_answer bytes room state.capacity (cache_mode state.writeback state.accepted.0) state.accepted.0 d

-- a chain is served: what is written over its writable pieces is the answer to its readable bytes and its room, whichever
-- way they are cut, and its number is told. A chain without room asks nothing of the disk
pub record Serves (state : BlkState) (pieces : List Piece) (mem mem2 : List ℕ) (old new : TrippedView) (count : ℕ) : Type 0 where
  pub end : Result (List ℕ) Refusal
  pub memory : mem2 ≡ scatter mem pieces (written_bytes (room pieces) end)
  pub number : count ≡ length (written_bytes (room pieces) end)
  pub whole : count ≡ room pieces
  pub disk : Meets (answer state (readable mem pieces) (room pieces)) old (written_bytes (room pieces) end) new
  pub none : room pieces ≡ 0 → new ≡ old
  pub cause : 0 < room pieces → Cause (checked (limits state old) (readable mem pieces) (room pieces - 1)) end old new
