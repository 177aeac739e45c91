use Rattle.std.specs.Prelude.{ℕ, ◌-◌, ◌==◌, List, [], ◌∷◌, ◌++◌, length, drop, replicate, Bool, Option, Some, None, Result, Ok, Err, if◌then◌else◌}
use Rattle.vt_outside.specs.DiskCall.{DiskState, flush_call}
use Rattle.dev_block.specs.declared.request.Refusal.{Refusal}
use Rattle.dev_block.specs.declared.request.Refusal.TheVariants.{IoErr, Unsupp}
use Rattle.dev_block.specs.Request.{DEVICE_ID}
use Rattle.dev_block.specs.declared.check.Limits.{Limits}
use Rattle.dev_block.specs.Check.{Task, Read, Write, Sync, Identify, Clear, checked}
use Rattle.dev_block.specs.Sectors.{read_sectors, write_through, clear_through}

-- the status bytes (VIRTIO 1.2, 5.2.6)
abbrev pub VIRTIO_BLK_S_OK : ℕ
VIRTIO_BLK_S_OK = 0

abbrev pub VIRTIO_BLK_S_IOERR : ℕ
VIRTIO_BLK_S_IOERR = 1

abbrev pub VIRTIO_BLK_S_UNSUPP : ℕ
VIRTIO_BLK_S_UNSUPP = 2

-- the status that a refusal gives
abbrev pub refusal_status : Refusal → ℕ
refusal_status IoErr = VIRTIO_BLK_S_IOERR
refusal_status Unsupp = VIRTIO_BLK_S_UNSUPP

-- a task without data: none, or None where a call failed
abbrev pub no_data : Bool × DiskState → Option (List ℕ) × DiskState
no_data (ok, d) = (if ok then Some [] else None, d)

-- a task is carried out: its data, or None where a call of the disk failed
abbrev pub carried_out : Task → List ℕ → ℕ → DiskState → Option (List ℕ) × DiskState
carried_out (Read sector count) readable mode d = read_sectors count sector d
carried_out (Write sector count) readable mode d = no_data (write_through count sector (drop 16 readable) mode d)
carried_out Sync readable mode d = no_data (flush_call d)
carried_out Identify readable mode d = (Some DEVICE_ID, d)
carried_out (Clear segments) readable mode d = no_data (clear_through segments mode d)

-- a call of the disk that failed makes an I/O error
abbrev pub ended : Option (List ℕ) × DiskState → Result (List ℕ) Refusal × DiskState
ended (Some bytes, d) = (Ok bytes, d)
ended (None, d) = (Err IoErr, d)

-- how a request that was checked ends: its data, or why it failed
abbrev pub ended_by : Result Task Refusal → List ℕ → ℕ → DiskState → Result (List ℕ) Refusal × DiskState
ended_by (Ok task) readable mode d = ended (carried_out task readable mode d)
ended_by (Err refusal) readable mode d = (Err refusal, d)

-- the status of a request
abbrev pub status_of : Result (List ℕ) Refusal → ℕ
status_of (Ok bytes) = VIRTIO_BLK_S_OK
status_of (Err refusal) = refusal_status refusal

-- its data: none where it failed
abbrev pub data_of : Result (List ℕ) Refusal → List ℕ
data_of (Ok bytes) = bytes
data_of (Err refusal) = []

-- the bytes that are written over a room: the data, zeros behind them, and the status as the last; none where there is no
-- room
abbrev pub written_bytes : ℕ → Result (List ℕ) Refusal → List ℕ
written_bytes room end = if room == 0 then [] else data_of end ++ (replicate (room - 1 - length (data_of end)) 0 ++ status_of end ∷ [])

-- what the device knows of a disk when it checks a request
abbrev pub limits_of : ℕ → ℕ → DiskState → Limits
limits_of capacity accepted d = record { capacity = capacity; accepted = record { 0 = accepted }; sectors = length d.sectors; read_only = d.read_only }

-- a request is checked and, where no check refuses it, carried out
abbrev pub request_end : List ℕ → ℕ → ℕ → ℕ → ℕ → DiskState → Result (List ℕ) Refusal × DiskState
request_end readable room capacity mode accepted d = ended_by (checked (limits_of capacity accepted d) readable (room - 1)) readable mode d

abbrev pub written : ℕ → Result (List ℕ) Refusal × DiskState → List ℕ × DiskState
written room (end, d) = (written_bytes room end, d)

-- the answer of a block device to a request (VIRTIO 1.2, 5.2.6): from its readable bytes, its room, the capacity, the cache
-- mode, the accepted features and the disk, the written bytes and the disk after it. Without room nothing happens
abbrev pub block_answer : List ℕ → ℕ → ℕ → ℕ → ℕ → DiskState → List ℕ × DiskState
block_answer readable room capacity mode accepted d = if room == 0 then ([], d) else written room (request_end readable room capacity mode accepted d)
