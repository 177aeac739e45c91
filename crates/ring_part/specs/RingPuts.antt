-- What stands in memory of a split ring, as puts.
use Rattle.std.specs.Prelude.{ℕ, ◌+◌, ◌*◌, ◌%◌, ◌^◌, List, [], ◌∷◌, ◌++◌, length, Bool, true, false, if◌then◌else◌}
use Rattle.byteorder.specs.Endian.{little_bytes}
use Rattle.vt_types.specs.Access.{AccessValue, Put}
use Rattle.port_access.specs.Accesses.{data_puts}
use Rattle.vq_common.specs.declared.chain.RingCfg.{RingCfg}
use Rattle.vt_layout.specs.QueueBlock.{driver_area, device_area, data_address}
use Rattle.vq_common.specs.Queue.{new_driver_queue}
use Rattle.vq_split_drv.specs.Post.{chain_puts}
use Rattle.abstract_devices.specs.World.{SignalMode, Always, Never, First}
use Rattle.ring_part.specs.Held.{Held, UsedHeld}

-- an index and the next one (VIRTIO 1.2, 2.7.13)
abbrev pub next : ℕ → ℕ
next n = (n + 1) % 2 ^ 16

-- the puts of a held buffer: its readable bytes, and its descriptors
abbrev pub held_puts : RingCfg → ℕ → Held → List AccessValue
held_puts cfg base h = data_puts (data_address base h.head) h.buffer.readable ++ chain_puts (new_driver_queue cfg base) h.buffer (h.head ∷ h.others)

abbrev pub all_puts : RingCfg → ℕ → List Held → List AccessValue
all_puts cfg base [] = []
all_puts cfg base (h ∷ hs) = held_puts cfg base h ++ all_puts cfg base hs

-- the entries of the available ring from an index on, each a head (VIRTIO 1.2, 2.7.6)
abbrev pub entry_at : ℕ → ℕ → ℕ → ℕ
entry_at base size n = driver_area base + (4 + 2 * (n % size))

abbrev pub entry_puts : ℕ → ℕ → ℕ → List Held → List AccessValue
entry_puts base size n [] = []
entry_puts base size n (h ∷ hs) = Put (entry_at base size n) (little_bytes 2 h.head) ∷ entry_puts base size (next n) hs

-- the elements of the used ring from an index on, each a head and how many bytes were written, and these bytes behind the
-- readable ones (VIRTIO 1.2, 2.7.8)
abbrev pub element_at : ℕ → ℕ → ℕ → ℕ
element_at base size n = device_area base + (4 + 8 * (n % size))

abbrev pub element_bytes : ℕ → ℕ → List ℕ
element_bytes head count = little_bytes 4 head ++ little_bytes 4 count

abbrev pub written_at : ℕ → Held → ℕ
written_at base h = data_address base h.head + length h.buffer.readable

abbrev pub element_puts : ℕ → ℕ → ℕ → List UsedHeld → List AccessValue
element_puts base size n [] = []
element_puts base size n (u ∷ us) =
    Put (element_at base size n) (element_bytes u.held.head (length u.written)) ∷ Put (written_at base u.held) u.written ∷ element_puts base size (next n) us

-- the first used buffer alone is signalled: what EVENT_IDX is for (VIRTIO 1.2, 2.7.10)
abbrev pub is_first : SignalMode → Bool
is_first Always = false
is_first Never = false
is_first First = true

-- the flag VIRTQ_AVAIL_F_NO_INTERRUPT stands where no used buffer is signalled (VIRTIO 1.2, 2.7.7)
abbrev pub flag_of : SignalMode → ℕ
flag_of Always = 0
flag_of Never = 1
flag_of First = 0

-- the locations where the driver says what it asks for: the flags, and used_event
abbrev pub flags_at : ℕ → ℕ
flags_at base = driver_area base

abbrev pub event_at : ℕ → ℕ → ℕ
event_at base size = driver_area base + (4 + 2 * size)

-- what it asks for: with EVENT_IDX the signal of the element that it reaps next, else by the flags
abbrev pub asks_put : RingCfg → ℕ → SignalMode → ℕ → AccessValue
asks_put cfg base mode used = if cfg.event_idx then Put (event_at base cfg.size) (little_bytes 2 used) else Put (flags_at base) (little_bytes 2 (flag_of mode))

-- the available and the used index, and what the driver asks for
abbrev pub index_puts : RingCfg → ℕ → SignalMode → ℕ → ℕ → ℕ → List AccessValue
index_puts cfg base mode available used reaped =
    Put (driver_area base + 2) (little_bytes 2 available) ∷ Put (device_area base + 2) (little_bytes 2 used) ∷ asks_put cfg base mode reaped ∷ []
