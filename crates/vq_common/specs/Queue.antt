use Rattle.std.specs.Prelude.{◌≡◌, ℕ, ◌+◌, ◌-◌, ◌<◌, ◌==◌, ◌||◌, ◌&&◌, nat_le, List, [], ◌∷◌, Bool, true, false, Option, Some, None, length, nat_lt, if◌then◌else◌}
use Rattle.vt_types.specs.Access.{AccessValue}
use Rattle.vt_types.specs.Device.{GREATEST_QUEUE}
use Rattle.vt_types.specs.Operation.{PostedBuffer}
use Rattle.vt_types.specs.Program.{Program, Mark, End, do_all, cost_of_all}
use Rattle.vq_common.specs.declared.chain.RingCfg.{RingCfg}
use Rattle.vq_common.specs.declared.driver_end.Reaped.{Reaped}
use Rattle.vt_layout.specs.QueueBlock.{IsQueueBlock, driver_area, device_area}

-- the greatest size of a ring (our own)
abbrev pub GREATEST_RING : ℕ
GREATEST_RING = 1024

-- the sizes that a ring end takes: the powers of two up to the greatest
abbrev pub is_ring_size : ℕ → Bool
is_ring_size n =
    n == 1 || n == 2 || n == 4 || n == 8 || n == 16 || n == 32 || n == 64 || n == 128 || n == 256 || n == 512 || n == GREATEST_RING

-- the sizes that a queue of a device may have
abbrev pub is_queue_size : ℕ → Bool
is_queue_size n = is_ring_size n && nat_le n GREATEST_QUEUE

-- a device's record of a queue: on a split ring the numbers of heads taken and of elements used, modulo 2 ^ 16; on a
-- packed ring the two positions with their wrap counters
pub record DeviceQueue : Type 0 where
  pub cfg : RingCfg
  pub taken : ℕ
  pub taken_wrap : Bool
  pub used : ℕ
  pub used_wrap : Bool

-- the numbers of a device's record are below the count of positions of its ring
pub record IsDeviceQueue (positions : RingCfg → ℕ) (q : DeviceQueue) : Type 0 where
  pub taken : q.taken < positions q.cfg
  pub used : q.used < positions q.cfg

-- a queue that was just set
abbrev pub new_device_queue : RingCfg → DeviceQueue
new_device_queue cfg = record { cfg = cfg; taken = 0; taken_wrap = true; used = 0; used_wrap = true }

-- what giving a chain back leaves: memory, the record, and whether to signal
pub record Given : Type 0 where
  pub memory : List ℕ
  pub queue : DeviceQueue
  pub signals : Bool

-- the device's end serves the ring that it was made for
pub record KeepsRing (before after : DeviceQueue) : Type 0 where
  pub cfg : after.cfg ≡ before.cfg

-- a buffer that was posted and not yet reaped: its tag, its id (split: its head), its descriptors with the head first (a
-- packed ring has its id alone here), its slots, and its readable bytes
pub record Unreaped : Type 0 where
  pub tag : ℕ
  pub id : ℕ
  pub descriptors : List ℕ
  pub slots : ℕ
  pub readable : ℕ

-- a driver's record of a queue: the next available and the next used index, or position with its wrap counter, and the
-- unreaped buffers by rising id
pub record DriverQueue : Type 0 where
  pub cfg : RingCfg
  pub base : ℕ
  pub available : ℕ
  pub available_wrap : Bool
  pub used : ℕ
  pub used_wrap : Bool
  pub unreaped : List Unreaped

-- a queue that was just set
abbrev pub new_driver_queue : RingCfg → ℕ → DriverQueue
new_driver_queue cfg base = record { cfg = cfg; base = base; available = 0; available_wrap = true; used = 0; used_wrap = true; unreaped = [] }

-- the three areas are those of the queue block that begins at `base`
pub record IsInBlock (cfg : RingCfg) (base : ℕ) : Type 0 where
  pub block : IsQueueBlock base
  pub desc : cfg.desc ≡ base
  pub driver : cfg.driver ≡ driver_area base
  pub device : cfg.device ≡ device_area base

-- the driver's end uses the ring and the block that it was started with
pub record KeepsBlock (before after : DriverQueue) : Type 0 where
  pub cfg : after.cfg ≡ before.cfg
  pub base : after.base ≡ before.base

-- the slots of unreaped buffers
abbrev pub slots_of_all : List Unreaped → ℕ
slots_of_all [] = 0
slots_of_all (u ∷ us) = u.slots + slots_of_all us

-- the slots that are free
abbrev pub free_slots : DriverQueue → ℕ
free_slots q = q.cfg.size - slots_of_all q.unreaped

-- no buffer is in the list
abbrev pub is_empty : List Unreaped → Bool
is_empty [] = true
is_empty (u ∷ us) = false

-- a buffer joins those by rising id
abbrev pub with_buffer : Unreaped → List Unreaped → List Unreaped
with_buffer u [] = u ∷ []
with_buffer u (v ∷ vs) = if nat_lt u.id v.id then u ∷ v ∷ vs else v ∷ with_buffer u vs

-- the buffer with this id
abbrev pub unreaped_with : ℕ → List Unreaped → Option Unreaped
unreaped_with id [] = None
unreaped_with id (u ∷ us) = if u.id == id then Some u else unreaped_with id us

-- the buffers without that one
abbrev pub without : ℕ → List Unreaped → List Unreaped
without id [] = []
without id (u ∷ us) = if u.id == id then us else u ∷ without id us

-- an unreaped buffer has this tag
abbrev pub holds_tag : ℕ → List Unreaped → Bool
holds_tag tag [] = false
holds_tag tag (u ∷ us) = u.tag == tag || holds_tag tag us

-- the slots that a buffer takes
abbrev pub slots_of : PostedBuffer → ℕ
slots_of b = if b.indirect then 1 else length b.lengths

-- a used buffer that was reaped, with its written bytes
pub record ReapedValue : Type 0 where
  pub tag : ℕ
  pub len : ℕ
  pub bytes : List ℕ

-- the same of what the code answers, with its bytes in the room
abbrev pub reaped_value : Option Reaped → List ℕ → Option ReapedValue
reaped_value None room = None
reaped_value (Some r) room = Some (record { tag = r.tag; len = r.len; bytes = room })

-- posting: nothing where the buffer's slots exceed the free ones; else these accesses, the last of them marked
abbrev pub post_program : (DriverQueue → PostedBuffer → List AccessValue) → (DriverQueue → PostedBuffer → DriverQueue) → DriverQueue → PostedBuffer → Program (Bool × DriverQueue)
post_program accesses posted q b =
    if nat_lt (free_slots q) (slots_of b) then End (false, q) else do_all (accesses q b) (Mark (End (true, posted q b)))

-- the most that a post may cost: 3 pages of data, 16 of descriptors, 2 for the ring entry and 2 for the index
abbrev pub GREATEST_COST_OF_POST : ℕ
GREATEST_COST_OF_POST = 23

-- what posting costs: nothing where the buffer's slots exceed the free ones
abbrev pub cost_of_post : (DriverQueue → PostedBuffer → List AccessValue) → DriverQueue → PostedBuffer → ℕ
cost_of_post accesses q b = if nat_lt (free_slots q) (slots_of b) then 0 else cost_of_all (accesses q b)

-- what asking for the next signal costs
abbrev pub cost_of_asking : DriverQueue → ℕ
cost_of_asking q = if q.cfg.event_idx then 1 else 0

-- what reaping may cost: nothing where no buffer is unreaped
abbrev pub cost_of_reap : DriverQueue → ℕ
cost_of_reap q = if is_empty q.unreaped then 0 else cost_of_asking q

-- what a reap cost that answered this
abbrev pub cost_of_reaped : DriverQueue → Option ReapedValue → ℕ
cost_of_reaped q None = 0
cost_of_reaped q (Some r) = cost_of_asking q
