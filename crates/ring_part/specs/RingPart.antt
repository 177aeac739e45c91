use Rattle.std.specs.Prelude.{◌≡◌, ℕ, ◌+◌, ◌%◌, ◌^◌, List, [], ◌++◌, map, length, replicate, All}
use Rattle.guest_mem.specs.Memory.{part}
use Rattle.vq_common.specs.declared.chain.RingCfg.{RingCfg}
use Rattle.vt_layout.specs.QueueBlock.{QUEUE_AREAS}
use Rattle.vq_common.specs.Queue.{DeviceQueue, DriverQueue, Unreaped}
use Rattle.vq_split_drv.specs.Driver.{IsSplitQueue}
use Rattle.vq_split_pair.specs.Pair.{IsInMemory}
use Rattle.abstract_devices.specs.World.{AbstractQueue, SignalMode}
use Rattle.ring_part.specs.Held.{Held, UsedHeld, CanStand, FitsRoom, HasThese, all_held, available_of, used_of}
use Rattle.memory_port.specs.Puts.{Hold}
use Rattle.ring_part.specs.RingPuts.{all_puts, element_puts, entry_puts, index_puts, is_first}

-- both records speak of one ring, of the size of the abstract queue; the first used buffer alone is signalled exactly with
-- EVENT_IDX
pub record SameRing (device driver : RingCfg) (queue_size : ℕ) (signals : SignalMode) : Type 0 where
  pub ring : device ≡ driver
  pub size : queue_size ≡ driver.size
  pub mode : is_first signals ≡ driver.event_idx

-- the driver's unreaped buffers are these, the ring can hold each, and none has more bytes written than room
pub record HasBuffers (cfg : RingCfg) (unreaped : List Unreaped) (used : List UsedHeld) (taken waiting : List Held) : Type 0 where
  pub these : HasThese unreaped (all_held used taken waiting)
  pub each : All (CanStand cfg) (all_held used taken waiting)
  pub fit : All FitsRoom used

-- the abstract queue has those that wait as available ones, and the used ones, in order
pub record HasLists (a : AbstractQueue) (used : List UsedHeld) (waiting : List Held) : Type 0 where
  pub available : a.available ≡ map available_of waiting
  pub finished : a.used ≡ map used_of used

-- the indices that the driver reaps at, the device uses and takes at, and the driver makes available at follow each other
-- by the buffers between them, modulo 2 ^ 16
pub record Follow (reaps_at uses_at takes_at posts_at used taken waiting : ℕ) : Type 0 where
  pub to_reap : uses_at ≡ (reaps_at + used) % 2 ^ 16
  pub in_flight : takes_at ≡ (uses_at + taken) % 2 ^ 16
  pub to_take : posts_at ≡ (takes_at + waiting) % 2 ^ 16

-- an abstract queue, and a split ring in memory with the device's and the driver's record of it, with the buffers that the
-- device used, those that it has taken and those that wait
pub record RingPart (mem : List ℕ) (a : AbstractQueue) (d : DeviceQueue) (q : DriverQueue) (used : List UsedHeld) (taken waiting : List Held) : Type 0 where
  pub same : SameRing d.cfg q.cfg a.size a.mode
  pub block : IsInMemory (length mem) q.cfg q.base
  pub queue : IsSplitQueue q
  pub buffers : HasBuffers q.cfg q.unreaped used taken waiting
  pub lists : HasLists a used waiting
  pub counts : Follow q.used d.used d.taken q.available (length used) (length taken) (length waiting)
  pub indices : Hold (index_puts q.cfg q.base a.mode q.available d.used q.used) mem
  pub entries : Hold (entry_puts q.base q.cfg.size d.taken waiting) mem
  pub elements : Hold (element_puts q.base q.cfg.size q.used used) mem
  pub puts : Hold (all_puts q.cfg q.base (taken ++ waiting)) mem

-- the same where no buffer is in flight, as between two events where each buffer is answered at once; more may be known of
-- the used ones
pub record RingRests (P : List UsedHeld → Type 0) (mem : List ℕ) (a : AbstractQueue) (d : DeviceQueue) (q : DriverQueue) : Type 0 where
  pub used : List UsedHeld
  pub waiting : List Held
  pub part : RingPart mem a d q used [] waiting
  pub known : P used

-- the areas of a queue block are zeros, as a driver leaves them before it sets the queue
pub record IsCleared (mem : List ℕ) (base : ℕ) : Type 0 where
  pub areas : part mem base QUEUE_AREAS ≡ replicate QUEUE_AREAS 0
