use Rattle.std.specs.Prelude.{◌≡◌, ℕ, ◌+◌, ◌<◌, ◌^◌, ◌⊎◌, List, [], ◌∷◌, length, Bool, true, false, Option, Some, None}
use Rattle.vt_types.specs.declared.device.Dev.TheVariants.{Con}
use Rattle.vt_types.specs.Device.{queue_block}
use Rattle.vt_types.specs.Features.{INDIRECT_DESC, EVENT_IDX}
use Rattle.vt_layout.specs.Interrupts.{USED_BUFFER, CONFIGURATION_CHANGE}
use Rattle.vq_common.specs.Queue.{DeviceQueue, DriverQueue}
use Rattle.dev_status.specs.Features.{features_of}
use Rattle.dev_status.specs.Status.{has_bits}
use Rattle.state_table.specs.Refusal.{DRIVEN, AGREED, RUNNING}
use Rattle.vt_types.specs.Status.{ACKNOWLEDGE}
use Rattle.abstract_devices.specs.World.{World, AbstractDevice, AbstractQueue}
use Rattle.dev_core.specs.declared.ring.RingKind.TheVariants.{Split}
use Rattle.dev_core.specs.Bus.{Raw, MEMORY_LENGTH}
use Rattle.dev_core.specs.Device.{DeviceState, QueueState}
use Rattle.drv_core.specs.Driver.{DriverRecord, DeviceRecord}
use Rattle.mmio_regs.specs.Page.{Page, MmioRegisters}
use Rattle.ring_part.specs.Held.{UsedHeld}
use Rattle.ring_part.specs.RingPart.{RingRests}

-- How the world, the raw machine and the driver's record stand to each other between two operations: in parts, each over what
-- it speaks of

-- the status is that of a step of the bring-up, so a device that our driver drives never needs a reset
pub data IsStep (status : ℕ) : Type 0 where
  BeforeAll : status ≡ 0 → IsStep status
  Acknowledged : status ≡ ACKNOWLEDGE → IsStep status
  Driven : status ≡ DRIVEN → IsStep status
  Agreed : status ≡ AGREED → IsStep status
  Running : status ≡ RUNNING → IsStep status

-- the features are agreed on: queues may be set
abbrev pub IsAgreed : ℕ → Type 0
IsAgreed status = (status ≡ AGREED) ⊎ (status ≡ RUNNING)

-- the device part: the status machine, and what the driver keeps of it
pub record DevicePart (a : AbstractDevice) (d : DeviceState) (k : DeviceRecord) : Type 0 where
  pub step : IsStep a.status
  pub status : d.status.status ≡ a.status
  pub accepted : d.status.accepted ≡ a.accepted
  pub offered : d.status.offered ≡ features_of Con false
  pub generation : d.generation < 2 ^ 32
  pub known_probed : k.probed ≡ a.probed
  pub known_reset : k.reset_since ≡ a.reset_since
  pub known_status : k.status ≡ a.status
  pub known_accepted : k.accepted ≡ a.accepted

-- what is known besides of the used buffers of each queue, by its number
abbrev pub UsedFacts : Type 1
UsedFacts = ℕ → List UsedHeld → Type 0

-- nothing
abbrev pub no_facts : UsedFacts
no_facts n used = Unit {0}

-- a queue that is set in all three: the ring part, with no buffer in flight; its kick; and its features, as they were accepted
pub record SetPartWith (P : List UsedHeld → Type 0) (mem : List ℕ) (status accepted n : ℕ) (a : AbstractQueue) (s : QueueState) (q : DriverQueue) : Type 0 where
  pub ring : DeviceQueue
  pub is_set : s.ring ≡ Some (record { kind = Split; queue = ring })
  pub kick : s.kick ≡ a.kick
  pub rests : RingRests P mem a ring q
  pub block : q.base ≡ queue_block Con n
  pub agreed : IsAgreed status
  pub indirect : q.cfg.indirect ≡ has_bits accepted INDIRECT_DESC
  pub event_idx : q.cfg.event_idx ≡ has_bits accepted EVENT_IDX

-- a queue that is not set, without a kick
pub record UnsetPart (s : QueueState) : Type 0 where
  pub unset : s.ring ≡ None
  pub kick : s.kick ≡ false

-- a queue is set in all three, or in none
abbrev pub QueuePartWith : (List UsedHeld → Type 0) → List ℕ → ℕ → ℕ → ℕ → Option AbstractQueue → QueueState → Option DriverQueue → Type 0
QueuePartWith P mem status accepted n None s None = UnsetPart s
QueuePartWith P mem status accepted n (Some a) s (Some q) = SetPartWith P mem status accepted n a s q
QueuePartWith P mem status accepted n None s (Some q) = ⊥
QueuePartWith P mem status accepted n (Some a) s None = ⊥

-- each queue from number n on
abbrev pub EachQueueWith : UsedFacts → List ℕ → ℕ → ℕ → ℕ → List (Option AbstractQueue) → List QueueState → List (Option DriverQueue) → Type 0
EachQueueWith F mem status accepted n [] [] [] = Unit {0}
EachQueueWith F mem status accepted n (a ∷ bs) (s ∷ ss) (q ∷ qs) = QueuePartWith (F n) mem status accepted n a s q × EachQueueWith F mem status accepted (n + 1) bs ss qs
EachQueueWith F mem status accepted n [] [] (q ∷ qs) = ⊥
EachQueueWith F mem status accepted n [] (s ∷ ss) qs = ⊥
EachQueueWith F mem status accepted n (a ∷ bs) [] qs = ⊥
EachQueueWith F mem status accepted n (a ∷ bs) (s ∷ ss) [] = ⊥

-- the signal part of MMIO: one bit for all queues that signalled, and one for a changed configuration
abbrev pub has_any : List ℕ → Bool
has_any [] = false
has_any (n ∷ ns) = true

abbrev pub bit_if : Bool → ℕ → ℕ
bit_if true bit = bit
bit_if false bit = 0

pub record SignalPart (signalled : List ℕ) (config_changed : Bool) (p : Page) : Type 0 where
  pub status : p.interrupt_status ≡ bit_if (has_any signalled) USED_BUFFER + bit_if config_changed CONFIGURATION_CHANGE
  pub queues : length p.queues ≡ 2

-- with what is known besides of the used buffers
pub record RelatedWith (F : UsedFacts) (w : World) (raw : Raw MmioRegisters) (known : DriverRecord) : Type 0 where
  pub device : DevicePart w.devices.con raw.devices.con known.con
  pub queues : EachQueueWith F raw.memory w.devices.con.status w.devices.con.accepted 0 w.devices.con.queues raw.devices.con.queues known.con.queues
  pub count : length w.devices.con.queues ≡ 2
  pub contents : raw.devices.contents ≡ w.contents
  pub signals : SignalPart w.devices.con.signalled w.devices.con.config_changed raw.registers.con
  pub memory : length raw.memory ≡ MEMORY_LENGTH

-- the relation itself, and its part of the queues
abbrev pub Related : World → Raw MmioRegisters → DriverRecord → Type 0
Related w raw known = RelatedWith no_facts w raw known

abbrev pub SetPart : List ℕ → ℕ → ℕ → ℕ → AbstractQueue → QueueState → DriverQueue → Type 0
SetPart mem status accepted n a s q = SetPartWith (no_facts n) mem status accepted n a s q

abbrev pub QueuePart : List ℕ → ℕ → ℕ → ℕ → Option AbstractQueue → QueueState → Option DriverQueue → Type 0
QueuePart mem status accepted n a s q = QueuePartWith (no_facts n) mem status accepted n a s q

abbrev pub EachQueue : List ℕ → ℕ → ℕ → ℕ → List (Option AbstractQueue) → List QueueState → List (Option DriverQueue) → Type 0
EachQueue mem status accepted n bs ss qs = EachQueueWith no_facts mem status accepted n bs ss qs
