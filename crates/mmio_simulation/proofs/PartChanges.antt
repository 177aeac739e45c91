-- Parts of the relation, where something else changes.
use Rattle.std.proofs.Common.{◌≡◌, ℕ, ◌<◌, ◌^◌, List, Bool, Option, refl, sym, ◌∙◌, ap}
use Rattle.vq_common.specs.declared.chain.RingCfg.{RingCfg}
use Rattle.vq_common.specs.Queue.{DriverQueue}
use Rattle.abstract_devices.specs.World.{AbstractDevice, AbstractQueue}
use Rattle.dev_core.specs.Device.{DeviceState, QueueState}
use Rattle.drv_core.specs.Driver.{DeviceRecord}
use Rattle.ring_part.specs.Held.{UsedHeld}
use Rattle.ring_part.specs.RingPart.{RingRests}
use Rattle.ring_part.proofs.Kept.{kicked}
use Rattle.mmio_simulation.specs.Related.{DevicePart, SetPartWith}

-- the device part speaks of no queue and no signal
pub device_kept : {a : AbstractDevice} {d : DeviceState} {k : DeviceRecord} {bs : List (Option AbstractQueue)} {ns : List ℕ} {changed : Bool} {generation : ℕ} {ss : List QueueState} {qs : List (Option DriverQueue)}
    → generation < 2 ^ 32 → DevicePart a d k
    → DevicePart (record a { queues = bs; signalled = ns; config_changed = changed }) (record d { generation = generation; queues = ss }) (record k { queues = qs })
device_kept low p =
    record {
      step = p.step;
      status = p.status;
      accepted = p.accepted;
      offered = p.offered;
      generation = low;
      known_probed = p.known_probed;
      known_reset = p.known_reset;
      known_status = p.known_status;
      known_accepted = p.known_accepted;
    }

-- the part of a queue that is set, with another ring for the abstract devices and the driver
pub changed_part : (P Q : List UsedHeld → Type 0) (mem mem2 : List ℕ) (status accepted n : ℕ) (a a2 : AbstractQueue) (s : QueueState) (q q2 : DriverQueue) (set : SetPartWith P mem status accepted n a s q)
    → a2.kick ≡ a.kick → q2.base ≡ q.base → q2.cfg ≡ q.cfg → RingRests Q mem2 a2 set.ring q2 → SetPartWith Q mem2 status accepted n a2 s q2
changed_part P Q mem mem2 status accepted n a a2 s q q2 set kick base cfg rests =
    record {
      ring = set.ring;
      is_set = set.is_set;
      kick = set.kick ∙ sym kick;
      rests = rests;
      block = base ∙ set.block;
      agreed = set.agreed;
      indirect = ap (λ (c : RingCfg). c.indirect) cfg ∙ set.indirect;
      event_idx = ap (λ (c : RingCfg). c.event_idx) cfg ∙ set.event_idx;
    }

-- with a kick, or without it
pub kicked_part : (P : List UsedHeld → Type 0) (mem : List ℕ) (status accepted n : ℕ) (a : AbstractQueue) (s : QueueState) (q : DriverQueue) (kick : Bool) → SetPartWith P mem status accepted n a s q
    → SetPartWith P mem status accepted n (record a { kick = kick }) (record s { kick = kick }) q
kicked_part P mem status accepted n a s q kick set =
    record {
      ring = set.ring;
      is_set = set.is_set;
      kick = refl;
      rests = record { used = set.rests.used; waiting = set.rests.waiting; part = kicked kick set.rests.part; known = set.rests.known };
      block = set.block;
      agreed = set.agreed;
      indirect = set.indirect;
      event_idx = set.event_idx;
    }
