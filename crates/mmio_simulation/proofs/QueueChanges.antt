-- A change of one queue of the console, which the driver has set.
use Rattle.std.proofs.Common.{◌≡◌, ℕ, ◌+◌, List, length-set, Option, Some, refl, sym, ◌∙◌, ap, subst, arith}
use Rattle.std.specs.Prelude.{slice_get, slice_set}
use Rattle.vt_types.specs.declared.device.Dev.TheVariants.{Con}
use Rattle.vq_common.specs.Queue.{DriverQueue}
use Rattle.abstract_devices.specs.World.{World, AbstractQueue, with_queue}
use Rattle.dev_core.specs.Bus.{Raw}
use Rattle.dev_core.specs.Device.{QueueState}
use Rattle.drv_core.specs.Driver.{DriverRecord, driver_queue, with_driver_queue}
use Rattle.mmio_regs.specs.Page.{MmioRegisters}
use Rattle.ring_part.specs.RingPart.{RingRests}
use Rattle.mmio_simulation.specs.Related.{UsedFacts, no_facts, SetPartWith, QueuePartWith, EachQueueWith, RelatedWith, Related}
use Rattle.mmio_simulation.proofs.Blocks.{ChangesBlock, Elsewhere, queue_elsewhere, queue_less}
use Rattle.mmio_simulation.proofs.PartChanges.{changed_part, device_kept}
use Rattle.mmio_simulation.proofs.Queues.{SetIn, each_changed, each_replaced, of_flatten, slice_set-same}

module _ (F G : UsedFacts) (w : World) (raw : Raw MmioRegisters) (known : DriverRecord) (mem2 : List ℕ) (n : ℕ) (q : DriverQueue) (at : SetIn F w raw known n q) (r : RelatedWith F w raw known) (changes : ChangesBlock n raw.memory mem2) (less : Elsewhere n F G) where
  queues_changed : (a2 : AbstractQueue) (q2 : DriverQueue) → SetPartWith (G n) mem2 w.devices.con.status w.devices.con.accepted n a2 at.s q2
      → EachQueueWith G mem2 w.devices.con.status w.devices.con.accepted 0 (slice_set w.devices.con.queues n (Some a2)) raw.devices.con.queues (slice_set known.con.queues n (Some q2))
  queues_changed a2 q2 set =
      let location : 0 + n ≡ n = omega arith in
      subst (λ (ss : List QueueState). EachQueueWith G mem2 w.devices.con.status w.devices.con.accepted 0 (slice_set w.devices.con.queues n (Some a2)) ss (slice_set known.con.queues n (Some q2)))
      (slice_set-same raw.devices.con.queues n at.s at.at.in_raw)
      (each_replaced F G raw.memory mem2 w.devices.con.status w.devices.con.status w.devices.con.accepted w.devices.con.accepted 0 w.devices.con.queues raw.devices.con.queues known.con.queues n (Some a2) at.s (Some q2)
      (λ k other a s o part. queue_elsewhere F G raw.memory mem2 w.devices.con.status w.devices.con.accepted n k changes less (λ e. other (e ∙ sym location)) a s o part)
      (subst (λ (k : ℕ). QueuePartWith (G k) mem2 w.devices.con.status w.devices.con.accepted k (Some a2) at.s (Some q2)) (sym location) set)
      r.queues)

  -- the queue changes for the abstract devices and the driver, in memory of its block alone
  pub changed_queue : (a2 : AbstractQueue) (q2 : DriverQueue) → SetPartWith (G n) mem2 w.devices.con.status w.devices.con.accepted n a2 at.s q2
      → RelatedWith G (record w { devices = record w.devices { con = with_queue w.devices.con n a2 } }) (record raw { memory = mem2 }) (with_driver_queue known Con n q2)
  changed_queue a2 q2 set =
      record {
        device = device_kept r.device.generation r.device;
        queues = queues_changed a2 q2 set;
        count = length-set w.devices.con.queues n (Some a2) ∙ r.count;
        contents = r.contents;
        signals = r.signals;
        memory = changes.long ∙ r.memory;
      }

-- a record of a queue that is what it was
pub same_known : (known : DriverRecord) (n : ℕ) (q : DriverQueue) → driver_queue known.con n ≡ Some q → with_driver_queue known Con n q ≡ known
same_known known n q found =
    ap (λ (qs : List (Option DriverQueue)). record known { con = record known.con { queues = qs } }) (slice_set-same known.con.queues n (Some q) (of_flatten (slice_get known.con.queues n) q found))

-- the ring alone changes
pub same_queue : (F G : UsedFacts) (w : World) (raw : Raw MmioRegisters) (known : DriverRecord) (mem2 : List ℕ) (n : ℕ) (q : DriverQueue) (found : driver_queue known.con n ≡ Some q) (at : SetIn F w raw known n q)
    → RelatedWith F w raw known → ChangesBlock n raw.memory mem2 → Elsewhere n F G → RingRests (G n) mem2 at.a at.at.here.ring q → RelatedWith G w (record raw { memory = mem2 }) known
same_queue F G w raw known mem2 n q found at r changes less rests =
    let raw2 : Raw MmioRegisters = record raw { memory = mem2 } in
    let world : record w { devices = record w.devices { con = with_queue w.devices.con n at.a } } ≡ w = ap (λ (qs : List (Option AbstractQueue)). record w { devices = record w.devices { con = record w.devices.con { queues = qs } } }) (slice_set-same w.devices.con.queues n (Some at.a) at.at.in_world) in
    let part : SetPartWith (G n) mem2 w.devices.con.status w.devices.con.accepted n at.a at.s q = changed_part (F n) (G n) raw.memory mem2 w.devices.con.status w.devices.con.accepted n at.a at.a at.s q q at.at.here refl refl refl rests in
    subst (λ (x : World). RelatedWith G x raw2 known) world
    (subst (RelatedWith G (record w { devices = record w.devices { con = with_queue w.devices.con n at.a } }) raw2) (same_known known n q found) (changed_queue F G w raw known mem2 n q at r changes less at.a q part))

-- what is known besides may be left out
pub without_facts : (F : UsedFacts) (w : World) (raw : Raw MmioRegisters) (known : DriverRecord) → RelatedWith F w raw known → Related w raw known
without_facts F w raw known r =
    record {
      device = r.device;
      queues = each_changed F no_facts raw.memory raw.memory w.devices.con.status w.devices.con.status w.devices.con.accepted w.devices.con.accepted 0 w.devices.con.queues raw.devices.con.queues known.con.queues
          (λ k above a s q part. queue_less (F k) (no_facts k) raw.memory w.devices.con.status w.devices.con.accepted k (λ used h. tt) a s q part) r.queues;
      count = r.count;
      contents = r.contents;
      signals = r.signals;
      memory = r.memory;
    }
