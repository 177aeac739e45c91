-- Locations that are free by the driver's record of a queue: events keep what stands there, and a put there keeps the relation.
use Rattle.std.proofs.Common.{◌≡◌, ℕ, ◌+◌, ◌≤◌, List, length, Some}
use Rattle.guest_mem.specs.Memory.{part as bytes_at}
use Rattle.vt_types.specs.declared.operation.Event.{Event}
use Rattle.vt_types.specs.Device.{BLOCK_LEN}
use Rattle.vq_common.specs.Queue.{DriverQueue}
use Rattle.abstract_devices.specs.World.{World}
use Rattle.dev_core.specs.Bus.{Raw, raw_event}
use Rattle.drv_core.specs.Driver.{DriverRecord, driver_queue}
use Rattle.mmio_regs.specs.MmioTable.{mmio_table}
use Rattle.mmio_regs.specs.Page.{MmioRegisters}
use Rattle.interleaving.specs.FreeLocations.{FreeLocations, with_put}
use Rattle.ring_part.specs.Locations.{IsFreeLocation, IsInside}
use Rattle.ring_part.proofs.Free.{free_inside, free_in_block, free_put}
use Rattle.mmio_simulation.specs.Bus.{mmio}
use Rattle.mmio_simulation.specs.Related.{no_facts, Related}
use Rattle.mmio_simulation.proofs.Blocks.{put_changes}
use Rattle.mmio_simulation.proofs.EventFacts.{OfSet, event_memory}
use Rattle.mmio_simulation.proofs.EventsKeep.{related_kept}
use Rattle.mmio_simulation.proofs.QueueChanges.{same_queue}
use Rattle.mmio_simulation.proofs.Queues.{set_in}

module _ (known : DriverRecord) (n : ℕ) (q : DriverQueue) (found : driver_queue known.con n ≡ Some q) where
  inside : (w : World) (raw : Raw MmioRegisters) (addr count : ℕ) → Related w raw known → IsFreeLocation q addr count → addr + count ≤ length raw.memory
  inside w raw addr count r free = free_inside (set_in r n q found).at.here.rests.part addr count free

  put_kept : (w : World) (raw : Raw MmioRegisters) (addr : ℕ) (bytes : List ℕ) → Related w raw known → IsFreeLocation q addr (length bytes) → Related w (with_put raw addr bytes) known
  put_kept w raw addr bytes r free =
      let at = set_in r n q found in
      let here : IsInside q.base BLOCK_LEN addr (length bytes) = free_in_block at.at.here.rests.part addr (length bytes) free in
      same_queue no_facts no_facts w raw known (with_put raw addr bytes).memory n q found at r (put_changes n raw.memory q.base addr bytes at.at.here.block here (inside w raw addr (length bytes) r free)) (λ j other used h. tt)
      (record { used = at.at.here.rests.used; waiting = at.at.here.rests.waiting; part = free_put at.at.here.rests.part addr bytes free; known = tt })

  stays : (w : World) (raw : Raw MmioRegisters) (e : Event) (addr count : ℕ) → Related w raw known → IsFreeLocation q addr count → bytes_at (raw_event mmio_table raw e).memory addr count ≡ bytes_at raw.memory addr count
  stays w raw e addr count r free = event_memory r addr count e (OfSet n q found free)

  pub free_locations : FreeLocations mmio (λ w raw. Related w raw known) (IsFreeLocation q)
  free_locations = record { kept = related_kept known; inside = inside; put = put_kept; stays = stays }
