-- Operations on a queue that is set, on any bus and with any kind of ring.
use Rattle.std.proofs.Common.{◌≡◌, ℕ, ◌+◌, ◌≤◌, List, [], ◌∷◌, ◌++◌, length, true, false, Some, ap}
use Rattle.std.specs.Prelude.{nat_lt}
use Rattle.vt_types.specs.declared.device.Dev.{Dev}
use Rattle.vt_types.specs.Access.{AccessValue, Put}
use Rattle.vt_types.specs.Operation.{Operation, PostedBuffer}
use Rattle.vt_types.specs.Program.{Program, Mark, End, and_then, do_all}
use Rattle.vt_types.specs.Reply.{ReplyValue}
use Rattle.vt_types.specs.Reply as reply
use Rattle.vq_common.specs.Queue.{DriverQueue, free_slots, slots_of, post_program}
use Rattle.memory_port.specs.Puts.{AllIn, AllApart}
use Rattle.abstract_devices.specs.World.{World}
use Rattle.abstract_devices.specs.Operate.{operate}
use Rattle.dev_core.specs.Bus.{Raw}
use Rattle.by_device.specs.ByDevice.{of}
use Rattle.drv_core.specs.Driver.{DriverRecord, Ended, ends, driver_queue, with_driver_queue}
use Rattle.drv_core.specs.Lowering.{queue_program, on_queue, post_reply}
use Rattle.interleaving.specs.BusDefinition.{BusDefinition}
use Rattle.interleaving.specs.FreeLocations.{FreeLocations, Holding, with_put}
use Rattle.interleaving.specs.Kept.{Kept}
use Rattle.interleaving.specs.Safe.{Relation, Ending, Safe, Ends}
use Rattle.interleaving.proofs.FreePutRules.{safe_puts_marked}
use Rattle.interleaving.proofs.ProgramRules.{safe_as, safe_false, safe_then, safe_end, safe_ended}

-- the queue is set
pub safe_on_queue : {R : Type 0} {bus : BusDefinition R} {op : Operation} {ending : Ending R Ended} (known : DriverRecord) (dev : Dev) (queue : ℕ) (q : DriverQueue) (program : DriverQueue → Program Ended)
    {n : ℕ} {w v : World} {answer : ReplyValue} {raw : Raw R} → driver_queue (of known dev) queue ≡ Some q
    → Safe bus op ending (program q) n w v answer raw → Safe bus op ending (queue_program known dev queue program) n w v answer raw
safe_on_queue known dev queue q program set h = safe_as (ap (on_queue known dev queue program) set) h

module _ {R : Type 0} (bus : BusDefinition R) (rel : Relation R) (op : Operation) (known : DriverRecord) (dev : Dev) (queue : ℕ) (q : DriverQueue) (b : PostedBuffer)
    (accesses : DriverQueue → PostedBuffer → List AccessValue) (posted : DriverQueue → PostedBuffer → DriverQueue) where
  abbrev after_post : DriverRecord
  after_post = with_driver_queue known dev queue (posted q b)

  -- a buffer that fits is posted: by puts to free locations, and a last one that is marked
  pub safe_post : (free : ℕ → ℕ → Type 0) (locations : FreeLocations bus (λ w raw. rel w raw known) free) (front : List AccessValue) (addr : ℕ) (bytes : List ℕ)
      → Kept bus (λ w raw. rel w raw after_post) → accesses q b ≡ front ++ Put addr bytes ∷ [] → nat_lt (free_slots q) (slots_of b) ≡ false → AllIn free front → AllApart front
      → ((w : World) (raw : Raw R) → rel w raw known → addr + length bytes ≤ length raw.memory)
      → ((w : World) (raw : Raw R) → Holding (λ w raw. rel w raw known) front w raw
      → ((operate bus.kind w op).reply ≡ reply.Good) × rel (operate bus.kind w op).world (with_put raw addr bytes) after_post)
      → {n : ℕ} {w v : World} {answer : ReplyValue} {raw : Raw R} → rel w raw known
      → Safe bus op (Ends bus rel) (and_then (post_program accesses posted q b) (λ p. ends (post_reply p.0) (with_driver_queue known dev queue p.1))) n w v answer raw
  safe_post free locations front addr bytes kept split fits may apart inside law h =
      safe_then (post_program accesses posted q b) (λ p. ends (post_reply p.0) (with_driver_queue known dev queue p.1))
      (safe_false _ fits
      (safe_as (ap (λ puts. do_all puts (Mark (End (true, posted q b)))) split)
      (safe_puts_marked bus (λ w raw. rel w raw known) free locations front addr bytes may apart inside h
      (λ n w raw h. let (says, after) = law w raw h in safe_end (safe_ended kept says after)))))
