-- Both halves refuse an operation on the console for the same reason, or both do it.
use Rattle.std.proofs.Common.{◌≡◌, ℕ, zero, suc, ◌+◌, List, [], ◌∷◌, map, length, Option, Some, None, refl, sym, ◌∙◌, ap}
use Rattle.std.specs.Prelude.{slice_get}
use Rattle.std.specs.Option.{option_flatten, option_map}
use Rattle.vt_types.specs.declared.device.Dev.{Dev}
use Rattle.vt_types.specs.declared.device.Dev.TheVariants.{Con}
use Rattle.vt_types.specs.declared.device.BusKind.TheVariants.{Mmio}
use Rattle.vt_types.specs.Operation.{Operation, device_of}
use Rattle.vq_common.specs.Queue.{DriverQueue}
use Rattle.state_table.specs.Known.{KnownQueue}
use Rattle.state_table.specs.Refusal.{refusal_of}
use Rattle.state_table.specs.Same.{SameKnown, SameQueues}
use Rattle.state_table.proofs.SameRefusals.{same_refusal}
use Rattle.abstract_devices.specs.World.{AbstractQueue, World, device}
use Rattle.abstract_devices.specs.World as abstract
use Rattle.abstract_devices.specs.Operate.{operate, operate_allowed}
use Rattle.dev_core.specs.Bus.{Raw}
use Rattle.dev_core.specs.Device.{QueueState}
use Rattle.by_device.specs.ByDevice.{of}
use Rattle.drv_core.specs.Driver.{DriverRecord}
use Rattle.drv_core.specs.Driver as driver
use Rattle.drv_mmio.specs.Lowering.{allowed_lowering, mmio_lowering}
use Rattle.mmio_regs.specs.Page.{MmioRegisters}
use Rattle.ring_part.proofs.Agreement.{queue_agrees}
use Rattle.interleaving.specs.Kept.{Kept}
use Rattle.interleaving.specs.Safe.{Ends, Safe}
use Rattle.interleaving.proofs.RefusalRules.{operate_is_allowed, refusal_by, refusal_in, safe_lowered}
use Rattle.mmio_simulation.specs.Bus.{mmio}
use Rattle.mmio_simulation.specs.Related.{EachQueue, Related}

abbrev abstract_queues : List (Option AbstractQueue) → List (Option KnownQueue)
abstract_queues bs = map (option_map abstract.queue_known) bs

abbrev driver_queues : List (Option DriverQueue) → List (Option KnownQueue)
driver_queues qs = map (option_map driver.queue_known) qs

module _ (mem : List ℕ) (status accepted : ℕ) where
  same_count : (n : ℕ) (bs : List (Option AbstractQueue)) (ss : List QueueState) (qs : List (Option DriverQueue)) → EachQueue mem status accepted n bs ss qs
      → length (abstract_queues bs) ≡ length (driver_queues qs)
  same_count n [] [] [] h = refl
  same_count n (a ∷ bs) (s ∷ ss) (q ∷ qs) (h, hs) = ap suc (same_count (n + 1) bs ss qs hs)
  same_count n [] [] (q ∷ qs) h = absurd h
  same_count n [] (s ∷ ss) qs h = absurd h
  same_count n (a ∷ bs) [] qs h = absurd h
  same_count n (a ∷ bs) (s ∷ ss) [] h = absurd h

  each_same : (n : ℕ) (bs : List (Option AbstractQueue)) (ss : List QueueState) (qs : List (Option DriverQueue)) → EachQueue mem status accepted n bs ss qs
      → (i : ℕ) → SameQueues (option_flatten (slice_get (abstract_queues bs) i)) (option_flatten (slice_get (driver_queues qs) i))
  each_same n [] [] [] h i = tt
  each_same n (None ∷ bs) (s ∷ ss) (None ∷ qs) (h, hs) zero = tt
  each_same n (Some a ∷ bs) (s ∷ ss) (Some q ∷ qs) (h, hs) zero = queue_agrees h.rests.part
  each_same n (None ∷ bs) (s ∷ ss) (Some q ∷ qs) (h, hs) zero = absurd h
  each_same n (Some a ∷ bs) (s ∷ ss) (None ∷ qs) (h, hs) zero = absurd h
  each_same n (a ∷ bs) (s ∷ ss) (q ∷ qs) (h, hs) (suc i) = each_same (n + 1) bs ss qs hs i
  each_same n [] [] (q ∷ qs) h i = absurd h
  each_same n [] (s ∷ ss) qs h i = absurd h
  each_same n (a ∷ bs) [] qs h i = absurd h
  each_same n (a ∷ bs) (s ∷ ss) [] h i = absurd h

-- the state table sees the same on both sides
same_known : {w : World} {raw : Raw MmioRegisters} {known : DriverRecord} → Related w raw known → SameKnown (abstract.known_of w.devices.con) (driver.known_of known.con)
same_known {w = w} {raw = raw} {known = known} h = record {
  probed = sym h.device.known_probed;
  reset_since = sym h.device.known_reset;
  status = sym h.device.known_status;
  accepted = sym h.device.known_accepted;
  count = same_count raw.memory w.devices.con.status w.devices.con.accepted 0 w.devices.con.queues raw.devices.con.queues known.con.queues h.queues;
  queues = each_same raw.memory w.devices.con.status w.devices.con.accepted 0 w.devices.con.queues raw.devices.con.queues known.con.queues h.queues;
}

module _ (op : Operation) (on : device_of op ≡ Con) {w : World} {raw : Raw MmioRegisters} {known : DriverRecord} (h : Related w raw known) where
  pub same_reason : refusal_in w op ≡ refusal_by known op
  same_reason =
      ap (λ (dev : Dev). refusal_of (abstract.known_of (device w dev)) op) on
      ∙ same_refusal (abstract.known_of w.devices.con) (driver.known_of known.con) (same_known h) op
      ∙ sym (ap (λ (dev : Dev). refusal_of (driver.known_of (of known dev)) op) on)

  -- what the driver does not refuse, the abstract devices do
  pub allowed_at : refusal_by known op ≡ None → operate Mmio w op ≡ operate_allowed Mmio w op
  allowed_at allowed = operate_is_allowed Mmio w op (same_reason ∙ allowed)

  -- an operation begins safe where its accesses, if it is not refused, are
  pub begins : Kept mmio (λ w raw. Related w raw known) → (repeats : ℕ) {n : ℕ}
      → (refusal_by known op ≡ None → Safe mmio op (Ends mmio Related) (allowed_lowering known op repeats) n w (operate_allowed Mmio w op).world (operate_allowed Mmio w op).reply raw)
      → Safe mmio op (Ends mmio Related) (mmio_lowering known op repeats) n w (operate Mmio w op).world (operate Mmio w op).reply raw
  begins kept repeats next = safe_lowered mmio Related op known kept allowed_lowering repeats same_reason h (λ none. next (sym same_reason ∙ none))
