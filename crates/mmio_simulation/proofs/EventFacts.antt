-- What stands in memory at locations that no event writes, events leave.
use Rattle.std.proofs.Common.{◌≡◌, ℕ, ◌≤◌, List, [], ◌∷◌, length, Option, Some, None, refl, sym, ◌∙◌, ap, subst, inl, inr, arith}
use Rattle.std.specs.Prelude.{slice_get}
use Rattle.std.specs.Option.{option_flatten}
use Rattle.std.proofs.lemmas.Bool.{cases_eq, cases_order}
use Rattle.std.proofs.lemmas.Option.{none-some, same_Some}
use Rattle.guest_mem.specs.Memory.{part as bytes_at, Apart}
use Rattle.vt_types.specs.declared.device.Dev.TheVariants.{Blk, Net, Con}
use Rattle.vt_types.specs.declared.operation.Event.{Event}
use Rattle.vt_types.specs.declared.operation.Event.TheVariants as event
use Rattle.vt_types.specs.Device.{BLOCK_LEN, queue_block}
use Rattle.vq_common.specs.Queue.{DriverQueue}
use Rattle.vq_split_pair.specs.Pair.{room_of}
use Rattle.dev_console.specs.Console.{ConsoleAnswer}
use Rattle.abstract_devices.specs.World.{World, AbstractQueue}
use Rattle.dev_core.specs.Bus.{Raw, raw_event}
use Rattle.dev_core.specs.Device.{QueueState}
use Rattle.drv_core.specs.Driver.{DeviceRecord, DriverRecord, driver_queue}
use Rattle.mmio_regs.specs.MmioTable.{mmio_table}
use Rattle.mmio_regs.specs.Page.{MmioRegisters}
use Rattle.ring_part.specs.Held.{Held, chain_of_held}
use Rattle.ring_part.specs.Locations.{IsInside, IsFreeLocation}
use Rattle.ring_part.specs.RingPart.{RingPart}
use Rattle.ring_part.proofs.Free.{free_in_block}
use Rattle.ring_part.proofs.Serve.{served_ring, served_free, served_elsewhere}
use Rattle.mmio_simulation.specs.Related.{UsedFacts, RelatedWith}
use Rattle.mmio_simulation.proofs.Queues.{IsSetAt, SetIn, set_in}
use Rattle.mmio_simulation.proofs.Serving.{by_serve}
use Rattle.mmio_simulation.proofs.EventRegisters.{by_consize}

-- a location that no event writes: one that is free in a queue that is set, or in the block of a queue that is not set
pub data IsStillLocation (known : DeviceRecord) (addr count : ℕ) : Type 0 where
  OfSet : (n : ℕ) (q : DriverQueue) → driver_queue known n ≡ Some q → IsFreeLocation q addr count → IsStillLocation known addr count
  OfUnset : (n : ℕ) → driver_queue known n ≡ None → IsInside (queue_block Con n) BLOCK_LEN addr count → IsStillLocation known addr count

-- a location in the block of another queue is apart from a block
pub location_apart : (base n m addr count : ℕ) → base ≡ queue_block Con n → (m ≡ n → ⊥) → IsInside (queue_block Con m) BLOCK_LEN addr count → Apart base BLOCK_LEN addr count
location_apart base n m addr count is other inside =
    let starts = inside.starts in
    let ends = inside.ends in
    elim (cases_order m n) [
      | inl same ↦ absurd (other same)
      | inr order ↦ elim order [ inl below ↦ inr (omega (arith, is, below, ends)) | inr above ↦ inl (omega (arith, is, above, starts)) ]
    ]

module _ {F : UsedFacts} {w : World} {raw : Raw MmioRegisters} {known : DriverRecord} (r : RelatedWith F w raw known) (addr count : ℕ) where
  -- by a serve of a queue that is set
  module _ {n : ℕ} {a : AbstractQueue} {s : QueueState} {q : DriverQueue} (at : IsSetAt F w raw known n a s q) (h : Held) (rest : List Held) (x : ConsoleAnswer)
      (part : RingPart raw.memory a at.here.ring q at.here.rests.used [] (h ∷ rest)) (few : length x.written ≤ room_of h.buffer) where
    abbrev left : List ℕ
    left = (served_ring raw.memory at.here.ring (chain_of_held q.base h) x.written).memory

    elsewhere : (m : ℕ) → (m ≡ n → ⊥) → IsInside (queue_block Con m) BLOCK_LEN addr count → bytes_at left addr count ≡ bytes_at raw.memory addr count
    elsewhere m other inside = served_elsewhere x.written part few addr count (location_apart q.base n m addr count at.here.block other inside)

    still : IsStillLocation known.con addr count → bytes_at left addr count ≡ bytes_at raw.memory addr count
    still (OfSet m p found free) =
        let there : SetIn F w raw known m p = set_in r m p found in
        let base : p.base ≡ queue_block Con m = there.at.here.block in
        let inside : IsInside (queue_block Con m) BLOCK_LEN addr count
        = subst (λ (b : ℕ). IsInside b BLOCK_LEN addr count) base (free_in_block there.at.here.rests.part addr count free)
        in
        elim (cases_eq m n) [
          | inl same ↦
              let one : p ≡ q = same_Some p q (same_Some (Some p) (Some q) (sym there.at.in_record ∙ ap (slice_get known.con.queues) same ∙ at.in_record)) in
              served_free x.written part few addr count (subst (λ (q : DriverQueue). IsFreeLocation q addr count) one free)
          | inr other ↦ elsewhere m other inside
        ]
    still (OfUnset m none inside) =
        elim (cases_eq m n) [
          | inl same ↦ absurd (none-some q (sym none ∙ ap (λ (k : ℕ). option_flatten (slice_get known.con.queues k)) same ∙ ap (λ (o : Option (Option DriverQueue)). option_flatten o) at.in_record))
          | inr other ↦ elsewhere m other inside
        ]

  -- events keep what stands there
  pub event_memory : (e : Event) → IsStillLocation known.con addr count → bytes_at (raw_event mmio_table raw e).memory addr count ≡ bytes_at raw.memory addr count
  event_memory (event.Serve Con n) location =
      by_serve (λ w2 raw2. bytes_at raw2.memory addr count ≡ bytes_at raw.memory addr count) F n w raw known r refl (λ a s q at. refl) (λ a s q at h rest x part few. still at h rest x part few location)
  event_memory (event.Serve Blk n) location = refl
  event_memory (event.Serve Net n) location = refl
  event_memory (event.Frame bytes) location = refl
  event_memory (event.Key bytes) location = refl
  event_memory (event.Resize sectors) location = refl
  event_memory (event.Link up) location = refl
  event_memory (event.Consize cols rows) location = by_consize raw (λ (raw2 : Raw MmioRegisters). bytes_at raw2.memory addr count ≡ bytes_at raw.memory addr count) cols rows refl refl
  event_memory (event.Diskfail call) location = refl
