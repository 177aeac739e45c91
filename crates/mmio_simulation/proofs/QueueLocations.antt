-- The queues of the console: how many, at another status, and one of them by the driver's record.
use Rattle.std.proofs.Common.{◌≡◌, ℕ, zero, suc, ◌+◌, ◌<◌, List, [], ◌∷◌, map, length, false, Option, Some, None, refl, sym, ◌∙◌, ap, subst, arith}
use Rattle.std.specs.Prelude.{is_some, slice_get, slice_set}
use Rattle.std.specs.Option.{option_flatten, option_map}
use Rattle.std.proofs.lemmas.Option.{none-some, same_Some, slice_get_within}
use Rattle.vt_types.specs.Features.{INDIRECT_DESC, EVENT_IDX}
use Rattle.vq_common.specs.Queue.{DriverQueue}
use Rattle.dev_status.specs.Status.{has_bits}
use Rattle.state_table.specs.Known.{KnownQueue}
use Rattle.abstract_devices.specs.World.{AbstractQueue, World}
use Rattle.dev_core.specs.Bus.{Raw}
use Rattle.dev_core.specs.Device.{QueueState}
use Rattle.drv_core.specs.Driver.{DriverRecord, queue_known}
use Rattle.mmio_regs.specs.Page.{MmioRegisters}
use Rattle.mmio_simulation.specs.Related.{EachQueue, IsAgreed, QueuePart, Related, UnsetPart, no_facts}
use Rattle.mmio_simulation.proofs.Queues.{Found, NoSuchQueue, Queue, each_changed, each_replaced, found_in}

-- an item that was written is read
pub read_set : {X : Type 0} (xs : List X) (n : ℕ) (x y : X) → slice_get xs n ≡ Some x → slice_get (slice_set xs n y) n ≡ Some y
read_set [] n x y is = absurd (none-some x is)
read_set (z ∷ xs) zero x y is = refl
read_set (z ∷ xs) (suc n) x y is = read_set xs n x y is

-- a queue that the state table sees unset is unset in the driver's record
abbrev known_queues : List (Option DriverQueue) → List (Option KnownQueue)
known_queues qs = map (option_map queue_known) qs

pub unset_in_record : (qs : List (Option DriverQueue)) (n : ℕ) → n < length (known_queues qs) → is_some (option_flatten (slice_get (known_queues qs) n)) ≡ false → slice_get qs n ≡ Some None
unset_in_record [] n below is = absurd (omega arith)
unset_in_record (None ∷ qs) zero below is = refl
unset_in_record (Some q ∷ qs) zero below is = absurd (cc)
unset_in_record (q ∷ qs) (suc n) below is = unset_in_record qs n (omega arith) is

-- the device has as many queues as the world
device_count_from : (mem : List ℕ) (status accepted n : ℕ) (bs : List (Option AbstractQueue)) (ss : List QueueState) (qs : List (Option DriverQueue)) → EachQueue mem status accepted n bs ss qs
    → length ss ≡ length bs
device_count_from mem status accepted n [] [] [] each = refl
device_count_from mem status accepted n (a ∷ bs) (s ∷ ss) (q ∷ qs) (here, others) = ap suc (device_count_from mem status accepted (n + 1) bs ss qs others)
device_count_from mem status accepted n [] [] (q ∷ qs) each = absurd each
device_count_from mem status accepted n [] (s ∷ ss) qs each = absurd each
device_count_from mem status accepted n (a ∷ bs) [] qs each = absurd each
device_count_from mem status accepted n (a ∷ bs) (s ∷ ss) [] each = absurd each

-- a queue at another status and with other accepted features: one that is set only where queues may be
part_at_status : (mem : List ℕ) (status status2 accepted accepted2 n : ℕ) → (IsAgreed status → IsAgreed status2 × (accepted ≡ accepted2))
    → (a : Option AbstractQueue) (s : QueueState) (q : Option DriverQueue) → QueuePart mem status accepted n a s q → QueuePart mem status2 accepted2 n a s q
part_at_status mem status status2 accepted accepted2 n may None s None part = part
part_at_status mem status status2 accepted accepted2 n may None s (Some q) part = absurd part
part_at_status mem status status2 accepted accepted2 n may (Some a) s None part = absurd part
part_at_status mem status status2 accepted accepted2 n may (Some a) s (Some q) part =
    let (agreed, same) = may part.agreed in
    record {
      ring = part.ring;
      is_set = part.is_set;
      kick = part.kick;
      rests = part.rests;
      block = part.block;
      agreed = agreed;
      indirect = part.indirect ∙ ap (λ (bits : ℕ). has_bits bits INDIRECT_DESC) same;
      event_idx = part.event_idx ∙ ap (λ (bits : ℕ). has_bits bits EVENT_IDX) same;
    }

-- a queue that is not set
pub record UnsetAt (w : World) (raw : Raw MmioRegisters) (n : ℕ) : Type 0 where
  pub state : QueueState
  pub in_world : slice_get w.devices.con.queues n ≡ Some None
  pub in_raw : slice_get raw.devices.con.queues n ≡ Some state
  pub unset_part : UnsetPart state

unset_part_of : (mem : List ℕ) (status accepted n : ℕ) (a : Option AbstractQueue) (s : QueueState) (q : Option DriverQueue) → q ≡ None → QueuePart mem status accepted n a s q → (a ≡ None) × UnsetPart s
unset_part_of mem status accepted n None s None is part = (refl, part)
unset_part_of mem status accepted n None s (Some q) is part = absurd part
unset_part_of mem status accepted n (Some a) s None is part = absurd part
unset_part_of mem status accepted n (Some a) s (Some q) is part = absurd (none-some q (sym is))

module _ {w : World} {raw : Raw MmioRegisters} {known : DriverRecord} (h : Related w raw known) where
  pub device_count : length raw.devices.con.queues ≡ length w.devices.con.queues
  device_count = device_count_from raw.memory w.devices.con.status w.devices.con.accepted 0 w.devices.con.queues raw.devices.con.queues known.con.queues h.queues

  pub at_status : (status2 accepted2 : ℕ) → (IsAgreed w.devices.con.status → IsAgreed status2 × (w.devices.con.accepted ≡ accepted2))
      → EachQueue raw.memory status2 accepted2 0 w.devices.con.queues raw.devices.con.queues known.con.queues
  at_status status2 accepted2 may =
      each_changed no_facts no_facts raw.memory raw.memory w.devices.con.status status2 w.devices.con.accepted accepted2 0 w.devices.con.queues raw.devices.con.queues known.con.queues
      (λ n above. part_at_status raw.memory w.devices.con.status status2 w.devices.con.accepted accepted2 n may) h.queues

  unset_found : (n : ℕ) → slice_get known.con.queues n ≡ Some None
      → Found no_facts raw.memory w.devices.con.status w.devices.con.accepted n (slice_get w.devices.con.queues n) (slice_get raw.devices.con.queues n) (slice_get known.con.queues n) → UnsetAt w raw n
  unset_found n unset (NoSuchQueue in_world in_raw in_record) = absurd (none-some None (sym in_record ∙ unset))
  unset_found n unset (Queue a s q in_world in_raw in_record part) =
      let (is, unset_part) = unset_part_of raw.memory w.devices.con.status w.devices.con.accepted n a s q (same_Some q None (sym in_record ∙ unset)) part in
      record { state = s; in_world = in_world ∙ ap Some is; in_raw = in_raw; unset_part = unset_part }

  -- one that the driver has not set is set in neither half
  pub unset_at : (n : ℕ) → slice_get known.con.queues n ≡ Some None → UnsetAt w raw n
  unset_at n unset = unset_found n unset (found_in h n)

  pub unset_below : (n : ℕ) → slice_get known.con.queues n ≡ Some None → n < 2
  unset_below n unset =
      let below : n < length w.devices.con.queues = slice_get_within w.devices.con.queues n None (unset_at n unset).in_world in
      let count = h.count in
      omega (arith, below, count)

  -- another queue in the place of one
  pub queue_located : (n : ℕ) (a : Option AbstractQueue) (s : QueueState) (q : Option DriverQueue) → QueuePart raw.memory w.devices.con.status w.devices.con.accepted n a s q
      → EachQueue raw.memory w.devices.con.status w.devices.con.accepted 0 (slice_set w.devices.con.queues n a) (slice_set raw.devices.con.queues n s) (slice_set known.con.queues n q)
  queue_located n a s q part =
      let location : n ≡ 0 + n = omega arith in
      each_replaced no_facts no_facts raw.memory raw.memory w.devices.con.status w.devices.con.status w.devices.con.accepted w.devices.con.accepted 0 w.devices.con.queues raw.devices.con.queues known.con.queues n a s q
      (λ k other a s q part. part) (subst (λ (k : ℕ). QueuePart raw.memory w.devices.con.status w.devices.con.accepted k a s q) location part) h.queues
