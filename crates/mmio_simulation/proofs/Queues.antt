-- The parts of the queues: one by its number, and another in its place.
use Rattle.std.proofs.Common.{◌≡◌, ℕ, zero, suc, ◌+◌, ◌≤◌, List, [], ◌∷◌, length, Option, Some, None, refl, sym, ◌∙◌, ap, subst, arith}
use Rattle.std.specs.Prelude.{slice_get, slice_set}
use Rattle.std.specs.Option.{option_flatten}
use Rattle.std.proofs.lemmas.Option.{none-some, same_Some}
use Rattle.guest_mem.specs.Memory.{part as bytes_at}
use Rattle.vt_types.specs.declared.device.Dev.TheVariants.{Con}
use Rattle.vt_types.specs.Device.{BLOCK_LEN, queue_block}
use Rattle.vq_common.specs.Queue.{DriverQueue}
use Rattle.abstract_devices.specs.World.{World, AbstractQueue}
use Rattle.dev_core.specs.Bus.{Raw}
use Rattle.dev_core.specs.Device.{QueueState}
use Rattle.drv_core.specs.Driver.{DriverRecord, driver_queue}
use Rattle.mmio_regs.specs.Page.{MmioRegisters}
use Rattle.ring_part.specs.Held.{UsedHeld}
use Rattle.ring_part.proofs.Frame.{frame}
use Rattle.mmio_simulation.specs.Related.{UsedFacts, SetPartWith, QueuePartWith, EachQueueWith, RelatedWith}
use Rattle.mmio_simulation.proofs.PartChanges.{changed_part}

-- an item that is written where it stands changes nothing
pub slice_set-same : {X : Type 0} → (xs : List X) (n : ℕ) (x : X) → slice_get xs n ≡ Some x → slice_set xs n x ≡ xs
slice_set-same [] n x is = refl
slice_set-same (y ∷ xs) zero x is = ap (λ (z : _). z ∷ xs) (sym (cc))
slice_set-same (y ∷ xs) (suc n) x is = ap (λ (ys : List _). y ∷ ys) (slice_set-same xs n x is)

pub of_flatten : {X : Type 0} (o : Option (Option X)) (x : X) → option_flatten o ≡ Some x → o ≡ Some (Some x)
of_flatten None x is = absurd (none-some x is)
of_flatten (Some None) x is = absurd (none-some x is)
of_flatten (Some (Some y)) x is = ap Some is

-- what the three lists have of a queue: nothing, or its part
pub data Found (F : UsedFacts) (mem : List ℕ) (status accepted n : ℕ) (a : Option (Option AbstractQueue)) (s : Option QueueState) (q : Option (Option DriverQueue)) : Type 0 where
  NoSuchQueue : a ≡ None → s ≡ None → q ≡ None → Found F mem status accepted n a s q
  Queue : (a2 : Option AbstractQueue) (s2 : QueueState) (q2 : Option DriverQueue) → a ≡ Some a2 → s ≡ Some s2 → q ≡ Some q2
      → QueuePartWith (F n) mem status accepted n a2 s2 q2 → Found F mem status accepted n a s q

module _ (F : UsedFacts) (mem : List ℕ) (status accepted : ℕ) where
  -- each queue has its part
  pub each_at : (m : ℕ) (bs : List (Option AbstractQueue)) (ss : List QueueState) (qs : List (Option DriverQueue)) → EachQueueWith F mem status accepted m bs ss qs → (i : ℕ)
      → Found F mem status accepted (m + i) (slice_get bs i) (slice_get ss i) (slice_get qs i)
  each_at m [] [] [] each i = NoSuchQueue refl refl refl
  each_at m [] [] (q ∷ qs) each i = absurd each
  each_at m [] (s ∷ ss) qs each i = absurd each
  each_at m (a ∷ bs) [] qs each i = absurd each
  each_at m (a ∷ bs) (s ∷ ss) [] each i = absurd each
  each_at m (a ∷ bs) (s ∷ ss) (q ∷ qs) (here, others) zero =
      let same : m ≡ m + 0 = omega arith in
      subst (λ (n : ℕ). Found F mem status accepted n (Some a) (Some s) (Some q)) same (Queue a s q refl refl refl here)
  each_at m (a ∷ bs) (s ∷ ss) (q ∷ qs) (here, others) (suc i) =
      let same : m + 1 + i ≡ m + suc i = omega arith in
      subst (λ (n : ℕ). Found F mem status accepted n (slice_get bs i) (slice_get ss i) (slice_get qs i)) same (each_at (m + 1) bs ss qs others i)

-- parts that are changed, each by its number
module _ (F G : UsedFacts) (mem mem2 : List ℕ) (status status2 accepted accepted2 : ℕ) where
  abbrev pub Changes : ℕ → Type 0
  Changes n = (a : Option AbstractQueue) (s : QueueState) (q : Option DriverQueue) → QueuePartWith (F n) mem status accepted n a s q → QueuePartWith (G n) mem2 status2 accepted2 n a s q

  pub each_changed : (m : ℕ) (bs : List (Option AbstractQueue)) (ss : List QueueState) (qs : List (Option DriverQueue)) → ((n : ℕ) → m ≤ n → Changes n)
      → EachQueueWith F mem status accepted m bs ss qs → EachQueueWith G mem2 status2 accepted2 m bs ss qs
  each_changed m [] [] [] changes each = tt
  each_changed m [] [] (q ∷ qs) changes each = absurd each
  each_changed m [] (s ∷ ss) qs changes each = absurd each
  each_changed m (a ∷ bs) [] qs changes each = absurd each
  each_changed m (a ∷ bs) (s ∷ ss) [] changes each = absurd each
  each_changed m (a ∷ bs) (s ∷ ss) (q ∷ qs) changes (here, others) =
      (changes m (omega arith) a s q here, each_changed (m + 1) bs ss qs (λ n above. changes n (omega arith)) others)

  -- a queue has another part, and those of other numbers are changed
  pub each_replaced : (m : ℕ) (bs : List (Option AbstractQueue)) (ss : List QueueState) (qs : List (Option DriverQueue)) (i : ℕ) (a : Option AbstractQueue) (s : QueueState) (q : Option DriverQueue)
      → ((n : ℕ) → (n ≡ m + i → ⊥) → Changes n) → QueuePartWith (G (m + i)) mem2 status2 accepted2 (m + i) a s q
      → EachQueueWith F mem status accepted m bs ss qs → EachQueueWith G mem2 status2 accepted2 m (slice_set bs i a) (slice_set ss i s) (slice_set qs i q)
  each_replaced m [] [] [] i a s q changes new each = tt
  each_replaced m [] [] (q0 ∷ qs) i a s q changes new each = absurd each
  each_replaced m [] (s0 ∷ ss) qs i a s q changes new each = absurd each
  each_replaced m (a0 ∷ bs) [] qs i a s q changes new each = absurd each
  each_replaced m (a0 ∷ bs) (s0 ∷ ss) [] i a s q changes new each = absurd each
  each_replaced m (a0 ∷ bs) (s0 ∷ ss) (q0 ∷ qs) zero a s q changes new (here, others) =
      let same : m + 0 ≡ m = omega arith in (
        subst (λ (n : ℕ). QueuePartWith (G n) mem2 status2 accepted2 n a s q) same new,
        each_changed (m + 1) bs ss qs (λ n above. changes n (λ e. absurd (omega arith))) others,
      )
  each_replaced m (a0 ∷ bs) (s0 ∷ ss) (q0 ∷ qs) (suc i) a s q changes new (here, others) =
      let same : m + suc i ≡ m + 1 + i = omega arith in (
        changes m (λ e. absurd (omega arith)) a0 s0 q0 here,
        each_replaced (m + 1) bs ss qs i a s q (λ n other. changes n (λ e. other (omega arith))) (subst (λ (n : ℕ). QueuePartWith (G n) mem2 status2 accepted2 n a s q) same new) others,
      )

-- a part depends on the bytes of its queue's block alone
pub queue_framed : (P : List UsedHeld → Type 0) (mem mem2 : List ℕ) (status accepted n : ℕ) → length mem2 ≡ length mem → bytes_at mem2 (queue_block Con n) BLOCK_LEN ≡ bytes_at mem (queue_block Con n) BLOCK_LEN
    → (a : Option AbstractQueue) (s : QueueState) (q : Option DriverQueue) → QueuePartWith P mem status accepted n a s q → QueuePartWith P mem2 status accepted n a s q
queue_framed P mem mem2 status accepted n long same None s None p = p
queue_framed P mem mem2 status accepted n long same None s (Some q) p = absurd p
queue_framed P mem mem2 status accepted n long same (Some a) s None p = absurd p
queue_framed P mem mem2 status accepted n long same (Some a) s (Some q) p =
    changed_part P P mem mem2 status accepted n a a s q q p refl refl refl
    (record {
      used = p.rests.used;
      waiting = p.rests.waiting;
      part = frame p.rests.part mem2 long (subst (λ (b : ℕ). bytes_at mem2 b BLOCK_LEN ≡ bytes_at mem b BLOCK_LEN) (sym p.block) same);
      known = p.rests.known;
    })

-- a queue that is set, in the two halves and in the driver's record
pub record IsSetAt (F : UsedFacts) (w : World) (raw : Raw MmioRegisters) (known : DriverRecord) (n : ℕ) (a : AbstractQueue) (s : QueueState) (q : DriverQueue) : Type 0 where
  pub in_world : slice_get w.devices.con.queues n ≡ Some (Some a)
  pub in_raw : slice_get raw.devices.con.queues n ≡ Some s
  pub in_record : slice_get known.con.queues n ≡ Some (Some q)
  pub here : SetPartWith (F n) raw.memory w.devices.con.status w.devices.con.accepted n a s q

-- a queue of the driver's record that is set is set in both halves
pub record SetIn (F : UsedFacts) (w : World) (raw : Raw MmioRegisters) (known : DriverRecord) (n : ℕ) (q : DriverQueue) : Type 0 where
  pub a : AbstractQueue
  pub s : QueueState
  pub at : IsSetAt F w raw known n a s q

module _ {F : UsedFacts} {w : World} {raw : Raw MmioRegisters} {known : DriverRecord} (r : RelatedWith F w raw known) where
  pub found_in : (n : ℕ) → Found F raw.memory w.devices.con.status w.devices.con.accepted n (slice_get w.devices.con.queues n) (slice_get raw.devices.con.queues n) (slice_get known.con.queues n)
  found_in n =
      let same : 0 + n ≡ n = omega arith in
      subst (λ (k : ℕ). Found F raw.memory w.devices.con.status w.devices.con.accepted k (slice_get w.devices.con.queues n) (slice_get raw.devices.con.queues n) (slice_get known.con.queues n)) same
      (each_at F raw.memory w.devices.con.status w.devices.con.accepted 0 w.devices.con.queues raw.devices.con.queues known.con.queues r.queues n)

  set_part : (n : ℕ) (q : DriverQueue) (a : Option AbstractQueue) (s : QueueState) (p : Option DriverQueue) → slice_get known.con.queues n ≡ Some (Some q)
      → slice_get w.devices.con.queues n ≡ Some a → slice_get raw.devices.con.queues n ≡ Some s → p ≡ Some q
      → QueuePartWith (F n) raw.memory w.devices.con.status w.devices.con.accepted n a s p → SetIn F w raw known n q
  set_part n q (Some a) s (Some p) found in_world in_raw is part =
      record {
        a = a;
        s = s;
        at = record { in_world = in_world; in_raw = in_raw; in_record = found; here = subst (λ (p : DriverQueue). SetPartWith (F n) raw.memory w.devices.con.status w.devices.con.accepted n a s p) (same_Some p q is) part };
      }
  set_part n q None s None found in_world in_raw is part = absurd (none-some q is)
  set_part n q None s (Some p) found in_world in_raw is part = absurd part
  set_part n q (Some a) s None found in_world in_raw is part = absurd part

  found_set : (n : ℕ) (q : DriverQueue) → slice_get known.con.queues n ≡ Some (Some q)
      → Found F raw.memory w.devices.con.status w.devices.con.accepted n (slice_get w.devices.con.queues n) (slice_get raw.devices.con.queues n) (slice_get known.con.queues n) → SetIn F w raw known n q
  found_set n q found (NoSuchQueue in_world in_raw in_record) = absurd (none-some (Some q) (sym in_record ∙ found))
  found_set n q found (Queue a s p in_world in_raw in_record part) = set_part n q a s p found in_world in_raw (same_Some p (Some q) (sym in_record ∙ found)) part

  pub set_in : (n : ℕ) (q : DriverQueue) → driver_queue known.con n ≡ Some q → SetIn F w raw known n q
  set_in n q set = found_set n q (of_flatten (slice_get known.con.queues n) q set) (found_in n)
