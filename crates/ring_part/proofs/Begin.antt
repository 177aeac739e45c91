-- A queue is set over zeros.
use Rattle.std.proofs.Common.{◌≡◌, ℕ, ◌+◌, ◌-◌, ◌≤◌, List, [], ◌∷◌, length, Bool, true, false, refl, sym, ◌∙◌, ap, subst, arith, inl, inr}
use Rattle.std.specs.Prelude.{if◌then◌else◌}
use Rattle.std.proofs.lemmas.Bool.{cases_Bool, cond-true, cond-false}
use Rattle.std.proofs.lemmas.List.Elements.{All-nil}
use Rattle.byteorder.specs.Endian.{little_bytes}
use Rattle.guest_mem.specs.Memory.{part as bytes_at, put_at}
use Rattle.vt_types.specs.Access.{AccessValue, Put}
use Rattle.vq_common.specs.declared.chain.RingCfg.{RingCfg}
use Rattle.vt_layout.specs.QueueBlock.{driver_area, device_area}
use Rattle.vq_common.specs.Queue.{new_device_queue, new_driver_queue}
use Rattle.vq_split_drv.proofs.Queues.{IsSplitQueue-new}
use Rattle.vq_split_pair.specs.Pair.{IsInMemory}
use Rattle.vq_split_pair.proofs.PostParts.{size_bounds}
use Rattle.abstract_devices.specs.World.{SignalMode, Always, First}
use Rattle.memory_port.specs.Puts.{Hold}
use Rattle.ring_part.specs.Held.{CanStand, FitsRoom}
use Rattle.ring_part.specs.RingPuts.{event_at, flags_at, asks_put, flag_of, is_first}
use Rattle.ring_part.specs.RingPart.{RingPart}
use Rattle.std.proofs.Common.{replicate}
use Rattle.std.proofs.lemmas.List.{length-replicate}
use Rattle.guest_mem.proofs.Parts.{part-part, part-put_at_same_length}
use Rattle.guest_mem.proofs.Zeros.{part-replicate}
use Rattle.vt_types.specs.Features.{EVENT_IDX}
use Rattle.dev_status.specs.Status.{has_bits}
use Rattle.vt_layout.specs.QueueBlock.{QUEUE_AREAS}
use Rattle.abstract_devices.specs.World.{AbstractDevice}
use Rattle.abstract_devices.specs.Operate.{new_queue}
use Rattle.ring_part.specs.RingPart.{IsCleared}

areas_long : 0xa000 ≤ QUEUE_AREAS
unfolding QUEUE_AREAS
areas_long = omega arith

-- zeros over the areas of a block clear it
pub cleared : (mem : List ℕ) (base : ℕ) → base + QUEUE_AREAS ≤ length mem → IsCleared (put_at mem base (replicate QUEUE_AREAS 0)) base
cleared mem base inside = record { areas = part-put_at_same_length mem base (replicate QUEUE_AREAS 0) QUEUE_AREAS (length-replicate QUEUE_AREAS 0) (omega arith) }

-- two bytes of zeros
zeros_at : (mem : List ℕ) (base size at : ℕ) → bytes_at mem base size ≡ replicate size 0 → base ≤ at → at + 2 ≤ base + size → bytes_at mem at 2 ≡ 0 ∷ 0 ∷ []
zeros_at mem base size at is starts ends =
    let i : ℕ = at - base in
    let location : base + i ≡ at = omega arith in
    ap (λ (a : ℕ). bytes_at mem a 2) (sym location) ∙ sym (part-part mem base size i 2 (omega arith)) ∙ ap (λ (m : List ℕ). bytes_at m i 2) is ∙ part-replicate size i 2 (omega arith)

-- by the accepted features the first used buffer alone is signalled, or each
first_by : (event : Bool) → is_first (if event then First else Always) ≡ event
first_by true = refl
first_by false = refl

flag_by : (event : Bool) → flag_of (if event then First else Always) ≡ 0
flag_by true = refl
flag_by false = refl

-- both records are new ones, and the ring has EVENT_IDX where the device accepted it
pub begins : (mem : List ℕ) (cfg : RingCfg) (base : ℕ) (dev : AbstractDevice) → IsInMemory (length mem) cfg base → has_bits dev.accepted EVENT_IDX ≡ cfg.event_idx → IsCleared mem base
    → RingPart mem (new_queue dev cfg.size) (new_device_queue cfg) (new_driver_queue cfg base) [] [] []
begins mem cfg base dev ring event clear =
    let first : Bool = has_bits dev.accepted EVENT_IDX in
    let mode : SignalMode = if first then First else Always in
    let (some, few) = size_bounds cfg.size ring.size in
    let at : (a : ℕ) → base ≤ a → a + 2 ≤ base + 0xa000 → bytes_at mem a 2 ≡ 0 ∷ 0 ∷ [] = λ a starts ends. zeros_at mem base QUEUE_AREAS a clear.areas starts (omega (arith, areas_long)) in
    let asks : Hold (asks_put cfg base mode 0 ∷ []) mem
    = elim (cases_Bool cfg.event_idx) [
      | inl t ↦ subst (λ (p : AccessValue). Hold (p ∷ []) mem) (sym (cond-true cfg.event_idx _ _ t)) (at (event_at base cfg.size) (omega arith) (omega arith), tt)
      | inr f ↦ subst (λ (p : AccessValue). Hold (p ∷ []) mem) (sym (cond-false cfg.event_idx _ _ f))
          (subst (λ (n : ℕ). Hold (Put (flags_at base) (little_bytes 2 n) ∷ []) mem) (sym (flag_by first)) (at (flags_at base) (omega arith) (omega arith), tt))
    ]
    in
    record {
      same = record { ring = refl; size = refl; mode = first_by first ∙ event };
      block = ring;
      queue = IsSplitQueue-new cfg base ring.size;
      buffers = record { these = refl; each = All-nil (CanStand cfg); fit = All-nil FitsRoom };
      lists = record { available = refl; finished = refl };
      counts = record { to_reap = refl; in_flight = refl; to_take = refl };
      indices = (at (driver_area base + 2) (omega arith) (omega arith), (at (device_area base + 2) (omega arith) (omega arith), asks));
      entries = tt;
      elements = tt;
      puts = tt;
    }
