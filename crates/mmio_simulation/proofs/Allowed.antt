-- What an operation on a queue that is not refused says: the driver has the queue set, and what is posted fits.
use Rattle.std.proofs.Common.{◌≡◌, ℕ, zero, suc, ◌+◌, ◌≤◌, List, [], ◌∷◌, ◌++◌, map, length, Bool, true, false, Option, Some, None, IsTrue, refl, sym, ◌∙◌, ap, subst, arith}
use Rattle.std.specs.Prelude.{◌&&◌, not, nat_lt, sum, slice_get, is_some}
use Rattle.std.specs.Option.{option_flatten, option_map}
use Rattle.std.proofs.lemmas.Bool.{false≢true, or_parts, ltb-false, not-false}
use Rattle.dev_status.specs.Status.{has_bits}
use Rattle.vt_types.specs.declared.device.Dev.TheVariants.{Con}
use Rattle.vt_types.specs.Features.{EVENT_IDX, INDIRECT_DESC}
use Rattle.vt_types.specs.Operation.{PostedBuffer, Post, Reap}
use Rattle.vt_types.specs.Within.{IsBufferWithin}
use Rattle.vq_common.specs.Buffer.{IsPostable}
use Rattle.vq_common.specs.Queue.{DriverQueue, free_slots, holds_tag, slots_of, slots_of_all}
use Rattle.state_table.specs.Known.{Known, KnownQueue, known_queue}
use Rattle.state_table.specs.Refusal.{first_of, is_agreed, queue_tests, buffer_tests, mode_tests}
use Rattle.drv_core.specs.Driver.{DriverRecord, DeviceRecord, driver_queue, known_of, queue_known}
use Rattle.interleaving.proofs.RefusalRules.{refusal_by}
use Rattle.ring_part.proofs.Agreement.{has_tag-unreaped}
use Rattle.mmio_simulation.proofs.NoneHolds.{NoneHolds, none_holds}

-- the state table's view of a queue
known_queue_is : (qs : List (Option DriverQueue)) (n : ℕ) → option_flatten (slice_get (map (option_map queue_known) qs) n) ≡ option_map queue_known (option_flatten (slice_get qs n))
known_queue_is [] n = refl
known_queue_is (q ∷ qs) zero = refl
known_queue_is (q ∷ qs) (suc n) = known_queue_is qs n

-- a queue that is set
pub record IsSet (d : DeviceRecord) (n : ℕ) : Type 0 where
  pub q : DriverQueue
  pub found : driver_queue d n ≡ Some q

some_of : (d : DeviceRecord) (n : ℕ) (o : Option DriverQueue) → driver_queue d n ≡ o → not (is_some (option_map queue_known o)) ≡ false → IsSet d n
some_of d n None is set = absurd (false≢true (sym set))
some_of d n (Some q) is set = record { q = q; found = is }

pub is_set : (d : DeviceRecord) (n : ℕ) → not (is_some (known_queue (known_of d) n)) ≡ false → IsSet d n
is_set d n set = some_of d n (driver_queue d n) refl (ap (λ o. not (is_some o)) (sym (known_queue_is d.queues n)) ∙ set)

-- what is posted has a tag of its own, fits, and is a table only where tables were accepted
pub record Fits (d : DeviceRecord) (q : DriverQueue) (b : PostedBuffer) : Type 0 where
  pub tag : holds_tag b.tag q.unreaped ≡ false
  pub slots : slots_of b ≤ free_slots q
  pub total : sum b.lengths ≤ 8192
  pub table : IsTrue b.indirect → length b.lengths ≤ q.cfg.size
  pub feature : IsTrue b.indirect → has_bits d.accepted INDIRECT_DESC ≡ true

fits_of : (d : DeviceRecord) (q : DriverQueue) (b : PostedBuffer) → NoneHolds (buffer_tests (known_of d) (Some (queue_known q)) b) → Fits d q b
fits_of d q b (tag, (full, (range, (mode, end)))) =
    let few : slots_of_all q.unreaped + slots_of b ≤ q.cfg.size = ltb-false q.cfg.size (slots_of_all q.unreaped + slots_of b) full in
    let (long, many) = or_parts (nat_lt 8192 (sum b.lengths)) (b.indirect && nat_lt q.cfg.size (length b.lengths)) range in
    record {
      tag = sym (has_tag-unreaped b.tag q.unreaped) ∙ tag;
      slots = omega (arith, few);
      total = ltb-false 8192 (sum b.lengths) long;
      table = λ t. ltb-false q.cfg.size (length b.lengths) (ap (λ (i : Bool). i && nat_lt q.cfg.size (length b.lengths)) (sym t) ∙ many);
      feature = λ t. not-false (has_bits d.accepted INDIRECT_DESC) (ap (λ (i : Bool). i && not (has_bits d.accepted INDIRECT_DESC)) (sym t) ∙ mode);
    }

pub postable : (b : PostedBuffer) → IsBufferWithin b → sum b.lengths ≤ 8192 → IsPostable b
postable b within total = record { some = within.some; few = within.few; each = within.each; total = total; split = within.split; readable = within.readable }

module _ (known : DriverRecord) (n : ℕ) where
  abbrev view : Known
  view = known_of known.con

  pub reap_allowed : refusal_by known (Reap Con n) ≡ None → IsSet known.con n
  reap_allowed allowed = let (ready, (has, (set, end))) = none_holds (queue_tests view n (is_agreed view)) allowed in is_set known.con n set

  -- a post
  pub post_set : (b : PostedBuffer) → refusal_by known (Post Con n b) ≡ None → IsSet known.con n
  post_set b allowed =
      let (ready, (has, (set, others))) = none_holds (queue_tests view n (is_agreed view) ++ buffer_tests view (known_queue view n) b) allowed in is_set known.con n set

  pub post_fits : (b : PostedBuffer) (q : DriverQueue) → driver_queue known.con n ≡ Some q → refusal_by known (Post Con n b) ≡ None → Fits known.con q b
  post_fits b q found allowed =
      let (ready, (has, (set, others))) = none_holds (queue_tests view n (is_agreed view) ++ buffer_tests view (known_queue view n) b) allowed in
      let is : known_queue view n ≡ Some (queue_known q) = known_queue_is known.con.queues n ∙ ap (option_map queue_known) found in
      fits_of known.con q b (subst (λ (o : Option KnownQueue). NoneHolds (buffer_tests view o b)) is others)

  -- arming and disarming
  pub signals_allowed : first_of (queue_tests view n (is_agreed view) ++ mode_tests view) ≡ None → IsSet known.con n × (has_bits known.con.accepted EVENT_IDX ≡ false)
  signals_allowed allowed =
      let (ready, (has, (set, (off, end)))) = none_holds (queue_tests view n (is_agreed view) ++ mode_tests view) allowed in (is_set known.con n set, off)
