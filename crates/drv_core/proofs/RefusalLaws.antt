-- What the state table reads of a driver's record, and what follows where it refuses nothing.
use Rattle.std.proofs.Common.{◌≡◌, ℕ, ◌+◌, ◌-◌, ◌<◌, ◌≤◌, List, [], ◌∷◌, ◌++◌, Bool, true, false, not, Option, Some, None, IsTrue, length, map, refl, sym, ◌∙◌, ap, arith}
use Rattle.std.specs.Prelude.{◌==◌, ◌||◌, nat_le, nat_lt, slice_get}
use lib.ListN.{length-map}
use Rattle.std.specs.Option.{option_flatten, option_map}
use Rattle.std.proofs.lemmas.Bool.Decides.{nat_tests}
use Rattle.std.proofs.lemmas.Option.{slice_get-map}
use Rattle.vt_types.specs.declared.reply.Why.{Why}
use Rattle.vt_types.specs.declared.reply.Why.TheVariants as why
use Rattle.vt_types.specs.Operation.{PostedBuffer}
use Rattle.vt_types.specs.Within.{IsBufferWithin}
use Rattle.vq_common.specs.Buffer.{IsPostable}
use Rattle.vq_common.specs.Queue.{DriverQueue, Unreaped, holds_tag, is_queue_size}
use Rattle.state_table.specs.Known.{known_queue}
use Rattle.state_table.specs.Refusal.{buffer_tests, first_of, has_tag, is_agreed, is_tag_used, is_too_large, lacks_queue, queue_tests}
use Rattle.drv_core.specs.Calls.{MayPost}
use Rattle.drv_core.specs.Driver.{DeviceRecord, known_of, queue_known}

-- a tag of an unreaped buffer is one of their tags
pub has_tag-holds_tag : (tag : ℕ) (us : List Unreaped) → has_tag tag (map (λ (u : Unreaped). u.tag) us) ≡ holds_tag tag us
has_tag-holds_tag tag [] = refl
has_tag-holds_tag tag (u ∷ us) = ap (λ (b : Bool). u.tag == tag || b) (has_tag-holds_tag tag us)

-- slots exceed the free ones where, with those in use, they exceed the size
pub exceed : (size used slots : ℕ) → used ≤ size → nat_lt (size - used) slots ≡ nat_lt size (used + slots)
exceed size used slots h = grind (arith, nat_tests)

-- what is known of a queue is known of the driver's record of it
pub known_queue_at : (d : DeviceRecord) (n : ℕ) (o : Option DriverQueue) → slice_get d.queues n ≡ Some o → known_queue (known_of d) n ≡ option_map queue_known o
known_queue_at d n o at = ap option_flatten (slice_get-map (option_map queue_known) d.queues n ∙ ap (option_map (option_map queue_known)) at)

pub known_queue_past : (d : DeviceRecord) (n : ℕ) → slice_get d.queues n ≡ None → known_queue (known_of d) n ≡ None
known_queue_past d n at = ap option_flatten (slice_get-map (option_map queue_known) d.queues n ∙ ap (option_map (option_map queue_known)) at)

-- what is not so turned round is so
not_false : (b : Bool) → not b ≡ false → b ≡ true
not_false true h = refl
not_false false h = cc

-- no test holds
abbrev pub NoneHolds : List (Bool × Why) → Type 0
NoneHolds [] = Unit {0}
NoneHolds (t ∷ ts) = (t.0 ≡ false) × NoneHolds ts

pub none_holds : (tests : List (Bool × Why)) → first_of tests ≡ None → NoneHolds tests
none_holds [] h = tt
none_holds ((true, reason) ∷ others) h = cc
none_holds ((false, reason) ∷ others) h = (refl, none_holds others h)

-- a queue that the device does not lack is one of its queues
not_lacked : (d : DeviceRecord) (n : ℕ) → lacks_queue (known_of d) n ≡ false → n < length d.queues
not_lacked d n lacks =
    let same : length (map (option_map queue_known) d.queues) ≡ length d.queues = length-map d.queues (option_map queue_known) in
    let test : nat_le (length d.queues) n ≡ false = ap (λ (count : ℕ). nat_le count n) (sym same) ∙ lacks in
    grind (arith, nat_tests)

-- an operation on a queue that is not refused names a queue of the device
pub is_below : (d : DeviceRecord) (n : ℕ) (ready : Bool) (others : List (Bool × Why)) → first_of (queue_tests (known_of d) n ready ++ others) ≡ None → n < length d.queues
is_below d n ready others h =
    let held : NoneHolds (queue_tests (known_of d) n ready ++ others) = none_holds (queue_tests (known_of d) n ready ++ others) h in
    not_lacked d n held.1.0

-- a queue whose setting up is not refused is one of the device's, and may have the size
pub may_set : (d : DeviceRecord) (n size : ℕ) (agreed set : Bool) → first_of ((not agreed, why.State) ∷ (lacks_queue (known_of d) n, why.Queue) ∷ (not (is_queue_size size), why.Size) ∷ (set, why.Set) ∷ []) ≡ None
    → (n < length d.queues) × (is_queue_size size ≡ true)
may_set d n size agreed set h =
    let held : NoneHolds ((not agreed, why.State) ∷ (lacks_queue (known_of d) n, why.Queue) ∷ (not (is_queue_size size), why.Size) ∷ (set, why.Set) ∷ [])
    = none_holds ((not agreed, why.State) ∷ (lacks_queue (known_of d) n, why.Queue) ∷ (not (is_queue_size size), why.Size) ∷ (set, why.Set) ∷ []) h
    in
    (not_lacked d n held.1.0, not_false (is_queue_size size) held.1.1.0)

-- a buffer that is not refused has a tag of its own, and is not too large
pub fits : (d : DeviceRecord) (n : ℕ) (b : PostedBuffer) (o : Option DriverQueue) → MayPost d n b → slice_get d.queues n ≡ Some o
    → (is_tag_used (option_map queue_known o) b ≡ false) × (is_too_large (option_map queue_known o) b ≡ false)
fits d n b o h at =
    let tests : List (Bool × Why) = queue_tests (known_of d) n (is_agreed (known_of d)) ++ buffer_tests (known_of d) (known_queue (known_of d) n) b in
    let held : NoneHolds tests = none_holds tests h in
    let tag : is_tag_used (known_queue (known_of d) n) b ≡ false = held.1.1.1.0 in
    let range : is_too_large (known_queue (known_of d) n) b ≡ false = held.1.1.1.1.1.0 in
    (ap (λ k. is_tag_used k b) (sym (known_queue_at d n o at)) ∙ tag, ap (λ k. is_too_large k b) (sym (known_queue_at d n o at)) ∙ range)

-- such a buffer may be posted to the queue
pub postable : (q : DriverQueue) (b : PostedBuffer) → IsBufferWithin b → is_too_large (Some (queue_known q)) b ≡ false → IsPostable b
postable q b h small =
    record { some = h.some; few = h.few; each = h.each; total = grind (arith, nat_tests); split = h.split; readable = h.readable }

-- and its table has no more descriptors than the queue
pub table_fits : (q : DriverQueue) (b : PostedBuffer) → is_too_large (Some (queue_known q)) b ≡ false → IsTrue b.indirect → length b.lengths ≤ q.cfg.size
table_fits q b small indirect = grind (arith, nat_tests)
