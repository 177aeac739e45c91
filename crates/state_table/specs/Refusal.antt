use Rattle.std.specs.Prelude.{ℕ, ◌+◌, ◌==◌, ◌&&◌, ◌||◌, not, nat_le, nat_lt, List, [], ◌∷◌, ◌++◌, length, sum, Bool, true, false, Option, Some, None, is_some, if◌then◌else◌}
use Rattle.vt_types.specs.declared.operation.Field.{Field}
use Rattle.vt_types.specs.declared.operation.Field.TheVariants.{Capacity, SegMax, BlkSize, Writeback, Mac, NetStatus, Cols, Rows, Ports, Emerg}
use Rattle.vt_types.specs.declared.operation.Step.{Step}
use Rattle.vt_types.specs.declared.operation.Step.TheVariants as step
use Rattle.vt_types.specs.declared.reply.Why.{Why}
use Rattle.vt_types.specs.declared.reply.Why.TheVariants as why
use Rattle.vt_types.specs.Features.{INDIRECT_DESC, EVENT_IDX, BLK_CONFIG_WCE}
use Rattle.vt_types.specs.Limits.{LONGEST_BUFFER}
use Rattle.vt_types.specs.Operation.{Operation, PostedBuffer, Probe, Reset, Features, GetStatus, Accept, SetStatus, SetQueue, Post, Notify, Reap, Arm, Disarm, ReadConfig, WriteConfig, IrqQueues, IrqConfig}
use Rattle.vt_types.specs.Status.{FEATURES_OK, status_of_step}
use Rattle.vq_common.specs.Queue.{is_queue_size, slots_of}
use Rattle.dev_status.specs.Status.{has_bits}
use Rattle.state_table.specs.Known.{Known, KnownQueue, known_queue}

-- the reason of the first test that holds; None where none does
abbrev pub first_of : List (Bool × Why) → Option Why
first_of [] = None
first_of ((holds, reason) ∷ others) = if holds then Some reason else first_of others

-- the status of each step of the bring-up (VIRTIO 1.2, 3.1.1)
abbrev pub DRIVEN : ℕ
DRIVEN = status_of_step step.Driver

abbrev pub AGREED : ℕ
AGREED = status_of_step step.FeatOk

abbrev pub RUNNING : ℕ
RUNNING = status_of_step step.DrvOk

-- the status that a step starts from: each step follows the one before it
abbrev pub status_before : Step → ℕ
status_before step.Ack = 0
status_before step.Driver = status_of_step step.Ack
status_before step.FeatOk = DRIVEN
status_before step.DrvOk = AGREED

-- the features are agreed on, and the device may run already
abbrev pub is_agreed : Known → Bool
is_agreed k = k.status == AGREED || k.status == RUNNING

-- the device has no queue of this number
abbrev pub lacks_queue : Known → ℕ → Bool
lacks_queue k n = nat_le (length k.queues) n

-- a queue is set
abbrev pub is_queue_set : Known → ℕ → Bool
is_queue_set k n = is_some (known_queue k n)

-- a buffer that was not reaped has this tag
abbrev pub has_tag : ℕ → List ℕ → Bool
has_tag tag [] = false
has_tag tag (t ∷ tags) = t == tag || has_tag tag tags

abbrev pub is_tag_used : Option KnownQueue → PostedBuffer → Bool
is_tag_used None b = false
is_tag_used (Some q) b = has_tag b.tag q.tags

-- the buffer's slots and those in use exceed the size
abbrev pub is_full : Option KnownQueue → PostedBuffer → Bool
is_full None b = false
is_full (Some q) b = nat_lt q.size (q.slots + slots_of b)

-- a buffer is too long, or its table would have more descriptors than the queue
abbrev pub is_too_large : Option KnownQueue → PostedBuffer → Bool
is_too_large None b = false
is_too_large (Some q) b = nat_lt LONGEST_BUFFER (sum b.lengths) || (b.indirect && nat_lt q.size (length b.lengths))

-- the greatest value of a field that is written
abbrev pub greatest_value : Field → ℕ
greatest_value Writeback = 1
greatest_value Emerg = 255
greatest_value Capacity = 0
greatest_value SegMax = 0
greatest_value BlkSize = 0
greatest_value Mac = 0
greatest_value NetStatus = 0
greatest_value Cols = 0
greatest_value Rows = 0
greatest_value Ports = 0

-- a field that can be written now: writeback only where CONFIG_WCE was accepted and FEATURES_OK stands (VIRTIO 1.2, 5.2.5)
abbrev pub is_writable : Known → Field → Bool
is_writable k Writeback = has_bits k.accepted BLK_CONFIG_WCE && has_bits k.status FEATURES_OK
is_writable k Emerg = true
is_writable k Capacity = false
is_writable k SegMax = false
is_writable k BlkSize = false
is_writable k Mac = false
is_writable k NetStatus = false
is_writable k Cols = false
is_writable k Rows = false
is_writable k Ports = false

-- the tests of an operation on a queue that is set, by the state that it wants
abbrev pub queue_tests : Known → ℕ → Bool → List (Bool × Why)
queue_tests k n ready = (not ready, why.State) ∷ (lacks_queue k n, why.Queue) ∷ (not (is_queue_set k n), why.Unset) ∷ []

-- those of a buffer that is posted, beside them
abbrev pub buffer_tests : Known → Option KnownQueue → PostedBuffer → List (Bool × Why)
buffer_tests k q b =
    (is_tag_used q b, why.Tag)
    ∷ (is_full q b, why.Full)
    ∷ (is_too_large q b, why.Range)
    ∷ (b.indirect && not (has_bits k.accepted INDIRECT_DESC), why.Mode)
    ∷ []

-- that of arming and disarming: with EVENT_IDX signals are asked for by an index (VIRTIO 1.2, 2.7.7)
abbrev pub mode_tests : Known → List (Bool × Why)
mode_tests k = (has_bits k.accepted EVENT_IDX, why.Mode) ∷ []

-- the first reason for which an operation is refused, in the order state, queue, size, set, unset, tag, full, range, mode
-- (our own)
abbrev pub refusal_of : Known → Operation → Option Why
refusal_of k (Probe dev) = first_of ((k.probed, why.State) ∷ [])
refusal_of k (Reset dev) = first_of ((not k.probed, why.State) ∷ [])
refusal_of k (Features dev) = first_of ((not k.reset_since, why.State) ∷ [])
refusal_of k (GetStatus dev) = first_of ((not k.reset_since, why.State) ∷ [])
refusal_of k (Accept dev features) = first_of ((not (k.status == DRIVEN), why.State) ∷ [])
refusal_of k (SetStatus dev s) = first_of ((not (k.reset_since && k.status == status_before s), why.State) ∷ [])
refusal_of k (SetQueue dev n size) =
    first_of (
    (not (k.status == AGREED), why.State)
    ∷ (lacks_queue k n, why.Queue)
    ∷ (not (is_queue_size size), why.Size)
    ∷ (is_queue_set k n, why.Set)
    ∷ []
    )
refusal_of k (Post dev n b) = first_of (queue_tests k n (is_agreed k) ++ buffer_tests k (known_queue k n) b)
refusal_of k (Notify dev n) = first_of (queue_tests k n (k.status == RUNNING))
refusal_of k (Reap dev n) = first_of (queue_tests k n (is_agreed k))
refusal_of k (Arm dev n) = first_of (queue_tests k n (is_agreed k) ++ mode_tests k)
refusal_of k (Disarm dev n) = first_of (queue_tests k n (is_agreed k) ++ mode_tests k)
refusal_of k (ReadConfig dev field) = first_of ((not k.reset_since, why.State) ∷ [])
refusal_of k (WriteConfig dev field value) =
    first_of (
    (not k.reset_since, why.State)
    ∷ (nat_lt (greatest_value field) value, why.Range)
    ∷ (not (is_writable k field), why.Mode)
    ∷ []
    )
refusal_of k (IrqQueues dev) = first_of ((not k.reset_since, why.State) ∷ [])
refusal_of k (IrqConfig dev) = first_of ((not k.reset_since, why.State) ∷ [])
