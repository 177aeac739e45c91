use Rattle.std.specs.Prelude.{◌≡◌, ℕ, ◌<◌, List, ◌++◌, length, Bool, IfSome, Option, Some, None, slice_get, slice_set}
use Rattle.vt_types.specs.declared.access.Answer.{Answer}
use Rattle.vt_types.specs.declared.device.Dev.{Dev}
use Rattle.vt_types.specs.declared.device.Dev.TheVariants.{Blk, Net, Con}
use Rattle.vt_types.specs.Access.{AccessValue}
use Rattle.vt_types.specs.Device.{GREATEST_QUEUE, queue_count}
use Rattle.vt_types.specs.Operation.{PostedBuffer}
use Rattle.vt_types.specs.Program.{Program, Gives, and_then}
use Rattle.vt_types.specs.Reply.{ReplyValue, Good}
use Rattle.vq_common.specs.Queue.{DriverQueue, post_program}
use Rattle.vq_split_drv.specs.Post.{split_post_accesses, split_posted}
use Rattle.vq_split_drv.specs.Reap.{split_reap_program, split_signals_program}
use Rattle.state_table.specs.Known.{known_queue}
use Rattle.state_table.specs.Refusal.{first_of, is_agreed, queue_tests, buffer_tests, mode_tests}
use Rattle.by_device.specs.ByDevice.{of, with}
use Rattle.drv_core.specs.Driver.{DeviceRecord, DriverRecord, Ended, ends, known_of, with_driver_queue}
use Rattle.drv_core.specs.Lowering.{post_reply, queue_program, reap_reply}

-- what a call of a part of the driver claims: of its queue, and then of its device

-- what is done with the ring of a queue that is set, by the queue
abbrev pub QueueProgram : Type 0
QueueProgram = DriverRecord → Dev → ℕ → DriverQueue → Program Ended

abbrev pub post_to : PostedBuffer → QueueProgram
post_to b known dev n q =
    and_then (post_program split_post_accesses split_posted q b) (λ p. ends (post_reply p.0) (with_driver_queue known dev n p.1))

abbrev pub reap_from : QueueProgram
reap_from known dev n q = and_then (split_reap_program q) (λ p. ends (reap_reply p.0) (with_driver_queue known dev n p.1))

abbrev pub set_signals_of : Bool → QueueProgram
set_signals_of on known dev n q = and_then (split_signals_program q on) (λ q2. ends Good (with_driver_queue known dev n q2))

-- an operation on a queue is not refused, whichever device it is on
abbrev pub MayPost : DeviceRecord → ℕ → PostedBuffer → Type 0
MayPost d n b =
    let k = known_of d in first_of (queue_tests k n (is_agreed k) ++ buffer_tests k (known_queue k n) b) ≡ None

abbrev pub MayReap : DeviceRecord → ℕ → Type 0
MayReap d n = let k = known_of d in first_of (queue_tests k n (is_agreed k)) ≡ None

abbrev pub MaySetSignals : DeviceRecord → ℕ → Type 0
MaySetSignals d n = let k = known_of d in first_of (queue_tests k n (is_agreed k) ++ mode_tests k) ≡ None

-- the record of a device with another queue, which may not be set
abbrev pub with_queue : DeviceRecord → ℕ → Option DriverQueue → DeviceRecord
with_queue d n o = record d { queues = slice_set d.queues n o }

-- the record of a queue, where it is set
abbrev pub queue_if : Option ℕ → DriverQueue → Option DriverQueue
queue_if None q = None
queue_if (Some size) q = Some q

-- what is known of the end of a queue: it may have GREATEST_QUEUE descriptors, and where the queue is set it has this size
pub record IsEnd (held : Option ℕ) (q : DriverQueue) (most : ℕ) : Type 0 where
  pub greatest : most ≡ GREATEST_QUEUE
  pub size : IfSome held (λ n. (q.cfg.size ≡ n) × (0 < n))

-- each device has its queues
pub record HasQueues (blk net con : DeviceRecord) : Type 0 where
  pub blk_queues : length blk.queues ≡ queue_count Blk
  pub net_queues : length net.queues ≡ queue_count Net
  pub con_queues : length con.queues ≡ queue_count Con

-- a program on a queue that is set gives this reply and leaves this record of the queue, whatever else is known
pub record GivesOnSet {P : Type 0} (step : P → AccessValue → Answer → List ℕ → List ℕ → P → Type 0) (marking : P → P → Type 0) (program : QueueProgram) (q : DriverQueue) (p : P) (r : ReplyValue) (q2 : DriverQueue) (p2 : P) : Type 0 where
  pub gives : (known : DriverRecord) (dev : Dev) (n : ℕ) → Gives step marking (program known dev n q) p (record { reply = r; known = with_driver_queue known dev n q2 }) p2

-- the same of a queue that may not be set
pub record GivesOnQueue {P : Type 0} (step : P → AccessValue → Answer → List ℕ → List ℕ → P → Type 0) (marking : P → P → Type 0) (program : QueueProgram) (old : Option DriverQueue) (p : P) (r : ReplyValue) (new : Option DriverQueue) (p2 : P) : Type 0 where
  pub gives : (known : DriverRecord) (dev : Dev) (n : ℕ) → slice_get (of known dev).queues n ≡ Some old
      → Gives step marking (queue_program known dev n (program known dev n)) p (record { reply = r; known = with known dev (with_queue (of known dev) n new) }) p2

-- a program on a device gives this reply and leaves this record of the device, whatever else is known
pub record GivesOnDevice {P : Type 0} (step : P → AccessValue → Answer → List ℕ → List ℕ → P → Type 0) (marking : P → P → Type 0) (program : DriverRecord → Dev → Program Ended) (old : DeviceRecord) (p : P) (r : ReplyValue) (new : DeviceRecord) (p2 : P) : Type 0 where
  pub gives : (known : DriverRecord) (dev : Dev) → of known dev ≡ old → Gives step marking (program known dev) p (record { reply = r; known = with known dev new }) p2
