use Rattle.std.specs.Prelude.{ℕ, Bool, Option, Some, None, if◌then◌else◌}
use Rattle.vt_types.specs.declared.device.Dev.{Dev}
use Rattle.vt_types.specs.declared.reply.Why.{Why}
use Rattle.vt_types.specs.declared.reply.Why.TheVariants as why
use Rattle.vt_types.specs.Operation.{Operation, PostedBuffer, device_of}
use Rattle.vt_types.specs.Program.{Program, and_then}
use Rattle.vt_types.specs.Reply.{ReplyValue}
use Rattle.vt_types.specs.Reply as reply
use Rattle.vq_common.specs.Queue.{DriverQueue, ReapedValue, post_program}
use Rattle.vq_split_drv.specs.Post.{split_post_accesses, split_posted}
use Rattle.vq_split_drv.specs.Reap.{split_reap_program, split_signals_program}
use Rattle.state_table.specs.Refusal.{refusal_of}
use Rattle.by_device.specs.ByDevice.{of}
use Rattle.drv_core.specs.Driver.{DriverRecord, Ended, ends, driver_queue, with_driver_queue, known_of}

-- from what a driver keeps, an operation and a number of repeats to the accesses, on a bus
abbrev pub Lowering : Type 0
Lowering = DriverRecord → Operation → ℕ → Program Ended

-- an operation that is refused makes no access
abbrev pub unless_refused : DriverRecord → Option Why → Program Ended → Program Ended
unless_refused known None program = program
unless_refused known (Some reason) program = ends (reply.Refused reason) known

-- the lowering of every operation, from that of those that are not refused
abbrev pub lowered : Lowering → Lowering
lowered allowed known op repeats = unless_refused known (refusal_of (known_of (of known (device_of op))) op) (allowed known op repeats)

-- what is done with the ring of a queue is the same on every bus; one that isn't set was refused before
abbrev pub on_queue : DriverRecord → Dev → ℕ → (DriverQueue → Program Ended) → Option DriverQueue → Program Ended
on_queue known dev n program None = ends (reply.Refused why.Unset) known
on_queue known dev n program (Some q) = program q

abbrev pub queue_program : DriverRecord → Dev → ℕ → (DriverQueue → Program Ended) → Program Ended
queue_program known dev n program = on_queue known dev n program (driver_queue (of known dev) n)

-- posting a buffer (VIRTIO 1.2, 2.7.13); whether it fits was tested before
abbrev pub post_reply : Bool → ReplyValue
post_reply posted = if posted then reply.Good else reply.Refused why.Full

abbrev pub post_lowering : DriverRecord → Dev → ℕ → PostedBuffer → Program Ended
post_lowering known dev n b =
    queue_program known dev n
    (λ q. and_then (post_program split_post_accesses split_posted q b) (λ p. ends (post_reply p.0) (with_driver_queue known dev n p.1)))

-- reaping the next used buffer (VIRTIO 1.2, 2.7.14)
abbrev pub reap_reply : Option ReapedValue → ReplyValue
reap_reply None = reply.Nothing
reap_reply (Some r) = reply.Used r.tag r.len r.bytes

abbrev pub reap_lowering : DriverRecord → Dev → ℕ → Program Ended
reap_lowering known dev n =
    queue_program known dev n (λ q. and_then (split_reap_program q) (λ p. ends (reap_reply p.0) (with_driver_queue known dev n p.1)))

-- asking for a signal per used buffer, or for none (VIRTIO 1.2, 2.7.7)
abbrev pub signals_lowering : DriverRecord → Dev → ℕ → Bool → Program Ended
signals_lowering known dev n on =
    queue_program known dev n (λ q. and_then (split_signals_program q on) (λ q2. ends reply.Good (with_driver_queue known dev n q2)))
