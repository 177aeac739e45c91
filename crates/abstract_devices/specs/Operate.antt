use Rattle.std.specs.Prelude.{ℕ, ◌||◌, List, [], ◌∷◌, ◌++◌, take, drop, length, sum, replicate, true, false, Option, Some, None, if◌then◌else◌}
use Rattle.byteorder.specs.Endian.{little_bytes}
use Rattle.vt_types.specs.Device.{CONSOLE_PORTS, device_id, queue_count}
use Rattle.vt_types.specs.declared.device.Dev.{Dev}
use Rattle.vt_types.specs.declared.device.Dev.TheVariants.{Con}
use Rattle.vt_types.specs.declared.device.BusKind.{BusKind}
use Rattle.vt_types.specs.declared.device.BusKind.TheVariants.{Mmio, PciIntx, PciMsix, CcwClassic, CcwAdapter}
use Rattle.vt_types.specs.declared.operation.Event.{Event}
use Rattle.vt_types.specs.declared.operation.Event.TheVariants as event
use Rattle.vt_types.specs.declared.operation.EventAt.{EventAt}
use Rattle.vt_types.specs.declared.operation.Field.{Field}
use Rattle.vt_types.specs.declared.operation.Field.TheVariants.{Capacity, SegMax, BlkSize, Writeback, Mac, NetStatus, Cols, Rows, Ports, Emerg}
use Rattle.vt_types.specs.declared.reply.Why.{Why}
use Rattle.vt_types.specs.Operation.{Operation, PostedBuffer, Probe, Reset, Features, GetStatus, Accept, SetStatus, SetQueue, Post, Notify, Reap, Arm, Disarm, ReadConfig, WriteConfig, IrqQueues, IrqConfig, device_of}
use Rattle.vt_types.specs.Reply.{ReplyValue}
use Rattle.vt_types.specs.Reply as reply
use Rattle.vt_types.specs.Status.{DRIVER_OK, status_of_step}
use Rattle.vq_common.specs.Queue.{slots_of}
use Rattle.dev_status.specs.Status.{StatusState, write_of, has_bits}
use Rattle.vt_types.specs.Features.{EVENT_IDX}
use Rattle.device_contents.specs.Contents.{content_after, with_console, with_emergency}
use Rattle.abstract_devices.specs.World.{World, AbstractDevice, AbstractQueue, Buffer, UsedBuffer, Always, Never, First, device, with_device, known_of, queue, with_queue, offered, status_state}
use Rattle.abstract_devices.specs.Serve.{serve}
use Rattle.state_table.specs.Refusal.{refusal_of}

-- a world and a reply
pub record Outcome : Type 0 where
  pub world : World
  pub reply : ReplyValue

-- the queue signals that a driver is told: one bit where the bus has one bit, else the numbers of the queues
abbrev pub merge : BusKind → List ℕ → ReplyValue
merge bus [] = reply.Signals []
merge Mmio (n ∷ ns) = reply.AnyQueue
merge PciIntx (n ∷ ns) = reply.AnyQueue
merge PciMsix (n ∷ ns) = reply.Signals (n ∷ ns)
merge CcwClassic (n ∷ ns) = reply.Signals (n ∷ ns)
merge CcwAdapter (n ∷ ns) = reply.Signals (n ∷ ns)

-- after a reset
abbrev pub reset_device : Dev → AbstractDevice → AbstractDevice
reset_device dev d =
    record d {
      reset_since = true;
      status = 0;
      accepted = 0;
      queues = replicate (queue_count dev) None;
      signalled = [];
      config_changed = false;
    }

-- the device with the status and the accepted features of its status machine
abbrev pub with_status : AbstractDevice → StatusState → AbstractDevice
with_status d s = record d { status = s.status; accepted = s.accepted }

-- a queue that is set: with EVENT_IDX its first used buffer is signalled, else each
abbrev pub new_queue : AbstractDevice → ℕ → AbstractQueue
new_queue d size =
    record { size = size; kick = false; available = []; used = []; mode = if has_bits d.accepted EVENT_IDX then First else Always }

-- what a posted buffer is: its slots are its pieces, or 1 where it is indirect
abbrev pub buffer_of : PostedBuffer → Buffer
buffer_of b =
    record { tag = b.tag; readable = b.readable; room = sum (drop b.readable_pieces b.lengths); slots = slots_of b }

-- a change of a queue that is set
abbrev pub change_queue : AbstractDevice → ℕ → (AbstractQueue → AbstractQueue) → Option AbstractQueue → AbstractDevice
change_queue d n f None = d
change_queue d n f (Some q) = with_queue d n (f q)

-- a change of a queue of a device of the world, with a good reply
abbrev pub on_queue : World → Dev → ℕ → (AbstractQueue → AbstractQueue) → Outcome
on_queue w dev n f =
    record { world = with_device w dev (change_queue (device w dev) n f (queue (device w dev) n)); reply = reply.Good }

-- the front used buffer is reaped, where there is one
abbrev pub reap_front : World → Dev → ℕ → AbstractQueue → List UsedBuffer → Outcome
reap_front w dev n q [] = record { world = w; reply = reply.Nothing }
reap_front w dev n q (u ∷ us) =
    record { world = with_device w dev (with_queue (device w dev) n (record q { used = us })); reply = reply.Used u.tag (length u.written) u.written }

-- nothing is reaped of a queue that is not set
abbrev pub reap_queue : World → Dev → ℕ → Option AbstractQueue → Outcome
reap_queue w dev n None = record { world = w; reply = reply.Nothing }
reap_queue w dev n (Some q) = reap_front w dev n q q.used

-- the reply to a step, and the device after it
abbrev pub step_outcome : World → Dev → AbstractDevice → Outcome
step_outcome w dev d = record { world = with_device w dev d; reply = reply.Status d.status }

-- the bytes of a field of the configuration; those of a device that is not there are none
abbrev pub field_bytes : World → Field → List ℕ
field_bytes w Cols = little_bytes 2 w.contents.console.cols
field_bytes w Rows = little_bytes 2 w.contents.console.rows
field_bytes w Ports = little_bytes 4 CONSOLE_PORTS
field_bytes w Emerg = little_bytes 4 0
field_bytes w Capacity = []
field_bytes w SegMax = []
field_bytes w BlkSize = []
field_bytes w Writeback = []
field_bytes w Mac = []
field_bytes w NetStatus = []

-- a field is written: emerg_wr adds a byte to the console's (VIRTIO 1.2, 5.3.4)
abbrev pub write_field : World → Field → ℕ → World
write_field w Emerg value = record w { contents = with_console (with_emergency value) w.contents }
write_field w Cols value = w
write_field w Rows value = w
write_field w Ports value = w
write_field w Capacity value = w
write_field w SegMax value = w
write_field w BlkSize value = w
write_field w Writeback value = w
write_field w Mac value = w
write_field w NetStatus value = w

-- an operation of the driver that is not refused, on a bus
abbrev pub operate_allowed : BusKind → World → Operation → Outcome
operate_allowed bus w (Probe dev) = record { world = with_device w dev (record (device w dev) { probed = true }); reply = reply.Id (device_id dev) }
operate_allowed bus w (Reset dev) = record { world = with_device w dev (reset_device dev (device w dev)); reply = reply.Good }
operate_allowed bus w (Features dev) = record { world = w; reply = reply.Features (offered w dev) }
operate_allowed bus w (GetStatus dev) = record { world = w; reply = reply.Status (device w dev).status }
operate_allowed bus w (Accept dev features) = record { world = with_device w dev (record (device w dev) { accepted = features }); reply = reply.Good }
operate_allowed bus w (SetStatus dev s) =
    step_outcome w dev (with_status (device w dev) (write_of (status_of_step s) (status_state w dev)))
operate_allowed bus w (SetQueue dev n size) =
    record { world = with_device w dev (with_queue (device w dev) n (new_queue (device w dev) size)); reply = reply.Good }
operate_allowed bus w (Post dev n b) = on_queue w dev n (λ q. record q { available = q.available ++ buffer_of b ∷ [] })
operate_allowed bus w (Notify dev n) = on_queue w dev n (λ q. record q { kick = true })
operate_allowed bus w (Reap dev n) = reap_queue w dev n (queue (device w dev) n)
operate_allowed bus w (Arm dev n) = on_queue w dev n (λ q. record q { mode = Always })
operate_allowed bus w (Disarm dev n) = on_queue w dev n (λ q. record q { mode = Never })
operate_allowed bus w (ReadConfig dev field) = record { world = w; reply = reply.Value (field_bytes w field) }
operate_allowed bus w (WriteConfig dev field value) = record { world = write_field w field value; reply = reply.Good }
operate_allowed bus w (IrqQueues dev) =
    record { world = with_device w dev (record (device w dev) { signalled = [] }); reply = merge bus (device w dev).signalled }
operate_allowed bus w (IrqConfig dev) =
    record { world = with_device w dev (record (device w dev) { config_changed = false }); reply = reply.Config (device w dev).config_changed }

-- an operation that is refused changes nothing
abbrev pub unless_refused : Option Why → World → Outcome → Outcome
unless_refused None w o = o
unless_refused (Some reason) w o = record { world = w; reply = reply.Refused reason }

-- an operation of the driver, on a bus
abbrev pub operate : BusKind → World → Operation → Outcome
operate bus w op = unless_refused (refusal_of (known_of (device w (device_of op))) op) w (operate_allowed bus w op)

-- the console has another size: a changed configuration is signalled where DRIVER_OK stands (VIRTIO 1.2, 2.3)
abbrev pub resize_console : World → ℕ → ℕ → World
resize_console w cols rows =
    record w {
      devices = record w.devices { con = record w.devices.con { config_changed = w.devices.con.config_changed || has_bits w.devices.con.status DRIVER_OK } };
      contents = content_after (event.Consize cols rows) (status_state w Con) w.contents;
    }

-- an event; those of a device that is not there change nothing
abbrev pub happen : World → Event → World
happen w (event.Serve dev n) = serve w dev n
happen w (event.Frame bytes) = w
happen w (event.Key bytes) = record w { contents = content_after (event.Key bytes) (status_state w Con) w.contents }
happen w (event.Resize sectors) = w
happen w (event.Link up) = w
happen w (event.Consize cols rows) = resize_console w cols rows
happen w (event.Diskfail call) = w

-- events one after the other
abbrev pub happen_all : World → List EventAt → World
happen_all w [] = w
happen_all w (e ∷ es) = happen_all (happen w e.event) es

-- the events of a line that come after its operation
abbrev pub with_later : List EventAt → Outcome → Outcome
with_later later o = record { world = happen_all o.world later; reply = o.reply }

-- an operation with its events, of which the first p happen before it. One that is refused comes first: p is 0
abbrev pub placed_line : BusKind → World → Operation → List EventAt → ℕ → Outcome
placed_line bus w op events p = with_later (drop p events) (operate bus (happen_all w (take p events)) op)
