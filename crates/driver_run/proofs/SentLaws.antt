-- No operation and no event sends a frame: the network device is not there.
use Rattle.std.proofs.Common.{◌≡◌, ℕ, List, [], ◌∷◌, take, drop, Bool, true, false, Option, Some, None, refl, ◌∙◌}
use Rattle.std.specs.Prelude.{if◌then◌else◌}
use Rattle.vt_types.specs.declared.device.BusKind.{BusKind}
use Rattle.vt_types.specs.declared.device.Dev.{Dev}
use Rattle.vt_types.specs.declared.device.Dev.TheVariants.{Blk, Net, Con}
use Rattle.vt_types.specs.declared.operation.Event.{Event}
use Rattle.vt_types.specs.declared.operation.Event.TheVariants as event
use Rattle.vt_types.specs.declared.operation.EventAt.{EventAt}
use Rattle.vt_types.specs.declared.operation.Field.{Field}
use Rattle.vt_types.specs.declared.operation.Field.TheVariants.{Capacity, SegMax, BlkSize, Writeback, Mac, NetStatus, Cols, Rows, Ports, Emerg}
use Rattle.vt_types.specs.declared.reply.Why.{Why}
use Rattle.vt_types.specs.Operation.{Operation, Probe, Reset, Features, GetStatus, Accept, SetStatus, SetQueue, Post, Notify, Reap, Arm, Disarm, ReadConfig, WriteConfig, IrqQueues, IrqConfig}
use Rattle.abstract_devices.specs.World.{World, AbstractDevice, AbstractQueue, Buffer, UsedBuffer, device, queue}
use Rattle.abstract_devices.specs.Operate.{Outcome, happen, happen_all, operate, operate_allowed, placed_line, reap_front, reap_queue, unless_refused, write_field}
use Rattle.abstract_devices.specs.Serve.{serve, serve_console, serve_front}

write_field-sent : (w : World) (field : Field) (value : ℕ) → (write_field w field value).contents.network.sent ≡ w.contents.network.sent
write_field-sent w Capacity value = refl
write_field-sent w SegMax value = refl
write_field-sent w BlkSize value = refl
write_field-sent w Writeback value = refl
write_field-sent w Mac value = refl
write_field-sent w NetStatus value = refl
write_field-sent w Cols value = refl
write_field-sent w Rows value = refl
write_field-sent w Ports value = refl
write_field-sent w Emerg value = refl

reap_front-sent : (w : World) (dev : Dev) (n : ℕ) (q : AbstractQueue) (used : List UsedBuffer) → (reap_front w dev n q used).world.contents.network.sent ≡ w.contents.network.sent
reap_front-sent w dev n q [] = refl
reap_front-sent w dev n q (u ∷ us) = refl

reap_queue-sent : (w : World) (dev : Dev) (n : ℕ) (q : Option AbstractQueue) → (reap_queue w dev n q).world.contents.network.sent ≡ w.contents.network.sent
reap_queue-sent w dev n None = refl
reap_queue-sent w dev n (Some q) = reap_front-sent w dev n q q.used

operate_allowed-sent : (bus : BusKind) (w : World) (op : Operation) → (operate_allowed bus w op).world.contents.network.sent ≡ w.contents.network.sent
operate_allowed-sent bus w (Probe dev) = refl
operate_allowed-sent bus w (Reset dev) = refl
operate_allowed-sent bus w (Features dev) = refl
operate_allowed-sent bus w (GetStatus dev) = refl
operate_allowed-sent bus w (Accept dev features) = refl
operate_allowed-sent bus w (SetStatus dev step) = refl
operate_allowed-sent bus w (SetQueue dev n size) = refl
operate_allowed-sent bus w (Post dev n b) = refl
operate_allowed-sent bus w (Notify dev n) = refl
operate_allowed-sent bus w (Reap dev n) = reap_queue-sent w dev n (queue (device w dev) n)
operate_allowed-sent bus w (Arm dev n) = refl
operate_allowed-sent bus w (Disarm dev n) = refl
operate_allowed-sent bus w (ReadConfig dev field) = refl
operate_allowed-sent bus w (WriteConfig dev field value) = write_field-sent w field value
operate_allowed-sent bus w (IrqQueues dev) = refl
operate_allowed-sent bus w (IrqConfig dev) = refl

unless_refused-sent : (refusal : Option Why) (w : World) (o : Outcome) → o.world.contents.network.sent ≡ w.contents.network.sent → (unless_refused refusal w o).world.contents.network.sent ≡ w.contents.network.sent
unless_refused-sent None w o same = same
unless_refused-sent (Some reason) w o same = refl

operate-sent : (bus : BusKind) (w : World) (op : Operation) → (operate bus w op).world.contents.network.sent ≡ w.contents.network.sent
operate-sent bus w op = unless_refused-sent _ w (operate_allowed bus w op) (operate_allowed-sent bus w op)

either-sent : (b : Bool) (w v : World) → v.contents.network.sent ≡ w.contents.network.sent → (if b then v else w).contents.network.sent ≡ w.contents.network.sent
either-sent true w v same = same
either-sent false w v same = refl

serve_front-sent : (w : World) (n : ℕ) (q : AbstractQueue) (available : List Buffer) → (serve_front w n q available).contents.network.sent ≡ w.contents.network.sent
serve_front-sent w n q [] = refl
serve_front-sent w n q (b ∷ bs) = refl

serve_console-sent : (w : World) (n : ℕ) (q : Option AbstractQueue) → (serve_console w n q).contents.network.sent ≡ w.contents.network.sent
serve_console-sent w n None = refl
serve_console-sent w n (Some q) = either-sent _ w (serve_front w n q q.available) (serve_front-sent w n q q.available)

serve-sent : (w : World) (dev : Dev) (n : ℕ) → (serve w dev n).contents.network.sent ≡ w.contents.network.sent
serve-sent w Blk n = refl
serve-sent w Net n = refl
serve-sent w Con n = serve_console-sent w n (queue w.devices.con n)

-- an event
pub happen-sent : (w : World) (e : Event) → (happen w e).contents.network.sent ≡ w.contents.network.sent
happen-sent w (event.Serve dev n) = serve-sent w dev n
happen-sent w (event.Frame bytes) = refl
happen-sent w (event.Key bytes) = refl
happen-sent w (event.Resize sectors) = refl
happen-sent w (event.Link up) = refl
happen-sent w (event.Consize cols rows) = refl
happen-sent w (event.Diskfail call) = refl

happen_all-sent : (es : List EventAt) (w : World) → (happen_all w es).contents.network.sent ≡ w.contents.network.sent
happen_all-sent [] w = refl
happen_all-sent (e ∷ es) w = happen_all-sent es (happen w e.event) ∙ happen-sent w e.event

-- an operation among its events
pub placed_line-sent : (bus : BusKind) (w : World) (op : Operation) (events : List EventAt) (p : ℕ) → (placed_line bus w op events p).world.contents.network.sent ≡ w.contents.network.sent
placed_line-sent bus w op events p =
    let before : World = happen_all w (take p events) in
    happen_all-sent (drop p events) (operate bus before op).world ∙ operate-sent bus before op ∙ happen_all-sent (take p events) w
