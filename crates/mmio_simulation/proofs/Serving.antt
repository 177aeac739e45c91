-- A serve of a console queue, in both halves: what it may come to.
use Rattle.std.proofs.Common.{◌≡◌, ℕ, ◌≤◌, List, [], ◌∷◌, length, map, Bool, true, false, Option, Some, None, refl, sym, ◌∙◌, ap, subst}
use Rattle.std.specs.Prelude.{◌&&◌, not, if◌then◌else◌, slice_get}
use Rattle.std.specs.Option.{option_flatten}
use Rattle.vt_types.specs.declared.device.Dev.TheVariants.{Con}
use Rattle.vt_types.specs.declared.operation.Event.TheVariants as event
use Rattle.vt_types.specs.Status.{DRIVER_OK, DEVICE_NEEDS_RESET}
use Rattle.vt_layout.specs.Interrupts.{USED_BUFFER}
use Rattle.vq_common.specs.Chain.{ChainValue, Walked}
use Rattle.vq_common.specs.Piece.{readable, room}
use Rattle.vq_common.specs.Queue.{DeviceQueue, DriverQueue, Given}
use Rattle.vq_split_dev.specs.Walk.{split_walk}
use Rattle.vq_split_pair.specs.Pair.{room_of}
use Rattle.dev_status.specs.Status.{has_bits}
use Rattle.dev_console.specs.Console.{ConsoleAnswer, console_answer}
use Rattle.dev_console.proofs.ConsoleLaws.{written-le}
use Rattle.abstract_devices.specs.World.{World, AbstractQueue, Buffer}
use Rattle.abstract_devices.specs.World as abstract
use Rattle.abstract_devices.specs.Operate.{happen, buffer_of}
use Rattle.abstract_devices.specs.Serve.{answered, is_served, serve_front, serve_console}
use Rattle.dev_core.specs.declared.ring.RingKind.TheVariants.{Split}
use Rattle.dev_core.specs.Bus.{Raw, after_serve, raw_event}
use Rattle.device_contents.specs.Contents.{Contents, with_answer, with_console}
use Rattle.dev_core.specs.Device.{QueueState, with_queue}
use Rattle.dev_core.specs.Devices.{Devices}
use Rattle.dev_core.specs.Ring.{SetRing}
use Rattle.dev_core.specs.Serve.{Serving, idle, is_driven, used, gave, serve_shown, serve_ring, has_work}
use Rattle.dev_core.specs.Serve as core
use Rattle.drv_core.specs.Driver.{DriverRecord}
use Rattle.mmio_regs.specs.MmioTable.{mmio_table, signal}
use Rattle.mmio_regs.specs.Page.{MmioRegisters}
use Rattle.ring_part.specs.Held.{Held, UsedHeld, available_of, chain_of_held}
use Rattle.ring_part.specs.RingPart.{RingPart}
use Rattle.ring_part.proofs.Shown.{Shows, shown, shown_empty}
use Rattle.ring_part.proofs.Serve.{served_ring}
use Rattle.mmio_simulation.specs.Related.{Acknowledged, Agreed, BeforeAll, Driven, IsStep, QueuePartWith, RelatedWith, Running, UsedFacts}
use Rattle.mmio_simulation.proofs.Queues.{Found, IsSetAt, NoSuchQueue, Queue, found_in}

-- the registers once a queue signalled, or did not
abbrev pub with_queue_signal : Bool → MmioRegisters → MmioRegisters
with_queue_signal true regs = signal USED_BUFFER Con regs
with_queue_signal false regs = regs

-- the raw machine once the kick of a queue ended
abbrev pub without_kick : Raw MmioRegisters → ℕ → QueueState → Raw MmioRegisters
without_kick raw n s = record raw { devices = record raw.devices { con = with_queue raw.devices.con n (record s { kick = false }) } }

-- once a chain was answered and given back
abbrev pub with_given : Raw MmioRegisters → ℕ → QueueState → ConsoleAnswer → Given → Raw MmioRegisters
with_given raw n s x g =
    record {
      registers = with_queue_signal g.signals raw.registers;
      devices = record raw.devices {
        con = with_queue raw.devices.con n (record s { ring = Some (record { kind = Split; queue = g.queue }) });
        contents = with_console (with_answer x) raw.devices.contents;
      };
      memory = g.memory;
    }

-- once a serve left this
abbrev pub after : ℕ → MmioRegisters → Serving → Raw MmioRegisters
after n regs s = after_serve mmio_table Con n regs s s.served

after_used : (signals : Bool) (n : ℕ) (regs : MmioRegisters) (s : Devices) (mem : List ℕ)
    → after n regs (record { served = used signals; devices = s; memory = mem }) ≡ record { registers = with_queue_signal signals regs; devices = s; memory = mem }
after_used true n regs s mem = refl
after_used false n regs s mem = refl

-- a device that our driver drives needs no reset
needs_none : (status : ℕ) → IsStep status → has_bits status DEVICE_NEEDS_RESET ≡ false
needs_none status (BeforeAll is) = ap (λ (n : ℕ). has_bits n DEVICE_NEEDS_RESET) is
needs_none status (Acknowledged is) = ap (λ (n : ℕ). has_bits n DEVICE_NEEDS_RESET) is
needs_none status (Driven is) = ap (λ (n : ℕ). has_bits n DEVICE_NEEDS_RESET) is
needs_none status (Agreed is) = ap (λ (n : ℕ). has_bits n DEVICE_NEEDS_RESET) is
needs_none status (Running is) = ap (λ (n : ℕ). has_bits n DEVICE_NEEDS_RESET) is

and_not_false : (b : Bool) → (b && not false) ≡ b
and_not_false true = refl
and_not_false false = refl

same_if : {A : Type 0} (test : Bool) (x : A) → (if test then x else x) ≡ x
same_if true x = refl
same_if false x = refl

-- where a queue stands in the two halves, as a serve sees it
pub record IsServable (w : World) (raw : Raw MmioRegisters) (a : AbstractQueue) (s : QueueState) (d : DeviceQueue) (q : DriverQueue) (done : List UsedHeld) (held : List Held) : Type 0 where
  pub is_set : s.ring ≡ Some (record { kind = Split; queue = d })
  pub kick : s.kick ≡ a.kick
  pub contents : raw.devices.contents ≡ w.contents
  pub status : raw.devices.con.status.status ≡ w.devices.con.status
  pub step : IsStep w.devices.con.status
  pub part : RingPart raw.memory a d q done [] held

-- What holds where nothing is served, where the kick ends, and where the first waiting buffer is answered with the same bytes
-- and given back, holds after a serve of a queue that is set.
module _ (M : World → Raw MmioRegisters → Type 0) (n : ℕ) (w : World) (raw : Raw MmioRegisters) (a : AbstractQueue) (s : QueueState) (d : DeviceQueue) (q : DriverQueue) (done : List UsedHeld)
    (stays : M w raw) (ends : M (record w { devices = record w.devices { con = abstract.with_queue w.devices.con n (record a { kick = false }) } }) (without_kick raw n s))
    (answers : (h : Held) (rest : List Held) (x : ConsoleAnswer) → RingPart raw.memory a d q done [] (h ∷ rest) → length x.written ≤ room_of h.buffer
    → M (answered w n a (buffer_of h.buffer) (map available_of rest) x) (with_given raw n s x (served_ring raw.memory d (chain_of_held q.base h) x.written))) where
  abbrev ring : SetRing
  ring = record { kind = Split; queue = d }

  abbrev shows : Walked → Serving
  shows seen = serve_shown raw.devices n s ring raw.memory seen

  abbrev rests : Serving
  rests = idle raw.devices raw.memory

  -- what is in front decides
  front : (held : List Held) → IsServable w raw a s d q done held → M (serve_front w n a a.available) (after n raw.registers (shows (split_walk raw.memory d)))
  front [] here =
      subst (λ (bs : List Buffer). M (serve_front w n a bs) (after n raw.registers (shows (split_walk raw.memory d)))) (sym here.part.lists.available)
      (subst (λ (seen : Walked). M (serve_front w n a []) (after n raw.registers (shows seen))) (sym (shown_empty here.part)) ends)
  front (h ∷ rest) here =
      let c : ChainValue = chain_of_held q.base h in
      let is : Shows raw.memory d q.base h = shown here.part in
      let x : ConsoleAnswer = console_answer n h.buffer.readable (room_of h.buffer) w.contents.console.waiting w.contents.console.console in
      let same : console_answer n (readable raw.memory c.pieces) (room c.pieces) raw.devices.contents.console.waiting raw.devices.contents.console.console ≡ x
      = ap (λ (bytes : List ℕ). console_answer n bytes (room c.pieces) raw.devices.contents.console.waiting raw.devices.contents.console.console) is.readable
      ∙ ap (λ (k : ℕ). console_answer n h.buffer.readable k raw.devices.contents.console.waiting raw.devices.contents.console.console) is.room
      ∙ ap (λ (held : Contents). console_answer n h.buffer.readable (room_of h.buffer) held.console.waiting held.console.console) here.contents
      in
      let raw_is : after n raw.registers (shows (split_walk raw.memory d)) ≡ with_given raw n s x (served_ring raw.memory d c x.written)
      = ap (λ (seen : Walked). after n raw.registers (shows seen)) is.front
      ∙ ap (λ (y : ConsoleAnswer). after n raw.registers (gave raw.devices n s ring y (core.answered ring c y raw.memory))) same
      ∙ after_used (served_ring raw.memory d c x.written).signals n raw.registers
      (record raw.devices { con = with_queue raw.devices.con n (record s { ring = Some (record { kind = Split; queue = (served_ring raw.memory d c x.written).queue }) }); contents = with_console (with_answer x) raw.devices.contents })
      (served_ring raw.memory d c x.written).memory
      in
      subst (λ (bs : List Buffer). M (serve_front w n a bs) (after n raw.registers (shows (split_walk raw.memory d)))) (sym here.part.lists.available)
      (subst (λ (raw2 : Raw MmioRegisters). M (serve_front w n a (map available_of (h ∷ rest))) raw2) (sym raw_is)
      (answers h rest x here.part (written-le n h.buffer.readable (room_of h.buffer) w.contents.console.waiting w.contents.console.console)))

  -- the abstract test is one, the raw one two
  guarded : (drives kick work : Bool) (w2 : World) (seen : Serving) → M w2 (after n raw.registers seen)
      → M (if drives && kick && work then w2 else w) (after n raw.registers (if drives && work then (if kick then seen else rests) else rests))
  guarded true true true w2 seen holds = holds
  guarded true true false w2 seen holds = stays
  guarded true false true w2 seen holds = stays
  guarded true false false w2 seen holds = stays
  guarded false kick work w2 seen holds = stays

  tests_agree : (held : List Held) → IsServable w raw a s d q done held → (is_driven raw.devices.con.status && has_work raw.devices n) ≡ (has_bits w.devices.con.status DRIVER_OK && is_served w n)
  tests_agree held here =
      ap (λ (status : ℕ). has_bits status DRIVER_OK && not (has_bits status DEVICE_NEEDS_RESET) && has_work raw.devices n) here.status
      ∙ ap (λ (needs : Bool). has_bits w.devices.con.status DRIVER_OK && not needs && has_work raw.devices n) (needs_none w.devices.con.status here.step)
      ∙ ap (λ (drives : Bool). drives && has_work raw.devices n) (and_not_false (has_bits w.devices.con.status DRIVER_OK))
      ∙ ap (λ (held : Contents). has_bits w.devices.con.status DRIVER_OK && has_work (record raw.devices { contents = held }) n) here.contents

  pub by_serve_of_set : (held : List Held) → IsServable w raw a s d q done held
      → M (serve_console w n (Some a)) (after n raw.registers (core.serve_console raw.devices n (Some s) raw.memory))
  by_serve_of_set held here =
      let drives : Bool = has_bits w.devices.con.status DRIVER_OK in
      let work : Bool = is_served w n in
      let seen : Serving = shows (split_walk raw.memory d) in
      let raw_is : core.serve_console raw.devices n (Some s) raw.memory ≡ (if drives && work then (if a.kick then seen else rests) else rests)
      = ap (λ (test : Bool). if test then serve_ring raw.devices n s s.ring raw.memory else rests) (tests_agree held here)
      ∙ ap (λ (r : Option SetRing). if drives && work then serve_ring raw.devices n s r raw.memory else rests) here.is_set
      ∙ ap (λ (kick : Bool). if drives && work then (if kick then seen else rests) else rests) here.kick
      in
      subst (λ (left : Serving). M (serve_console w n (Some a)) (after n raw.registers left)) (sym raw_is)
      (guarded drives a.kick work (serve_front w n a a.available) seen (front held here))

-- the same after a serve of a queue, whether it is there and set or not
module _ (M : World → Raw MmioRegisters → Type 0) (F : UsedFacts) (n : ℕ) (w : World) (raw : Raw MmioRegisters) (known : DriverRecord) (r : RelatedWith F w raw known)
    (stays : M w raw)
    (ends : (a : AbstractQueue) (s : QueueState) (q : DriverQueue) → IsSetAt F w raw known n a s q → M (record w { devices = record w.devices { con = abstract.with_queue w.devices.con n (record a { kick = false }) } }) (without_kick raw n s))
    (answers : (a : AbstractQueue) (s : QueueState) (q : DriverQueue) (at : IsSetAt F w raw known n a s q) (h : Held) (rest : List Held) (x : ConsoleAnswer)
    → RingPart raw.memory a at.here.ring q at.here.rests.used [] (h ∷ rest) → length x.written ≤ room_of h.buffer
    → M (answered w n a (buffer_of h.buffer) (map available_of rest) x) (with_given raw n s x (served_ring raw.memory at.here.ring (chain_of_held q.base h) x.written))) where
  -- of a queue that is not set nothing is served
  unset_serves : (s : QueueState) → s.ring ≡ None → core.serve_console raw.devices n (Some s) raw.memory ≡ idle raw.devices raw.memory
  unset_serves s unset =
      ap (λ (o : Option SetRing). if is_driven raw.devices.con.status && has_work raw.devices n then serve_ring raw.devices n s o raw.memory else idle raw.devices raw.memory) unset
      ∙ same_if (is_driven raw.devices.con.status && has_work raw.devices n) (idle raw.devices raw.memory)

  by_part : (a : Option AbstractQueue) (s : QueueState) (q : Option DriverQueue) → slice_get w.devices.con.queues n ≡ Some a → slice_get raw.devices.con.queues n ≡ Some s → slice_get known.con.queues n ≡ Some q
      → QueuePartWith (F n) raw.memory w.devices.con.status w.devices.con.accepted n a s q → M (serve_console w n a) (after n raw.registers (core.serve_console raw.devices n (Some s) raw.memory))
  by_part None s None in_world in_raw in_record part =
      subst (λ (left : Serving). M w (after n raw.registers left)) (sym (unset_serves s part.unset)) stays
  by_part (Some a) s (Some q) in_world in_raw in_record part =
      let at : IsSetAt F w raw known n a s q = record { in_world = in_world; in_raw = in_raw; in_record = in_record; here = part } in
      by_serve_of_set M n w raw a s part.ring q part.rests.used stays (ends a s q at) (answers a s q at) part.rests.waiting
      (record { is_set = part.is_set; kick = part.kick; contents = r.contents; status = r.device.status; step = r.device.step; part = part.rests.part })
  by_part None s (Some q) in_world in_raw in_record part = absurd part
  by_part (Some a) s None in_world in_raw in_record part = absurd part

  by_found : Found F raw.memory w.devices.con.status w.devices.con.accepted n (slice_get w.devices.con.queues n) (slice_get raw.devices.con.queues n) (slice_get known.con.queues n)
      → M (happen w (event.Serve Con n)) (raw_event mmio_table raw (event.Serve Con n))
  by_found (NoSuchQueue in_world in_raw in_record) =
      subst (λ (a : Option (Option AbstractQueue)). M (serve_console w n (option_flatten a)) (after n raw.registers (core.serve_console raw.devices n (slice_get raw.devices.con.queues n) raw.memory))) (sym in_world)
      (subst (λ (s : Option QueueState). M w (after n raw.registers (core.serve_console raw.devices n s raw.memory))) (sym in_raw) stays)
  by_found (Queue a s q in_world in_raw in_record part) =
      subst (λ (a : Option (Option AbstractQueue)). M (serve_console w n (option_flatten a)) (after n raw.registers (core.serve_console raw.devices n (slice_get raw.devices.con.queues n) raw.memory))) (sym in_world)
      (subst (λ (s : Option QueueState). M (serve_console w n a) (after n raw.registers (core.serve_console raw.devices n s raw.memory))) (sym in_raw)
      (by_part a s q in_world in_raw in_record part))

  pub by_serve : M (happen w (event.Serve Con n)) (raw_event mmio_table raw (event.Serve Con n))
  by_serve = by_found (found_in r n)
