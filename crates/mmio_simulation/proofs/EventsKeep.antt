-- Each event keeps the relation, and what more is known of used buffers where it stays when more come behind them.
use Rattle.std.proofs.Common.{◌≡◌, ℕ, ◌+◌, ◌≤◌, List, [], ◌∷◌, ◌++◌, length, map, Bool, true, false, Option, Some, refl, sym, ◌∙◌, ap, subst, arith, length-set}
use Rattle.std.specs.Prelude.{◌||◌, ◌==◌, nat_lt, if◌then◌else◌, slice_set}
use Rattle.std.proofs.Math.Nat.{mod-lt}
use Rattle.std.specs.Int.RustNames.{bit_or}
use Rattle.guest_mem.specs.Memory.{part as bytes_at, Apart}
use Rattle.vt_types.specs.declared.device.Dev.TheVariants.{Blk, Net, Con}
use Rattle.vt_types.specs.declared.operation.Event.{Event}
use Rattle.vt_types.specs.declared.operation.Event.TheVariants as event
use Rattle.vt_types.specs.Device.{BLOCK_LEN, queue_block}
use Rattle.vt_types.specs.Status.{DRIVER_OK}
use Rattle.vt_layout.specs.Interrupts.{USED_BUFFER, CONFIGURATION_CHANGE}
use Rattle.vq_common.specs.Queue.{DriverQueue, Given}
use Rattle.vq_split_pair.specs.Pair.{room_of}
use Rattle.dev_status.specs.Status.{has_bits}
use Rattle.dev_console.specs.Console.{ConsoleAnswer}
use Rattle.device_contents.specs.Contents.{content_after, with_answer, with_console}
use Rattle.abstract_devices.specs.World.{World, AbstractDevice, AbstractQueue}
use Rattle.abstract_devices.specs.World as abstract
use Rattle.abstract_devices.specs.Operate.{happen, buffer_of}
use Rattle.abstract_devices.specs.Serve.{answered, with_number}
use Rattle.dev_core.specs.declared.ring.RingKind.TheVariants.{Split}
use Rattle.dev_core.specs.Bus.{Raw, raw_event, signalled}
use Rattle.dev_core.specs.Device.{QueueState, next_generation}
use Rattle.dev_core.specs.Devices.{Devices}
use Rattle.drv_core.specs.Driver.{DriverRecord}
use Rattle.mmio_regs.specs.MmioTable.{mmio_table, signal}
use Rattle.mmio_regs.specs.Page.{MmioRegisters}
use Rattle.ring_part.specs.Held.{Held, UsedHeld, available_of, chain_of_held}
use Rattle.ring_part.specs.RingPart.{RingPart}
use Rattle.ring_part.proofs.Serve.{Served, served, served_ring, used_front, served_length, served_elsewhere}
use Rattle.interleaving.specs.Kept.{Kept}
use Rattle.mmio_simulation.specs.Bus.{mmio}
use Rattle.mmio_simulation.specs.Related.{EachQueueWith, QueuePartWith, Related, RelatedWith, SetPartWith, SignalPart, UsedFacts, bit_if, has_any, no_facts}
use Rattle.mmio_simulation.proofs.Blocks.{blocks_apart}
use Rattle.mmio_simulation.proofs.PartChanges.{device_kept, kicked_part}
use Rattle.mmio_simulation.proofs.Queues.{IsSetAt, slice_set-same, each_replaced, queue_framed}
use Rattle.mmio_simulation.proofs.Serving.{with_queue_signal, with_given, without_kick, by_serve}

-- what is said of used buffers stays where more come behind them
abbrev pub Closed : (List UsedHeld → Type 0) → Type 0
Closed P = (us vs : List UsedHeld) → P us → P (us ++ vs)

abbrev pub AllClosed : UsedFacts → Type 0
AllClosed F = (n : ℕ) → Closed (F n)

pub nothing_closed : AllClosed no_facts
nothing_closed n us vs h = tt

-- the list of signalled queues has one once a number joined it
pub any_with_number : (n : ℕ) (ns : List ℕ) → has_any (with_number n ns) ≡ true
any_with_number n [] = refl
any_with_number n (m ∷ ms) =
    elim (n == m) as (λ t. has_any (if t then m ∷ ms else (if nat_lt n m then n ∷ m ∷ ms else m ∷ with_number n ms)) ≡ true) [
      | true ↦ refl
      | false ↦ elim (nat_lt n m) as (λ t. has_any (if t then n ∷ m ∷ ms else m ∷ with_number n ms) ≡ true) [ true ↦ refl | false ↦ refl ]
    ]

-- a bit that is added to InterruptStatus
used_added : (any changed : Bool) → bit_or (bit_if any USED_BUFFER + bit_if changed CONFIGURATION_CHANGE) USED_BUFFER ≡ bit_if true USED_BUFFER + bit_if changed CONFIGURATION_CHANGE
used_added true true = refl
used_added true false = refl
used_added false true = refl
used_added false false = refl

change_added : (any changed : Bool) → bit_or (bit_if any USED_BUFFER + bit_if changed CONFIGURATION_CHANGE) CONFIGURATION_CHANGE ≡ bit_if any USED_BUFFER + bit_if (changed || true) CONFIGURATION_CHANGE
change_added true true = refl
change_added true false = refl
change_added false true = refl
change_added false false = refl

or_false : (b : Bool) → (b || false) ≡ b
or_false true = refl
or_false false = refl

-- a used buffer is signalled in both halves, or in neither
queue_signal_kept : (signals : Bool) (n : ℕ) (ns : List ℕ) (changed : Bool) (regs : MmioRegisters) → SignalPart ns changed regs.con
    → SignalPart (if signals then with_number n ns else ns) changed (with_queue_signal signals regs).con
queue_signal_kept false n ns changed regs p = p
queue_signal_kept true n ns changed regs p =
    record {
      status =
          ap (λ (bits : ℕ). bit_or bits USED_BUFFER) p.status
          ∙ used_added (has_any ns) changed
          ∙ ap (λ (any : Bool). bit_if any USED_BUFFER + bit_if changed CONFIGURATION_CHANGE) (sym (any_with_number n ns));
      queues = p.queues;
    }

-- so is a changed configuration
abbrev pub with_config_signal : Bool → MmioRegisters → MmioRegisters
with_config_signal true regs = signal CONFIGURATION_CHANGE Con regs
with_config_signal false regs = regs

config_signal_kept : (drives : Bool) (ns : List ℕ) (changed : Bool) (regs : MmioRegisters) → SignalPart ns changed regs.con → SignalPart ns (changed || drives) (with_config_signal drives regs).con
config_signal_kept false ns changed regs p = subst (λ (c : Bool). SignalPart ns c regs.con) (sym (or_false changed)) p
config_signal_kept true ns changed regs p = record { status = ap (λ (bits : ℕ). bit_or bits CONFIGURATION_CHANGE) p.status ∙ change_added (has_any ns) changed; queues = p.queues }

abbrev raw_of : MmioRegisters → Devices → List ℕ → Raw MmioRegisters
raw_of regs s mem = record { registers = regs; devices = s; memory = mem }

pub after_change_is : (drives : Bool) (regs : MmioRegisters) (s : Devices) (mem : List ℕ)
    → (if drives then signalled s (signal CONFIGURATION_CHANGE Con regs, mem) else raw_of regs s mem) ≡ raw_of (with_config_signal drives regs) s mem
after_change_is true regs s mem = refl
after_change_is false regs s mem = refl

module _ (F : UsedFacts) {w : World} {raw : Raw MmioRegisters} {known : DriverRecord} (r : RelatedWith F w raw known) where
  module _ {n : ℕ} {a : AbstractQueue} {s : QueueState} {q : DriverQueue} (at : IsSetAt F w raw known n a s q) where
    -- a queue that changed, with memory changed in its block alone
    queues_kept : (mem2 : List ℕ) (a2 : AbstractQueue) (s2 : QueueState) → length mem2 ≡ length raw.memory → ((b k : ℕ) → Apart q.base BLOCK_LEN b k → bytes_at mem2 b k ≡ bytes_at raw.memory b k)
        → SetPartWith (F n) mem2 w.devices.con.status w.devices.con.accepted n a2 s2 q
        → EachQueueWith F mem2 w.devices.con.status w.devices.con.accepted 0 (slice_set w.devices.con.queues n (Some a2)) (slice_set raw.devices.con.queues n s2) known.con.queues
    queues_kept mem2 a2 s2 long elsewhere part =
        let location : 0 + n ≡ n = omega arith in
        subst (λ (qs : List (Option DriverQueue)). EachQueueWith F mem2 w.devices.con.status w.devices.con.accepted 0 (slice_set w.devices.con.queues n (Some a2)) (slice_set raw.devices.con.queues n s2) qs)
        (slice_set-same known.con.queues n (Some q) at.in_record)
        (each_replaced F F raw.memory mem2 w.devices.con.status w.devices.con.status w.devices.con.accepted w.devices.con.accepted 0 w.devices.con.queues raw.devices.con.queues known.con.queues n (Some a2) s2 (Some q)
        (λ m other b t p kept. queue_framed (F m) raw.memory mem2 w.devices.con.status w.devices.con.accepted m long
        (elsewhere (queue_block Con m) BLOCK_LEN (blocks_apart q.base n m at.here.block (λ e. other (e ∙ sym location)))) b t p kept)
        (subst (λ (k : ℕ). QueuePartWith (F k) mem2 w.devices.con.status w.devices.con.accepted k (Some a2) s2 (Some q)) (sym location) part)
        r.queues)

    ends_kept : RelatedWith F (record w { devices = record w.devices { con = abstract.with_queue w.devices.con n (record a { kick = false }) } }) (without_kick raw n s) known
    ends_kept =
        let a2 : AbstractQueue = record a { kick = false } in
        let s2 : QueueState = record s { kick = false } in
        record {
          device = device_kept r.device.generation r.device;
          queues = queues_kept raw.memory a2 s2 refl (λ b k apart. refl) (kicked_part (F n) raw.memory w.devices.con.status w.devices.con.accepted n a s q false at.here);
          count = length-set w.devices.con.queues n (Some a2) ∙ r.count;
          contents = r.contents;
          signals = r.signals;
          memory = r.memory;
        }

    answers_kept : Closed (F n) → (h : Held) (rest : List Held) (x : ConsoleAnswer) → RingPart raw.memory a at.here.ring q at.here.rests.used [] (h ∷ rest) → length x.written ≤ room_of h.buffer
        → RelatedWith F (answered w n a (buffer_of h.buffer) (map available_of rest) x) (with_given raw n s x (served_ring raw.memory at.here.ring (chain_of_held q.base h) x.written)) known
    answers_kept closed h rest x part few =
        let p : SetPartWith (F n) raw.memory w.devices.con.status w.devices.con.accepted n a s q = at.here in
        let u : UsedHeld = record { held = h; written = x.written } in
        let g : Given = served_ring raw.memory p.ring (chain_of_held q.base h) x.written in
        let gave : Served raw.memory a p.ring q p.rests.used [] h rest x.written = served x.written part few in
        let a2 : AbstractQueue = used_front a h rest x.written in
        let s2 : QueueState = record s { ring = Some (record { kind = Split; queue = g.queue }) } in
        record {
          device = device_kept r.device.generation r.device;
          queues = queues_kept g.memory a2 s2 (served_length x.written part few) (served_elsewhere x.written part few)
              (record {
                ring = g.queue;
                is_set = refl;
                kick = p.kick;
                rests = record { used = p.rests.used ++ u ∷ []; waiting = rest; part = gave.part; known = closed p.rests.used (u ∷ []) p.rests.known };
                block = p.block;
                agreed = p.agreed;
                indirect = p.indirect;
                event_idx = p.event_idx;
              });
          count = length-set w.devices.con.queues n (Some a2) ∙ r.count;
          contents = ap (with_console (with_answer x)) r.contents;
          signals =
              subst (λ (t : Bool). SignalPart (if t then with_number n w.devices.con.signalled else w.devices.con.signalled) w.devices.con.config_changed (with_queue_signal g.signals raw.registers).con) gave.signals
              (queue_signal_kept g.signals n w.devices.con.signalled w.devices.con.config_changed raw.registers r.signals);
          memory = served_length x.written part few ∙ r.memory;
        }

  key_kept : (bytes : List ℕ) → RelatedWith F (happen w (event.Key bytes)) (raw_event mmio_table raw (event.Key bytes)) known
  key_kept bytes =
      record {
        device = r.device;
        queues = r.queues;
        count = r.count;
        contents = ap (content_after (event.Key bytes) raw.devices.con.status) r.contents;
        signals = r.signals;
        memory = r.memory;
      }

  consize_kept : (cols rows : ℕ) → RelatedWith F (happen w (event.Consize cols rows)) (raw_event mmio_table raw (event.Consize cols rows)) known
  consize_kept cols rows =
      let s : Devices = record raw.devices { con = next_generation raw.devices.con; contents = content_after (event.Consize cols rows) raw.devices.con.status raw.devices.contents } in
      let drives : Bool = has_bits raw.devices.con.status.status DRIVER_OK in
      let same : drives ≡ has_bits w.devices.con.status DRIVER_OK = ap (λ (status : ℕ). has_bits status DRIVER_OK) r.device.status in
      subst (λ (raw2 : Raw MmioRegisters). RelatedWith F (happen w (event.Consize cols rows)) raw2 known) (sym (after_change_is drives raw.registers s raw.memory))
      (record {
        device = device_kept (mod-lt (raw.devices.con.generation + 1) (omega arith)) r.device;
        queues = r.queues;
        count = r.count;
        contents = ap (content_after (event.Consize cols rows) raw.devices.con.status) r.contents;
        signals =
            subst (λ (changes : Bool). SignalPart w.devices.con.signalled (w.devices.con.config_changed || changes) (with_config_signal drives raw.registers).con) same
            (config_signal_kept drives w.devices.con.signalled w.devices.con.config_changed raw.registers r.signals);
        memory = r.memory;
      })

-- every event keeps the relation, with what more is known of used buffers
pub events_keep : (F : UsedFacts) → AllClosed F → (w : World) (raw : Raw MmioRegisters) (known : DriverRecord) (e : Event) → RelatedWith F w raw known
    → RelatedWith F (happen w e) (raw_event mmio_table raw e) known
events_keep F closed w raw known (event.Serve Con n) r =
    by_serve (λ w2 raw2. RelatedWith F w2 raw2 known) F n w raw known r r (λ a s q at. ends_kept F r at) (λ a s q at h rest x part few. answers_kept F r at (closed n) h rest x part few)
events_keep F closed w raw known (event.Serve Blk n) r = r
events_keep F closed w raw known (event.Serve Net n) r = r
events_keep F closed w raw known (event.Frame bytes) r = r
events_keep F closed w raw known (event.Key bytes) r = key_kept F r bytes
events_keep F closed w raw known (event.Resize sectors) r = r
events_keep F closed w raw known (event.Link up) r = r
events_keep F closed w raw known (event.Consize cols rows) r = consize_kept F r cols rows
events_keep F closed w raw known (event.Diskfail call) r = r

-- so the relation is an invariant of what comes between two accesses
pub related_with_kept : (F : UsedFacts) → AllClosed F → (known : DriverRecord) → Kept mmio (λ w raw. RelatedWith F w raw known)
related_with_kept F closed known w raw e r = events_keep F closed w raw known e r

pub related_kept : (known : DriverRecord) → Kept mmio (λ w raw. Related w raw known)
related_kept known w raw e r = events_keep no_facts nothing_closed w raw known e r
