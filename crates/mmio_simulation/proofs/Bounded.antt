-- The lines of an operation's accesses are not too long: those of 130 rounds of a field, or of the accesses to a ring.
use Rattle.std.proofs.Common.{ℕ, zero, suc, ◌+◌, ◌-◌, ◌*◌, ◌≤◌, List, [], ◌∷◌, ◌++◌, length, Bool, true, false, Option, Some, None, arith, rules}
use Rattle.std.specs.Prelude.{◌==◌, if◌then◌else◌}
use Rattle.byteorder.specs.Endian.{little_bytes}
use Rattle.vt_types.specs.declared.device.Dev.{Dev}
use Rattle.vt_types.specs.declared.operation.Field.{Field}
use Rattle.vt_types.specs.declared.operation.Field.TheVariants.{Capacity, SegMax, BlkSize, Writeback, Mac, NetStatus, Cols, Rows, Ports, Emerg}
use Rattle.vt_types.specs.declared.reply.Why.{Why}
use Rattle.vt_types.specs.Events.{MOST_EVENTS}
use Rattle.vt_types.specs.Operation.{Operation, Probe, Reset, Features, GetStatus, Accept, SetStatus, SetQueue, Post, Notify, Reap, Arm, Disarm, ReadConfig, WriteConfig, IrqQueues, IrqConfig, device_of}
use Rattle.vt_types.specs.Program.{Program, End, and_then, CountsAtMost}
use Rattle.vt_types.specs.Reply.{Good}
use Rattle.vt_types.proofs.BoundLaws.{counts_and_then, counts_either, counts_more}
use Rattle.report_text.specs.Access.{longest_access_line}
use Rattle.report_text.specs.Text.{LINE_SPARE, SHORT_LINE}
use Rattle.vt_layout.specs.declared.register.MmioRegister.TheVariants.{ConfigGeneration}
use Rattle.vt_layout.specs.declared.fields.ConfigPart.{ConfigPart}
use Rattle.vt_layout.specs.Fields.{field_parts}
use Rattle.vq_common.specs.Queue.{DriverQueue, post_program}
use Rattle.vq_split_drv.specs.Post.{split_post_accesses, split_posted}
use Rattle.vq_split_drv.specs.Reap.{split_reap_program, split_signals_program}
use Rattle.by_device.specs.ByDevice.{of}
use Rattle.drv_core.specs.Driver.{DriverRecord, Ended, driver_queue, known_of, with_driver_queue}
use Rattle.drv_core.specs.Lowering.{on_queue, post_reply, queue_program, reap_reply, signals_lowering, unless_refused}
use Rattle.state_table.specs.Refusal.{refusal_of}
use Rattle.drv_mmio.specs.Lowering.{allowed_lowering, config_round, load, load_parts, mmio_lowering, number_of, readcfg_lowering, store_parts, value_read}
use Rattle.mmio_simulation.proofs.BoundedQueues.{post_is_short, reap_is_short, signals_are_short}
use Rattle.interleaving.specs.Asked.{IsAsked}
use Rattle.vt_machine.specs.Lines.{LONGEST_TRACE}

-- the lines of a program's accesses are not too long
abbrev IsShort : Program Ended → Type 0
IsShort program = CountsAtMost longest_access_line program LONGEST_TRACE

-- the parts of a field are loaded, and then a program runs
parts_count : (dev : Dev) (parts : List ConfigPart) (next : List ℕ → Program Ended) (more : ℕ) → ((bytes : List ℕ) → CountsAtMost longest_access_line (next bytes) more)
    → CountsAtMost longest_access_line (load_parts dev parts next) (SHORT_LINE * length parts + more)
parts_count dev [] next more after = counts_more longest_access_line (next []) more (SHORT_LINE * 0 + more) (after []) (omega arith)
parts_count dev (p ∷ ps) next more after = (
  omega arith,
  λ answer _.
      let others : List ℕ → Program Ended = λ bytes. next (little_bytes p.width (number_of p.width answer) ++ bytes) in
      counts_more longest_access_line (load_parts dev ps others) (SHORT_LINE * length ps + more) (SHORT_LINE * length (p ∷ ps) + more - SHORT_LINE)
      (parts_count dev ps others more (λ bytes. after (little_bytes p.width (number_of p.width answer) ++ bytes)))
      (omega arith),
)

-- a field has at most so many parts
few_parts : (field : Field) → length (field_parts field) ≤ 6
few_parts Capacity = omega arith
few_parts SegMax = omega arith
few_parts BlkSize = omega arith
few_parts Writeback = omega arith
few_parts Mac = omega arith
few_parts NetStatus = omega arith
few_parts Cols = omega arith
few_parts Rows = omega arith
few_parts Ports = omega arith
few_parts Emerg = omega arith

-- a round of a field is made, of 8 loads at most, and then a program runs
round_counts : (dev : Dev) (field : Field) (next : ℕ → List ℕ → ℕ → Program Ended) (more : ℕ)
    → ((before : ℕ) (bytes : List ℕ) (after : ℕ) → CountsAtMost longest_access_line (next before bytes after) more)
    → CountsAtMost longest_access_line (config_round dev field next) (8 * SHORT_LINE + more)
round_counts dev field next more then_more = (
  omega arith,
  λ first _.
      let last : List ℕ → Program Ended = λ bytes. load dev ConfigGeneration (λ after. next (number_of 4 first) bytes after) in
      counts_more longest_access_line (load_parts dev (field_parts field) last) (SHORT_LINE * length (field_parts field) + (SHORT_LINE + more)) (8 * SHORT_LINE + more - SHORT_LINE)
      (parts_count dev (field_parts field) last (SHORT_LINE + more)
      (λ bytes. (
        omega arith,
        λ second _. counts_more longest_access_line (next (number_of 4 first) bytes (number_of 4 second)) more (SHORT_LINE + more - SHORT_LINE) (then_more (number_of 4 first) bytes (number_of 4 second)) (omega arith),
      )))
      (omega (arith, few_parts field)),
)

-- a field is read in one round more than there are repeats
rounds_count : (known : DriverRecord) (dev : Dev) (field : Field) (repeats : ℕ)
    → CountsAtMost longest_access_line (readcfg_lowering known dev field repeats) (8 * SHORT_LINE * (repeats + 1))
rounds_count known dev field zero = round_counts dev field (λ before bytes after. value_read known bytes) 0 (λ before bytes after. tt)
rounds_count known dev field (suc repeats) =
    let more : ℕ = 8 * SHORT_LINE * (repeats + 1) in
    let next : ℕ → List ℕ → ℕ → Program Ended = λ before bytes after. if before == after then value_read known bytes else readcfg_lowering known dev field repeats in
    counts_more longest_access_line (config_round dev field next) (8 * SHORT_LINE + more) (8 * SHORT_LINE * (suc repeats + 1))
    (round_counts dev field next more (λ before bytes after. counts_either longest_access_line (before == after) (value_read known bytes) (readcfg_lowering known dev field repeats) more tt (rounds_count known dev field repeats)))
    (omega arith)

-- a field is written by one store at most
store_is_short : (known : DriverRecord) (dev : Dev) (parts : List ConfigPart) (value : ℕ) → IsShort (store_parts known dev parts value)
store_is_short known dev [] value = tt
store_is_short known dev (p ∷ ps) value = (omega arith, λ _ _. tt)

-- what is done with a ring is short, whether the queue is set or not
ring_is_short : {X : Type 0} (known : DriverRecord) (dev : Dev) (n : ℕ) (program : DriverQueue → Program X) (next : DriverQueue → X → Ended) (most : ℕ) → most ≤ LONGEST_TRACE
    → ((q : DriverQueue) → CountsAtMost longest_access_line (program q) most) → IsShort (queue_program known dev n (λ q. and_then (program q) (λ x. End (next q x))))
ring_is_short known dev n program next most few short = either (driver_queue (of known dev) n)
  where
    either : (o : Option DriverQueue) → IsShort (on_queue known dev n (λ q. and_then (program q) (λ x. End (next q x))) o)
    either None = tt
    either (Some q) =
        counts_more longest_access_line (and_then (program q) (λ x. End (next q x))) (most + 0) LONGEST_TRACE (counts_and_then longest_access_line (program q) (λ x. End (next q x)) most 0 (short q) (λ x. tt))
        (omega (arith, few))

-- asking for signals, or for none
signals_short : (known : DriverRecord) (dev : Dev) (n : ℕ) (on : Bool) → IsShort (signals_lowering known dev n on)
signals_short known dev n on =
    ring_is_short known dev n (λ q. split_signals_program q on) (λ q q2. record { reply = Good; known = with_driver_queue known dev n q2 }) LINE_SPARE (omega arith) (λ q. signals_are_short q on)

-- an operation that is not refused
allowed_is_short : (op : Operation) (known : DriverRecord) (repeats : ℕ) → IsAsked op → repeats ≤ MOST_EVENTS + 1 → IsShort (allowed_lowering known op repeats)
allowed_is_short (Probe dev) known repeats asked few = search rules
allowed_is_short (Reset dev) known repeats asked few = search rules
allowed_is_short (Features dev) known repeats asked few = search rules
allowed_is_short (GetStatus dev) known repeats asked few = search rules
allowed_is_short (Accept dev features) known repeats asked few = search rules
allowed_is_short (SetStatus dev s) known repeats asked few = search rules
allowed_is_short (SetQueue dev n size) known repeats asked few = search rules
allowed_is_short (Post dev n b) known repeats asked few =
    ring_is_short known dev n (λ q. post_program split_post_accesses split_posted q b) (λ q p. record { reply = post_reply p.0; known = with_driver_queue known dev n p.1 }) (11 * LINE_SPARE) (omega arith)
    (λ q. post_is_short q b asked.within)
allowed_is_short (Notify dev n) known repeats asked few = search rules
allowed_is_short (Reap dev n) known repeats asked few =
    ring_is_short known dev n split_reap_program (λ q p. record { reply = reap_reply p.0; known = with_driver_queue known dev n p.1 }) (4 * LINE_SPARE) (omega arith) reap_is_short
allowed_is_short (Arm dev n) known repeats asked few = signals_short known dev n true
allowed_is_short (Disarm dev n) known repeats asked few = signals_short known dev n false
allowed_is_short (ReadConfig dev field) known repeats asked few =
    counts_more longest_access_line (readcfg_lowering known dev field repeats) (8 * SHORT_LINE * (repeats + 1)) LONGEST_TRACE (rounds_count known dev field repeats) (omega (arith, few))
allowed_is_short (WriteConfig dev field value) known repeats asked few = store_is_short known dev (field_parts field) value
allowed_is_short (IrqQueues dev) known repeats asked few = search rules
allowed_is_short (IrqConfig dev) known repeats asked few = search rules

unless_is_short : (known : DriverRecord) (refused : Option Why) (program : Program Ended) → IsShort program → IsShort (unless_refused known refused program)
unless_is_short known None program short = short
unless_is_short known (Some reason) program short = tt

-- any operation of a script
pub operation_is_short : (op : Operation) (known : DriverRecord) (repeats : ℕ) → IsAsked op → repeats ≤ MOST_EVENTS + 1 → CountsAtMost longest_access_line (mmio_lowering known op repeats) LONGEST_TRACE
operation_is_short op known repeats asked few =
    unless_is_short known (refusal_of (known_of (of known (device_of op))) op) (allowed_lowering known op repeats) (allowed_is_short op known repeats asked few)
