-- Reading and writing the configuration of the console. A read goes by rounds: each change of the generation is an event, so that
-- one repeat more than events may come is enough; the last load of the generation is the mark.
use Rattle.std.proofs.Common.{◌≡◌, ◌≢◌, ℕ, zero, suc, ◌+◌, ◌*◌, ◌/◌, ◌%◌, ◌^◌, ◌<◌, ◌≤◌, ◌==◌, not, List, [], ◌∷◌, ◌++◌, Bool, true, false, None, refl, sym, ◌∙◌, ap, arith}
use Rattle.std.specs.Prelude.{nat_lt, if◌then◌else◌}
use Rattle.std.proofs.lemmas.Bool.{eqb-true, ltb-false, not-false}
use Rattle.std.proofs.lemmas.Bool.Decides.{nat_tests}
use Rattle.byteorder.specs.Endian.{little_bytes, little_number}
use Rattle.vt_types.specs.declared.access.Answer.{Answer}
use Rattle.vt_types.specs.declared.access.Answer.TheVariants.{Word}
use Rattle.vt_types.specs.declared.device.Dev.TheVariants.{Con}
use Rattle.vt_types.specs.declared.operation.Field.{Field}
use Rattle.vt_types.specs.declared.operation.Field.TheVariants.{Capacity, SegMax, BlkSize, Writeback, Mac, NetStatus, Cols, Rows, Ports, Emerg}
use Rattle.vt_types.specs.declared.reply.Why.TheVariants as why
use Rattle.vt_types.specs.Access.{Load}
use Rattle.vt_types.specs.Operation.{ReadConfig, WriteConfig, device_of_field}
use Rattle.vt_types.specs.Program.{Program}
use Rattle.vt_types.specs.Reply.{ReplyValue}
use Rattle.vt_types.specs.Reply as reply
use Rattle.vt_layout.specs.declared.register.MmioRegister.TheVariants.{ConfigGeneration}
use Rattle.vt_layout.specs.declared.fields.ConfigPart.{ConfigPart}
use Rattle.vt_layout.specs.Fields.{field_parts}
use Rattle.vt_layout.specs.Mmio.{config_address}
use Rattle.state_table.specs.Refusal.{greatest_value, is_writable}
use Rattle.abstract_devices.specs.World.{World}
use Rattle.abstract_devices.specs.Operate.{field_bytes, happen, write_field}
use Rattle.dev_core.specs.Bus.{Raw, raw_access, raw_event}
use Rattle.device_contents.specs.Contents.{Contents, with_console, with_emergency}
use Rattle.dev_core.specs.Config.{bytes_at, console_configuration}
use Rattle.dev_core.specs.Devices.{Devices}
use Rattle.drv_core.specs.Driver.{DriverRecord, Ended, known_of}
use Rattle.drv_mmio.specs.Lowering.{config_round, load_parts, load, number_of, readcfg_lowering, value_read, writecfg_lowering}
use Rattle.mmio_regs.specs.MmioTable.{mmio_table}
use Rattle.mmio_regs.specs.Page.{MmioRegisters}
use Rattle.interleaving.specs.Kept.{KeptWhole}
use Rattle.interleaving.specs.Safe.{Ends, Safe}
use Rattle.interleaving.proofs.AccessRules.{safe_access, safe_before}
use Rattle.interleaving.proofs.MarkRules.{safe_mark_as}
use Rattle.interleaving.proofs.MemoryRules.{safe_onward}
use Rattle.interleaving.proofs.ProgramRules.{safe_as, safe_ended, safe_false, safe_true}
use Rattle.interleaving.proofs.RefusalRules.{refusal_by}
use Rattle.mmio_simulation.specs.Bus.{mmio}
use Rattle.mmio_simulation.specs.Related.{Related}
use Rattle.mmio_simulation.proofs.EventRegisters.{ConfigurationAfter, KeepsConfiguration, Moved, Still, event_configuration}
use Rattle.mmio_simulation.proofs.EventsKeep.{related_kept}
use Rattle.mmio_simulation.proofs.RefusedAlike.{allowed_at}
use Rattle.mmio_simulation.proofs.Registers.{safe_load_knowing}
use Rattle.mmio_simulation.proofs.NoneHolds.{none_holds}

-- the number that a load of a part gives, and its bytes as they are read, by the console's size
abbrev config_number : ConfigPart → ℕ → ℕ → ℕ
config_number p cols rows = if p.off % p.width == 0 then little_number p.width (bytes_at (console_configuration cols rows) p.off p.width) else 0

abbrev part_read : ConfigPart → ℕ → ℕ → List ℕ
part_read p cols rows = little_bytes p.width (number_of p.width (Word (config_number p cols rows))) ++ []

abbrev with_number : Raw MmioRegisters → ℕ → Answer × List ℕ × Raw MmioRegisters
with_number raw x = (Word x, [], raw)

-- a field of the console is one part, whose bytes are those of the field
record IsPart (field : Field) (p : ConfigPart) : Type 0 where
  parts : field_parts field ≡ p ∷ []
  loads : (raw : Raw MmioRegisters) → raw_access mmio_table (Load (config_address Con p.off) p.width) raw ≡ with_number raw (config_number p raw.devices.contents.console.cols raw.devices.contents.console.rows)
  reads : (w : World) → part_read p w.contents.console.cols w.contents.console.rows ≡ field_bytes w field

two_bytes : (a b : ℕ) → a < 256 → b < 256 → little_bytes 2 ((a + 256 * (b + 256 * 0)) % 2 ^ 16) ≡ a ∷ b ∷ []
two_bytes a b low high =
    let first : (a + 256 * (b + 256 * 0)) % 2 ^ 16 % 256 ≡ a = omega (arith, low, high) in
    let second : (a + 256 * (b + 256 * 0)) % 2 ^ 16 / 256 % 256 ≡ b = omega (arith, low, high) in
    ap (λ (x : ℕ). x ∷ (a + 256 * (b + 256 * 0)) % 2 ^ 16 / 256 % 256 ∷ []) first ∙ ap (λ (y : ℕ). a ∷ y ∷ []) second

size_read : (n : ℕ) → little_bytes 2 ((n % 256 + 256 * (n / 256 % 256 + 256 * 0)) % 2 ^ 16) ≡ little_bytes 2 n
size_read n = two_bytes (n % 256) (n / 256 % 256) (omega arith) (omega arith)

part_of : (field : Field) → device_of_field field ≡ Con → (p : ConfigPart) × IsPart field p
part_of Cols is = (record { off = 0; width = 2 }, record { parts = refl; loads = λ raw. refl; reads = λ w. size_read w.contents.console.cols })
part_of Rows is = (record { off = 2; width = 2 }, record { parts = refl; loads = λ raw. refl; reads = λ w. size_read w.contents.console.rows })
part_of Ports is = (record { off = 4; width = 4 }, record { parts = refl; loads = λ raw. refl; reads = λ w. refl })
part_of Emerg is = (record { off = 8; width = 4 }, record { parts = refl; loads = λ raw. refl; reads = λ w. refl })
part_of Capacity is = absurd (cc)
part_of SegMax is = absurd (cc)
part_of BlkSize is = absurd (cc)
part_of Writeback is = absurd (cc)
part_of Mac is = absurd (cc)
part_of NetStatus is = absurd (cc)

-- what is read of a part while the console is so large
abbrev Reads : ConfigPart → List ℕ → Devices → Type 0
Reads p bytes s = part_read p s.contents.console.cols s.contents.console.rows ≡ bytes

reads_still : (p : ConfigPart) (bytes : List ℕ) (s s2 : Devices) → KeepsConfiguration s s2 → Reads p bytes s → Reads p bytes s2
reads_still p bytes s s2 same is = ap (λ (cols : ℕ). part_read p cols s2.contents.console.rows) same.cols ∙ ap (part_read p s.contents.console.cols) same.rows ∙ is

module _ (known : DriverRecord) where
  -- since the generation was g it changed so many times, each by an event; as long as it did not, something holds of the devices
  record Since (repeats g : ℕ) (same : Devices → Type 0) (n : ℕ) (w v : World) (raw : Raw MmioRegisters) : Type 0 where
    related : Related w raw known
    changes : ℕ
    few : changes + n ≤ repeats
    generation : raw.devices.con.generation ≡ (g + changes) % 2 ^ 32
    low : g < 2 ^ 32
    holds : changes ≡ 0 → same raw.devices

  -- at the beginning of a round
  record Begun (repeats n : ℕ) (w v : World) (raw : Raw MmioRegisters) : Type 0 where
    related : Related w raw known
    few : n ≤ repeats

  begun_kept : (repeats : ℕ) → KeptWhole mmio (Begun repeats)
  begun_kept repeats n w v raw e h = let few = h.few in record { related = related_kept known w raw e h.related; few = omega (arith, few) }

  since_kept : (repeats g : ℕ) (same : Devices → Type 0) → ((s s2 : Devices) → KeepsConfiguration s s2 → same s → same s2) → KeptWhole mmio (Since repeats g same)
  since_kept repeats g same still n w v raw e h = after (event_configuration raw e)
    where
      after : ConfigurationAfter raw.devices (raw_event mmio_table raw e).devices → Since repeats g same n (happen w e) (happen v e) (raw_event mmio_table raw e)
      after (Still keeps) =
          let few = h.few in
          record {
            related = related_kept known w raw e h.related;
            changes = h.changes;
            few = omega (arith, few);
            generation = keeps.generation ∙ h.generation;
            low = h.low;
            holds = λ none. still raw.devices (raw_event mmio_table raw e).devices keeps (h.holds none);
          }
      after (Moved next) =
          let few = h.few in
          let before = h.generation in
          record {
            related = related_kept known w raw e h.related;
            changes = h.changes + 1;
            few = omega (arith, few);
            generation = omega (arith, next, before);
            low = h.low;
            holds = λ none. absurd (omega (arith, none));
          }

  abbrev nothing : Devices → Type 0
  nothing s = Unit {0}

  -- the first load of a round
  first_load : {repeats n : ℕ} {w v : World} {raw : Raw MmioRegisters} → Begun repeats n w v raw → Since repeats (raw.devices.con.generation % 2 ^ 32) nothing n w v raw
  first_load {raw = raw} h =
      let few = h.few in
      let low : raw.devices.con.generation < 2 ^ 32 = h.related.device.generation in
      record { related = h.related; changes = 0; few = omega (arith, few); generation = omega (arith, low); low = omega arith; holds = λ none. tt }

  -- the load of the part
  part_load : {repeats g n : ℕ} {w v : World} {raw : Raw MmioRegisters} (p : ConfigPart) → Since repeats g nothing n w v raw
      → Since repeats g (Reads p (part_read p raw.devices.contents.console.cols raw.devices.contents.console.rows)) n w v raw
  part_load p h = record { related = h.related; changes = h.changes; few = h.few; generation = h.generation; low = h.low; holds = λ none. refl }

  module _ (field : Field) (p : ConfigPart) (part : IsPart field p) where
    abbrev SafeFrom : Program Ended → ℕ → World → World → ReplyValue → Raw MmioRegisters → Type 0
    SafeFrom program n w v answer raw = Safe mmio (ReadConfig Con field) (Ends mmio Related) program n w v answer raw

    -- a round, and what follows its last load
    round_safe : (repeats : ℕ) (next : ℕ → List ℕ → ℕ → Program Ended) {n : ℕ} {w v : World} {answer : ReplyValue} {raw : Raw MmioRegisters} → Begun repeats n w v raw
        → ((g : ℕ) (bytes : List ℕ) (n : ℕ) (w v : World) (raw : Raw MmioRegisters) → Since repeats g (Reads p bytes) n w v raw
        → SafeFrom (next g bytes (raw.devices.con.generation % 2 ^ 32)) n w v answer raw)
        → SafeFrom (config_round Con field next) n w v answer raw
    round_safe repeats next h onward =
        safe_load_knowing ConfigGeneration (Begun repeats) (begun_kept repeats) h
        (λ n w v raw h.
        let g : ℕ = raw.devices.con.generation % 2 ^ 32 in
        safe_as (ap (λ (parts : List ConfigPart). load_parts Con parts (λ bytes. load Con ConfigGeneration (λ after. next g bytes after))) part.parts)
        (safe_access (Since repeats g nothing) (since_kept repeats g nothing (λ s s2 same is. tt)) (first_load h)
        (λ n w v raw h.
        let bytes : List ℕ = part_read p raw.devices.contents.console.cols raw.devices.contents.console.rows in
        safe_onward (Load (config_address Con p.off) p.width)
        (λ a _. load Con ConfigGeneration (λ after. next g (little_bytes p.width (number_of p.width a) ++ []) after)) raw (part.loads raw)
        (safe_load_knowing ConfigGeneration (Since repeats g (Reads p bytes)) (since_kept repeats g (Reads p bytes) (reads_still p bytes)) (part_load p h)
        (λ n w v raw h. onward g bytes n w v raw h)))))

    -- what was read is what stands, unless the generation changed
    value_safe : refusal_by known (ReadConfig Con field) ≡ None → (bytes : List ℕ) {n : ℕ} {w v : World} {answer : ReplyValue} {raw : Raw MmioRegisters} → Related w raw known → Reads p bytes raw.devices
        → SafeFrom (value_read known bytes) n w v answer raw
    value_safe allowed bytes {w = w} {raw = raw} h is =
        let same : field_bytes w field ≡ bytes
        = sym (part.reads w) ∙ sym (ap (λ (c : Contents). part_read p c.console.cols c.console.rows) h.contents) ∙ is
        in
        safe_mark_as (allowed_at (ReadConfig Con field) refl h allowed) (safe_ended (related_kept known) (ap reply.Value same) h)

    -- a round ends where the generation is the same, since no event changed it; else an event came, and fewer repeats are enough
    judged : refusal_by known (ReadConfig Con field) ≡ None → (repeats g : ℕ) (bytes : List ℕ) {n : ℕ} {w v : World} {answer : ReplyValue} {raw : Raw MmioRegisters} → suc repeats < 2 ^ 32
        → Since (suc repeats) g (Reads p bytes) n w v raw → (more : Program Ended) → (Begun repeats n w v raw → SafeFrom more n w v answer raw)
        → (ended : Bool) → (g == raw.devices.con.generation % 2 ^ 32) ≡ ended
        → SafeFrom (if g == raw.devices.con.generation % 2 ^ 32 then value_read known bytes else more) n w v answer raw
    judged allowed repeats g bytes {raw = raw} bound h more again true test =
        let few = h.few in
        let low = h.low in
        let generation = h.generation in
        let same : g ≡ raw.devices.con.generation % 2 ^ 32 = eqb-true g (raw.devices.con.generation % 2 ^ 32) test in
        let none : h.changes ≡ 0 = omega (arith, few, low, generation, same, bound) in
        safe_true more test (value_safe allowed bytes h.related (h.holds none))
    judged allowed repeats g bytes {n = n} {raw = raw} bound h more again false test =
        let few = h.few in
        let low = h.low in
        let generation = h.generation in
        let other : g ≢ raw.devices.con.generation % 2 ^ 32 = λ e. grind (arith, nat_tests, test, e) in
        let fewer : n ≤ repeats = omega (arith, few, low, generation, other) in
        safe_false (value_read known bytes) test (again (record { related = h.related; few = fewer }))

    -- as many repeats as events are enough
    rounds_safe : refusal_by known (ReadConfig Con field) ≡ None → (repeats : ℕ) {n : ℕ} {w v : World} {answer : ReplyValue} {raw : Raw MmioRegisters} → repeats < 2 ^ 32 → Begun repeats n w v raw
        → SafeFrom (readcfg_lowering known Con field repeats) n w v answer raw
    rounds_safe allowed zero bound h =
        round_safe zero (λ before bytes after. value_read known bytes) h
        (λ g bytes n w v raw h. let few = h.few in let none : h.changes ≡ 0 = omega (arith, few) in value_safe allowed bytes h.related (h.holds none))
    rounds_safe allowed (suc repeats) bound h =
        let shorter : repeats < 2 ^ 32 = omega (arith, bound) in
        round_safe (suc repeats) (λ before bytes after. if before == after then value_read known bytes else readcfg_lowering known Con field repeats) h
        (λ g bytes n w v raw h.
        judged allowed repeats g bytes bound h (readcfg_lowering known Con field repeats) (λ begun. rounds_safe allowed repeats shorter begun) (g == raw.devices.con.generation % 2 ^ 32) refl)

-- one repeat more than events may come is enough
pub readcfg_safe : (known : DriverRecord) (field : Field) → device_of_field field ≡ Con → refusal_by known (ReadConfig Con field) ≡ None
    → (repeats : ℕ) {n : ℕ} {w v : World} {answer : ReplyValue} {raw : Raw MmioRegisters} → n ≤ repeats → repeats < 2 ^ 32 → Related w raw known
    → Safe mmio (ReadConfig Con field) (Ends mmio Related) (readcfg_lowering known Con field repeats) n w v answer raw
readcfg_safe known field of_console allowed repeats enough bound h =
    let (p, part) = part_of field of_console in rounds_safe known field p part allowed repeats bound (record { related = h; few = enough })

-- a write: its one store is the mark

-- the raw machine with another byte on the console
abbrev with_byte : Raw MmioRegisters → ℕ → Raw MmioRegisters
with_byte raw byte = record raw { devices = record raw.devices { contents = with_console (with_emergency byte) raw.devices.contents } }

byte_written : {w : World} {raw : Raw MmioRegisters} {known : DriverRecord} (value : ℕ) → value ≤ 255 → Related w raw known → Related (write_field w Emerg value) (with_byte raw (value % 256)) known
byte_written {w = w} value small h = record {
  device = h.device;
  queues = h.queues;
  count = h.count;
  contents =
      let byte : value % 256 ≡ value = omega (arith, small) in
      ap (with_console (with_emergency (value % 256))) h.contents
      ∙ ap (λ (byte : ℕ). with_console (with_emergency byte) w.contents) byte;
  signals = h.signals;
  memory = h.memory;
}

-- what the tests say: a field that can be written, and a value of it
record MayWrite (known : DriverRecord) (field : Field) (value : ℕ) : Type 0 where
  small : value ≤ greatest_value field
  writable : is_writable (known_of known.con) field ≡ true

may_write : (known : DriverRecord) (field : Field) (value : ℕ) → refusal_by known (WriteConfig Con field value) ≡ None → MayWrite known field value
may_write known field value allowed =
    let k = known_of known.con in
    let (ready, (range, (mode, end))) = none_holds ((not k.reset_since, why.State) ∷ (nat_lt (greatest_value field) value, why.Range) ∷ (not (is_writable k field), why.Mode) ∷ []) allowed in
    record { small = ltb-false (greatest_value field) value range; writable = not-false (is_writable k field) mode }

module _ (known : DriverRecord) (value : ℕ) where
  write_safe : (field : Field) → MayWrite known field value → refusal_by known (WriteConfig Con field value) ≡ None
      → {n : ℕ} {w v : World} {answer : ReplyValue} {raw : Raw MmioRegisters} → Related w raw known
      → Safe mmio (WriteConfig Con field value) (Ends mmio Related) (writecfg_lowering known Con field value) n w v answer raw
  write_safe Emerg may allowed h =
      safe_before (λ w raw. Related w raw known) (related_kept known) h
      (λ n w v raw h. safe_mark_as (allowed_at (WriteConfig Con Emerg value) refl h allowed) (safe_ended (related_kept known) refl (byte_written value may.small h)))
  write_safe Writeback may allowed h =
      safe_before (λ w raw. Related w raw known) (related_kept known) h
      (λ n w v raw h. safe_mark_as (allowed_at (WriteConfig Con Writeback value) refl h allowed) (safe_ended (related_kept known) refl h))
  write_safe Capacity may allowed h = let none = may.writable in absurd (cc)
  write_safe SegMax may allowed h = let none = may.writable in absurd (cc)
  write_safe BlkSize may allowed h = let none = may.writable in absurd (cc)
  write_safe Mac may allowed h = let none = may.writable in absurd (cc)
  write_safe NetStatus may allowed h = let none = may.writable in absurd (cc)
  write_safe Cols may allowed h = let none = may.writable in absurd (cc)
  write_safe Rows may allowed h = let none = may.writable in absurd (cc)
  write_safe Ports may allowed h = let none = may.writable in absurd (cc)

pub writecfg_safe : (known : DriverRecord) (field : Field) (value : ℕ) → refusal_by known (WriteConfig Con field value) ≡ None
    → {n : ℕ} {w v : World} {answer : ReplyValue} {raw : Raw MmioRegisters} → Related w raw known
    → Safe mmio (WriteConfig Con field value) (Ends mmio Related) (writecfg_lowering known Con field value) n w v answer raw
writecfg_safe known field value allowed h = write_safe known value field (may_write known field value allowed) allowed h
