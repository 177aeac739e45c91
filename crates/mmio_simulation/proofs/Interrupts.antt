-- Asking for the signals: a bit that stands stays until this driver acknowledges it. Where it stands the store is the mark, else
-- the load.
use Rattle.std.proofs.Common.{◌≡◌, ℕ, ◌+◌, ◌%◌, ◌^◌, List, [], ◌∷◌, Bool, true, false, None, refl, ◌∙◌, ap}
use Rattle.std.specs.Prelude.{if◌then◌else◌}
use Rattle.vt_types.specs.declared.device.BusKind.TheVariants.{Mmio}
use Rattle.vt_types.specs.declared.device.Dev.TheVariants.{Con}
use Rattle.vt_types.specs.Operation.{IrqConfig, IrqQueues}
use Rattle.vt_types.specs.Program.{Program, Mark}
use Rattle.vt_types.specs.Reply.{ReplyValue}
use Rattle.vt_types.specs.Reply as reply
use Rattle.vt_layout.specs.Interrupts.{CONFIGURATION_CHANGE, USED_BUFFER}
use Rattle.vt_layout.specs.declared.register.MmioRegister.TheVariants.{InterruptAck, InterruptStatus}
use Rattle.dev_status.specs.Status.{has_bits}
use Rattle.abstract_devices.specs.World.{World}
use Rattle.abstract_devices.specs.Operate.{merge}
use Rattle.dev_core.specs.Bus.{Raw}
use Rattle.drv_core.specs.Driver.{DriverRecord, Ended, ends}
use Rattle.drv_mmio.specs.Lowering.{acknowledge, irq_config_lowering, irq_queues_lowering}
use Rattle.mmio_regs.specs.Page.{MmioRegisters, kept_bit}
use Rattle.interleaving.specs.Kept.{Kept}
use Rattle.interleaving.specs.Safe.{Ends, Safe}
use Rattle.interleaving.proofs.MarkRules.{safe_mark_as}
use Rattle.interleaving.proofs.ProgramRules.{safe_ended, safe_false, safe_true}
use Rattle.interleaving.proofs.RefusalRules.{refusal_by}
use Rattle.mmio_simulation.specs.Bus.{mmio}
use Rattle.mmio_simulation.specs.Related.{Related, bit_if, has_any}
use Rattle.mmio_simulation.proofs.EventsKeep.{related_kept}
use Rattle.mmio_simulation.proofs.EventSignals.{config_changed_stays, signalled_stays}
use Rattle.mmio_simulation.proofs.PartChanges.{device_kept}
use Rattle.mmio_simulation.proofs.RefusedAlike.{allowed_at}
use Rattle.mmio_simulation.proofs.Registers.{safe_load, safe_store}

-- InterruptStatus, by whether a queue signalled and whether the configuration did
abbrev status_word : Bool → Bool → ℕ
status_word used changed = bit_if used USED_BUFFER + bit_if changed CONFIGURATION_CHANGE

used_read : (used changed : Bool) → has_bits (status_word used changed % 2 ^ 32) USED_BUFFER ≡ used
used_read true true = refl
used_read true false = refl
used_read false true = refl
used_read false false = refl

change_read : (used changed : Bool) → has_bits (status_word used changed % 2 ^ 32) CONFIGURATION_CHANGE ≡ changed
change_read true true = refl
change_read true false = refl
change_read false true = refl
change_read false false = refl

-- what is left once a bit is acknowledged
abbrev left_of : ℕ → ℕ → ℕ
left_of bits word = kept_bit bits word USED_BUFFER + kept_bit bits word CONFIGURATION_CHANGE

used_taken : (used changed : Bool) → left_of USED_BUFFER (status_word used changed) ≡ status_word false changed
used_taken true true = refl
used_taken true false = refl
used_taken false true = refl
used_taken false false = refl

change_taken : (used changed : Bool) → left_of CONFIGURATION_CHANGE (status_word used changed) ≡ status_word used false
change_taken true true = refl
change_taken true false = refl
change_taken false true = refl
change_taken false false = refl

-- what the driver is told of the queues
any_told : (ns : List ℕ) → has_any ns ≡ true → merge Mmio ns ≡ reply.AnyQueue
any_told [] is = absurd (cc)
any_told (n ∷ ns) is = refl

none_told : (ns : List ℕ) → has_any ns ≡ false → merge Mmio ns ≡ reply.Signals []
none_told [] is = refl
none_told (n ∷ ns) is = absurd (cc)

-- the relation once signals were told: the status and the flags that are left
signals_told : {w : World} {raw : Raw MmioRegisters} {known : DriverRecord} (signalled : List ℕ) (changed : Bool) (status : ℕ) → status ≡ status_word (has_any signalled) changed → Related w raw known
    → Related (record w { devices = record w.devices { con = record w.devices.con { signalled = signalled; config_changed = changed } } })
    (record raw { registers = record raw.registers { con = record raw.registers.con { interrupt_status = status } } }) known
signals_told signalled changed status is h = record {
  device = device_kept h.device.generation h.device;
  queues = h.queues;
  count = h.count;
  contents = h.contents;
  signals = record { status = is; queues = h.signals.queues };
  memory = h.memory;
}

-- what is left of the two programs once the word is loaded
abbrev told_queues : DriverRecord → ℕ → Program Ended
told_queues known word = if has_bits word USED_BUFFER then acknowledge known Con USED_BUFFER reply.AnyQueue else Mark (ends (reply.Signals []) known)

abbrev told_change : DriverRecord → ℕ → Program Ended
told_change known word = if has_bits word CONFIGURATION_CHANGE then acknowledge known Con CONFIGURATION_CHANGE (reply.Config true) else Mark (ends (reply.Config false) known)

module _ (known : DriverRecord) where
  record UsedStands (w : World) (raw : Raw MmioRegisters) : Type 0 where
    related : Related w raw known
    stands : has_any w.devices.con.signalled ≡ true

  used_kept : Kept mmio UsedStands
  used_kept w raw e h = record { related = related_kept known w raw e h.related; stands = signalled_stays w e h.stands }

  record ChangeStands (w : World) (raw : Raw MmioRegisters) : Type 0 where
    related : Related w raw known
    stands : w.devices.con.config_changed ≡ true

  change_kept : Kept mmio ChangeStands
  change_kept w raw e h = record { related = related_kept known w raw e h.related; stands = config_changed_stays w e h.stands }

  pub irq_queues_safe : refusal_by known (IrqQueues Con) ≡ None → {n : ℕ} {w v : World} {answer : ReplyValue} {raw : Raw MmioRegisters} → Related w raw known
      → Safe mmio (IrqQueues Con) (Ends mmio Related) (irq_queues_lowering known Con) n w v answer raw
  irq_queues_safe allowed h =
      safe_load InterruptStatus (λ w raw. Related w raw known) (related_kept known) h
      (λ n w v raw h. by_bit h (has_any w.devices.con.signalled) refl (ap (λ (word : ℕ). has_bits (word % 2 ^ 32) USED_BUFFER) h.signals.status ∙ used_read (has_any w.devices.con.signalled) w.devices.con.config_changed))
    where
      by_bit : {n : ℕ} {w v : World} {answer : ReplyValue} {raw : Raw MmioRegisters} → Related w raw known → (used : Bool) → has_any w.devices.con.signalled ≡ used
          → has_bits (raw.registers.con.interrupt_status % 2 ^ 32) USED_BUFFER ≡ has_any w.devices.con.signalled
          → Safe mmio (IrqQueues Con) (Ends mmio Related) (told_queues known (raw.registers.con.interrupt_status % 2 ^ 32)) n w v answer raw
      by_bit h true is seen =
          safe_true _ (seen ∙ is)
          (safe_store InterruptAck USED_BUFFER UsedStands used_kept (record { related = h; stands = is })
          (λ n w v raw h.
          safe_mark_as (allowed_at (IrqQueues Con) refl h.related allowed)
          (safe_ended (related_kept known) (any_told w.devices.con.signalled h.stands)
          (signals_told [] w.devices.con.config_changed (left_of USED_BUFFER raw.registers.con.interrupt_status)
          (ap (left_of USED_BUFFER) h.related.signals.status ∙ used_taken (has_any w.devices.con.signalled) w.devices.con.config_changed) h.related))))
      by_bit {w = w} {raw = raw} h false is seen =
          safe_false _ (seen ∙ is)
          (safe_mark_as (allowed_at (IrqQueues Con) refl h allowed)
          (safe_ended (related_kept known) (none_told w.devices.con.signalled is)
          (signals_told [] w.devices.con.config_changed raw.registers.con.interrupt_status
          (h.signals.status ∙ ap (λ (used : Bool). status_word used w.devices.con.config_changed) is) h)))

  pub irq_config_safe : refusal_by known (IrqConfig Con) ≡ None → {n : ℕ} {w v : World} {answer : ReplyValue} {raw : Raw MmioRegisters} → Related w raw known
      → Safe mmio (IrqConfig Con) (Ends mmio Related) (irq_config_lowering known Con) n w v answer raw
  irq_config_safe allowed h =
      safe_load InterruptStatus (λ w raw. Related w raw known) (related_kept known) h
      (λ n w v raw h. by_bit h w.devices.con.config_changed refl (ap (λ (word : ℕ). has_bits (word % 2 ^ 32) CONFIGURATION_CHANGE) h.signals.status ∙ change_read (has_any w.devices.con.signalled) w.devices.con.config_changed))
    where
      by_bit : {n : ℕ} {w v : World} {answer : ReplyValue} {raw : Raw MmioRegisters} → Related w raw known → (changed : Bool) → w.devices.con.config_changed ≡ changed
          → has_bits (raw.registers.con.interrupt_status % 2 ^ 32) CONFIGURATION_CHANGE ≡ w.devices.con.config_changed
          → Safe mmio (IrqConfig Con) (Ends mmio Related) (told_change known (raw.registers.con.interrupt_status % 2 ^ 32)) n w v answer raw
      by_bit h true is seen =
          safe_true _ (seen ∙ is)
          (safe_store InterruptAck CONFIGURATION_CHANGE ChangeStands change_kept (record { related = h; stands = is })
          (λ n w v raw h.
          safe_mark_as (allowed_at (IrqConfig Con) refl h.related allowed)
          (safe_ended (related_kept known) (ap reply.Config h.stands)
          (signals_told w.devices.con.signalled false (left_of CONFIGURATION_CHANGE raw.registers.con.interrupt_status)
          (ap (left_of CONFIGURATION_CHANGE) h.related.signals.status ∙ change_taken (has_any w.devices.con.signalled) w.devices.con.config_changed) h.related))))
      by_bit {w = w} {raw = raw} h false is seen =
          safe_false _ (seen ∙ is)
          (safe_mark_as (allowed_at (IrqConfig Con) refl h allowed)
          (safe_ended (related_kept known) (ap reply.Config is)
          (signals_told w.devices.con.signalled false raw.registers.con.interrupt_status
          (h.signals.status ∙ ap (status_word (has_any w.devices.con.signalled)) is) h)))
