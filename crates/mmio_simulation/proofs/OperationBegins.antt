-- Every operation that a script asks for begins safe, whether it is refused or not.
use Rattle.std.proofs.Common.{◌≡◌, ℕ, ◌≤◌, ◌<◌, ◌^◌, None, IsTrue, refl, sym, ◌∙◌, subst}
use Rattle.std.proofs.lemmas.Bool.{false≢true}
use Rattle.vt_types.specs.declared.device.BusKind.TheVariants.{Mmio}
use Rattle.vt_types.specs.declared.device.Dev.{Dev}
use Rattle.vt_types.specs.declared.device.Dev.TheVariants.{Blk, Net, Con}
use Rattle.vt_types.specs.Operation.{Operation, Probe, Reset, Features, GetStatus, Accept, SetStatus, SetQueue, Post, Notify, Reap, Arm, Disarm, ReadConfig, WriteConfig, IrqQueues, IrqConfig, device_of}
use Rattle.abstract_devices.specs.World.{World}
use Rattle.abstract_devices.specs.Operate.{operate, operate_allowed}
use Rattle.dev_core.specs.Bus.{Raw}
use Rattle.dev_core.specs.There.{is_there}
use Rattle.drv_core.specs.Driver.{DriverRecord}
use Rattle.drv_mmio.specs.Lowering.{allowed_lowering, mmio_lowering}
use Rattle.mmio_regs.specs.Page.{MmioRegisters}
use Rattle.interleaving.specs.Asked.{IsAsked}
use Rattle.interleaving.specs.InProgress.{InProgress}
use Rattle.interleaving.specs.Safe.{Ends, Safe}
use Rattle.interleaving.proofs.RefusalRules.{refusal_by}
use Rattle.mmio_simulation.specs.Bus.{mmio}
use Rattle.mmio_simulation.specs.Related.{Related}
use Rattle.mmio_simulation.proofs.ArmSafe.{arm_safe, disarm_safe}
use Rattle.mmio_simulation.proofs.Configuration.{readcfg_safe, writecfg_safe}
use Rattle.mmio_simulation.proofs.EventsKeep.{related_kept}
use Rattle.mmio_simulation.proofs.FeatureOperations.{accept_safe, features_safe}
use Rattle.mmio_simulation.proofs.Interrupts.{irq_config_safe, irq_queues_safe}
use Rattle.mmio_simulation.proofs.Notify.{notify_safe}
use Rattle.mmio_simulation.proofs.PostSafe.{post_safe}
use Rattle.mmio_simulation.proofs.ReapSafe.{reap_safe}
use Rattle.mmio_simulation.proofs.RefusedAlike.{begins}
use Rattle.mmio_simulation.proofs.SetQueue.{set_queue_safe}
use Rattle.mmio_simulation.proofs.StatusOperations.{getstatus_safe, probe_safe, reset_safe, status_safe}

-- the device that is there
the_console : (dev : Dev) → IsTrue (is_there dev) → Con ≡ dev
the_console Con there = refl
the_console Blk there = absurd (false≢true there)
the_console Net there = absurd (false≢true there)

module _ (known : DriverRecord) (n repeats : ℕ) (w : World) (raw : Raw MmioRegisters) (r : Related w raw known) where
  abbrev Begins : Operation → Type 0
  Begins op = InProgress mmio Related op (mmio_lowering known op repeats) n w (operate Mmio w op) raw

  -- an operation on it begins safe where its accesses, if it is not refused, are
  on_console : (op : Dev → Operation) (dev : Dev) → IsTrue (is_there dev) → device_of (op Con) ≡ Con
      → (refusal_by known (op Con) ≡ None
      → Safe mmio (op Con) (Ends mmio Related) (allowed_lowering known (op Con) repeats) n w (operate_allowed Mmio w (op Con)).world (operate_allowed Mmio w (op Con)).reply raw)
      → Begins (op dev)
  on_console op dev there on next = subst (λ (d : Dev). Begins (op d)) (the_console dev there) (begins (op Con) on r (related_kept known) repeats next)

-- with n events that may come, and no fewer repeats
pub operation_begins : (op : Operation) (known : DriverRecord) (n repeats : ℕ) (w : World) (raw : Raw MmioRegisters) → IsAsked op → n ≤ repeats → repeats < 2 ^ 32 → Related w raw known
    → InProgress mmio Related op (mmio_lowering known op repeats) n w (operate Mmio w op) raw
operation_begins (Probe dev) known n repeats w raw asked enough few r = on_console known n repeats w raw r (λ d. Probe d) dev asked.there refl (λ allowed. probe_safe known allowed r)
operation_begins (Reset dev) known n repeats w raw asked enough few r = on_console known n repeats w raw r (λ d. Reset d) dev asked.there refl (λ allowed. reset_safe known allowed r)
operation_begins (Features dev) known n repeats w raw asked enough few r = on_console known n repeats w raw r (λ d. Features d) dev asked.there refl (λ allowed. features_safe known allowed r)
operation_begins (GetStatus dev) known n repeats w raw asked enough few r = on_console known n repeats w raw r (λ d. GetStatus d) dev asked.there refl (λ allowed. getstatus_safe known allowed r)
operation_begins (Accept dev features) known n repeats w raw asked enough few r = on_console known n repeats w raw r (λ d. Accept d features) dev asked.there refl (λ allowed. accept_safe known features allowed r)
operation_begins (SetStatus dev s) known n repeats w raw asked enough few r = on_console known n repeats w raw r (λ d. SetStatus d s) dev asked.there refl (λ allowed. status_safe known s allowed r)
operation_begins (SetQueue dev queue size) known n repeats w raw asked enough few r = on_console known n repeats w raw r (λ d. SetQueue d queue size) dev asked.there refl (λ allowed. set_queue_safe known queue size allowed r)
operation_begins (Post dev queue b) known n repeats w raw asked enough few r = on_console known n repeats w raw r (λ d. Post d queue b) dev asked.there refl (λ allowed. post_safe known queue b asked.within allowed r)
operation_begins (Notify dev queue) known n repeats w raw asked enough few r = on_console known n repeats w raw r (λ d. Notify d queue) dev asked.there refl (λ allowed. notify_safe known queue allowed r)
operation_begins (Reap dev queue) known n repeats w raw asked enough few r = on_console known n repeats w raw r (λ d. Reap d queue) dev asked.there refl (λ allowed. reap_safe known queue allowed r)
operation_begins (Arm dev queue) known n repeats w raw asked enough few r = on_console known n repeats w raw r (λ d. Arm d queue) dev asked.there refl (λ allowed. arm_safe known queue allowed r)
operation_begins (Disarm dev queue) known n repeats w raw asked enough few r = on_console known n repeats w raw r (λ d. Disarm d queue) dev asked.there refl (λ allowed. disarm_safe known queue allowed r)
operation_begins (ReadConfig dev field) known n repeats w raw asked enough few r =
    on_console known n repeats w raw r (λ d. ReadConfig d field) dev asked.there refl (λ allowed. readcfg_safe known field (asked.within ∙ sym (the_console dev asked.there)) allowed repeats enough few r)
operation_begins (WriteConfig dev field value) known n repeats w raw asked enough few r =
    on_console known n repeats w raw r (λ d. WriteConfig d field value) dev asked.there refl (λ allowed. writecfg_safe known field value allowed r)
operation_begins (IrqQueues dev) known n repeats w raw asked enough few r = on_console known n repeats w raw r (λ d. IrqQueues d) dev asked.there refl (λ allowed. irq_queues_safe known allowed r)
operation_begins (IrqConfig dev) known n repeats w raw asked enough few r = on_console known n repeats w raw r (λ d. IrqConfig d) dev asked.there refl (λ allowed. irq_config_safe known allowed r)
