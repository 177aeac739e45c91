use Rattle.std.specs.Prelude.{ℕ, ◌-◌, ◌^◌, List, [], ◌∷◌, codes}
use Rattle.vt_types.specs.declared.device.Dev.{Dev}
use Rattle.vt_types.specs.Operation.{Operation, Probe, Reset, Features, GetStatus, Accept, SetStatus, SetQueue, Post, Notify, Reap, Arm, Disarm, ReadConfig, WriteConfig, IrqQueues, IrqConfig}
use Rattle.script_text.specs.Reading.{Reading, gives, ◌>>=◌, any_word, one_word, named}
use Rattle.script_text.specs.Fields.{device, decimal, number16, features_in, step_in, read_field_in, written_field_in}
use Rattle.script_text.specs.Post.{buffer}

-- an operation on a device
abbrev pub on_device : (Dev → Operation) → Reading Operation
on_device operation = do
  dev ← device
  gives (operation dev)

-- an operation on a queue of a device
abbrev pub on_queue : (Dev → ℕ → Operation) → Reading Operation
on_queue operation = do
  dev ← device
  queue ← number16
  gives (operation dev queue)

abbrev pub accept : Reading Operation
accept = do
  dev ← device
  features ← one_word features_in
  gives (Accept dev features)

abbrev pub status : Reading Operation
status = do
  dev ← device
  step ← one_word step_in
  gives (SetStatus dev step)

abbrev pub setq : Reading Operation
setq = do
  dev ← device
  queue ← number16
  size ← number16
  gives (SetQueue dev queue size)

abbrev pub post : Reading Operation
post = do
  dev ← device
  queue ← number16
  posted ← buffer
  gives (Post dev queue posted)

abbrev pub readcfg : Reading Operation
readcfg = do
  dev ← device
  field ← one_word (read_field_in dev)
  gives (ReadConfig dev field)

abbrev pub writecfg : Reading Operation
writecfg = do
  dev ← device
  field ← one_word (written_field_in dev)
  value ← decimal 0 (2 ^ 32 - 1)
  gives (WriteConfig dev field value)

abbrev pub irq : Reading Operation
irq = do
  word ← any_word
  named ((codes "queues", on_device IrqQueues) ∷ (codes "config", on_device IrqConfig) ∷ []) word

-- the operation whose first word this is
unfoldable pub operation_named : List ℕ → Reading Operation
operation_named word =
    named (
    (codes "probe", on_device Probe)
    ∷ (codes "reset", on_device Reset)
    ∷ (codes "features", on_device Features)
    ∷ (codes "getstatus", on_device GetStatus)
    ∷ (codes "accept", accept)
    ∷ (codes "status", status)
    ∷ (codes "setq", setq)
    ∷ (codes "post", post)
    ∷ (codes "notify", on_queue Notify)
    ∷ (codes "reap", on_queue Reap)
    ∷ (codes "arm", on_queue Arm)
    ∷ (codes "disarm", on_queue Disarm)
    ∷ (codes "readcfg", readcfg)
    ∷ (codes "writecfg", writecfg)
    ∷ (codes "irq", irq)
    ∷ []
    ) word
