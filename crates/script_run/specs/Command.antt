use Rattle.std.specs.Prelude.{◌≡◌, ℕ, ◌&&◌, List, [], ◌∷◌, Bool, true, false, Option, Some, None, codes, if◌then◌else◌}
use Rattle.std.specs.Str.{bytes_eq}
use Rattle.vt_outside.specs.Sink.{SinkView}
use Rattle.vt_outside.specs.Source.{SourceView}
use Rattle.dev_core.specs.Bus as bus
use Rattle.mmio_regs.specs.MmioTable.{mmio_table}
use Rattle.mmio_regs.specs.Page.{MmioRegisters}
use Rattle.report_out.specs.Answers.{Reporting}
use Rattle.line_runner.specs.Script as script
use Rattle.line_runner.specs.Shows.{ShowsOn}
use Rattle.raw_run.specs.RawScript.{raw_script}
use Rattle.mmio_simulation.specs.Bus.{mmio}
use Rattle.driver_run.specs.DrivenScript.{Halves, driven_script}
use Rattle.script_run.specs.declared.command.Command.{Command}
use Rattle.script_run.specs.declared.command.Command.TheVariants.{Run, Raw}

-- whether words are these names, one after the other
abbrev pub are_words : List (List ℕ) → List (List ℕ) → Bool
are_words [] [] = true
are_words [] (name ∷ names) = false
are_words (word ∷ words) [] = false
are_words (word ∷ words) (name ∷ names) = bytes_eq word name && are_words words names

-- the command that words are; None where they are not in the grammar, as all words but these today
abbrev pub command_of : List (List ℕ) → Option Command
command_of words =
    if are_words words (codes "run" ∷ codes "mmio" ∷ []) then Some (Run false)
    else (if are_words words (codes "run" ∷ codes "mmio" ∷ codes "trace" ∷ []) then Some (Run true)
    else (if are_words words (codes "raw" ∷ codes "mmio" ∷ []) then Some Raw
    else None))

-- the states between the lines of a command's input
abbrev pub StateOf : Command → Type 0
StateOf (Run traces) = Halves MmioRegisters
StateOf Raw = bus.Raw MmioRegisters

-- what a command reports on an input
abbrev pub reporting : (c : Command) → Reporting (StateOf c)
reporting (Run traces) = script.reporting (driven_script mmio)
reporting Raw = script.reporting (raw_script mmio_table)

-- whether the traces of its lines stand in what it writes
abbrev pub traces_of : Command → Bool
traces_of (Run traces) = traces
traces_of Raw = false

-- how an input ends for a command: with 0, 3 or 7
abbrev pub ending : Command → List ℕ → ℕ
ending (Run traces) = script.ending (driven_script mmio)
ending Raw = script.ending (raw_script mmio_table)

-- what a watch was shown in a call that ended with a status, beside what was written: where a script is run, the lines of its
-- traces, which stand in the report where they are asked for; else nothing
abbrev pub Watches : Option Command → SourceView → SinkView → SinkView → Option (List ℕ) → Option (List ℕ) → ℕ → Type 0
Watches (Some (Run traces)) s k k2 w w2 status = ShowsOn (driven_script mmio) traces s k k2 w w2 status
Watches (Some Raw) s k k2 w w2 status = w2 ≡ w
Watches None s k k2 w w2 status = w2 ≡ w
