use Rattle.std.specs.Prelude.{◌≡◌, ℕ, ◌+◌, ◌⊎◌, List, [], length, Bool, Some, Result, Ok, Err, IfOk}
use Rattle.vt_types.specs.Limits.{LONGEST_SCRIPT}
use Rattle.vt_outside.specs.Disk.{DiskView}
use Rattle.vt_outside.specs.Faults.{Rose}
use Rattle.vt_outside.specs.Sink.{SinkView, Adds}
use Rattle.vt_outside.specs.Source.{SourceView}
use Rattle.report_out.specs.Answers.{Reporting, TakesAtMost}
use Rattle.report_out.specs.DiskCalls.{SameDisk, AddsOutcomes, AreOutcomes, AreCallsOf}
use Rattle.report_out.specs.Output.{AllOrPart}
use Rattle.report_out.specs.Report.{text_of}
use Rattle.report_out.specs.Status.{run_status}
use Rattle.report_out.specs.declared.stop.Stop.{Stop}
use Rattle.report_out.specs.declared.stop.Stop.TheVariants.{Read, Write, Memory}

-- how a run on an input ended or stopped: the count of faults of what stopped it rose, and the others are as they were
abbrev pub RunCause : Result ℕ Stop → SourceView → SourceView → SinkView → SinkView → Type 0
RunCause (Ok status) s s2 k k2 = ((status ≡ 0) ⊎ ((status ≡ 3) ⊎ (status ≡ 7))) × (s2.faults ≡ s.faults) × (k2.faults ≡ k.faults)
RunCause (Err Read) s s2 k k2 = Rose s.faults s2.faults × (k2.faults ≡ k.faults)
RunCause (Err Write) s s2 k k2 = (s2.faults ≡ s.faults) × Rose k.faults k2.faults
RunCause (Err Memory) s s2 k k2 = (s2.faults ≡ s.faults) × (k2.faults ≡ k.faults)

-- the status of a run that was not stopped
abbrev pub EndsAs : Result ℕ Stop → ℕ → Type 0
EndsAs (Ok status) end = status ≡ end
EndsAs (Err stop) end = Unit {0}

-- an input was run from a source to a sink, beside a disk: `ReportsOn` as the code has it, with the stop in place of its
-- status
pub record RunsInput {S : Type 0} (report : Reporting S) (traces : Bool) (ends : List ℕ → ℕ) (s s2 : SourceView) (k k2 : SinkView) (d d2 : DiskView) (result : Result ℕ Stop) : Type 0 where
  pub takes : TakesAtMost (LONGEST_SCRIPT + 1) s.left s2.left
  pub cause : RunCause result s s2 k k2
  pub disk : SameDisk d d2
  pub outcomes : List Bool
  pub tells : AddsOutcomes d.outcomes d2.outcomes outcomes
  pub calls : AreCallsOf (run_status result) d.count (length outcomes)
  pub text : List ℕ
  pub adds : Adds k.written k2.written text
  pub answers : (input : List ℕ) → s.left ≡ Some input → EndsAs result (ends input)
  pub reads : (input : List ℕ) → s.left ≡ Some input → IfOk result (λ status. status ≡ 0 → s2.left ≡ Some [])
  pub stops : (input : List ℕ) (sectors : List (List ℕ)) (read_only : Bool) (readings : List Bool) → s.left ≡ Some input → (ends input ≡ 0 → ⊥)
      → AllOrPart result text (text_of traces (report input sectors read_only readings))
  pub reports : (input : List ℕ) (image : List (List ℕ)) (readings : List Bool) → s.left ≡ Some input → d.image ≡ Some image → AreOutcomes d d2 readings
      → AllOrPart result text (text_of traces (report input image d.read_only readings))
