use Rattle.std.specs.Prelude.{◌≡◌, ℕ, List, Bool, true, false, Option, Some, None, Result, Ok, Err}
use Rattle.vt_outside.specs.Sink.{SinkView, Adds}
use Rattle.vt_outside.specs.Source.{SourceView}
use Rattle.vt_outside.specs.Watch.{Shows}
use Rattle.report_out.specs.Answers.{ShowsLines}
use Rattle.report_out.specs.declared.stop.Stop.{Stop}
use Rattle.report_out.specs.declared.stop.Stop.TheVariants.{Memory}
use Rattle.line_runner.specs.Script.{Did, Script, reporting}

-- a line was run from a state: what happened in it, what it prints and the state after it are those of its script
pub record RunsAs {S : Type 0} (did : Did S) (represents : S → Type 0) (trace text : List ℕ) : Type 0 where
  pub traced : trace ≡ did.told.trace
  pub printed : text ≡ did.told.text
  pub state : represents did.state

-- a line was run, the k-th of its script; or it is not in the grammar, and the state is as before; or there was no memory
abbrev pub RunsLine : {S : Type 0} → Option (ℕ → S → Did S) → ℕ → S → (S → Type 0) → List ℕ → List ℕ → Result Bool Stop → Type 0
RunsLine (Some does) k state represents trace text (Ok true) = RunsAs (does k state) represents trace text
RunsLine None k state represents trace text (Ok true) = ⊥
RunsLine line k state represents trace text (Ok false) = (line ≡ None) × represents state
RunsLine line k state represents trace text (Err e) = e ≡ Memory

-- what a watch was shown in a run of a script on an input, beside what was written: the traces of all its lines, or, where it
-- stopped, of the first of them, and nothing was written of a line whose trace was not shown
pub record ShowsOn {S : Type 0} (script : Script S) (traces : Bool) (s : SourceView) (k k2 : SinkView) (w w2 : Option (List ℕ)) (status : ℕ) : Type 0 where
  pub text : List ℕ
  pub written : Adds k.written k2.written text
  pub shown : List ℕ
  pub shows : Shows w shown w2
  pub whole : (input : List ℕ) (sectors : List (List ℕ)) (read_only : Bool) (outcomes : List Bool) → s.left ≡ Some input
      → ShowsLines traces status text shown (reporting script input sectors read_only outcomes).lines
