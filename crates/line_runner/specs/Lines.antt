use Rattle.std.specs.Prelude.{◌≡◌, ℕ, ◌+◌, ◌≤◌, ◌<◌, ◌==◌, ◌∷◌, ◌++◌, ◌⊎◌, List, [], length, Bool, false, Option, Some, None, Result, Ok, Err, IfOk, if◌then◌else◌}
use Rattle.vt_types.specs.Limits.{LONGEST_SCRIPT}
use Rattle.vt_outside.specs.Faults.{Rose}
use Rattle.vt_outside.specs.Sink.{SinkView, Adds}
use Rattle.vt_outside.specs.Source.{SourceView}
use Rattle.vt_outside.specs.Text.{IsPrefixOf}
use Rattle.vt_outside.specs.Watch.{Shows}
use Rattle.script_text.specs.Lines.{ReaderView, KnowsEnd, Takes, bytes_taken, lines_left}
use Rattle.report_out.specs.Answers.{TakesAtMost, WritesShown}
use Rattle.report_out.specs.Report.{Report, Told, DoneLine, IsFront, ending_text, lines_trace, status_of, text_of, watched_of, with_lines}
use Rattle.report_out.specs.Run.{RunCause}
use Rattle.report_out.specs.declared.stop.Stop.{Stop}
use Rattle.report_out.specs.declared.stop.Stop.TheVariants.{Read, Write, Memory}
use Rattle.line_runner.specs.Script.{Script, report_of, reporting}

-- what is sent once the lines have ended: with 0 a last text, and else nothing
abbrev pub last_text : List ℕ → ℕ → List ℕ
last_text text status = if status == 0 then text else []

-- a reader that has answered no line
abbrev pub new_reader : ReaderView
new_reader = record { held = []; answered = 0; number = 0; ended = false; line = [] }

-- no line was read yet: the reader, and the number of its last line
pub record IsNew (reader : ReaderView) (number : ℕ) : Type 0 where
  pub read : reader ≡ new_reader
  pub counted : number ≡ 0

-- the report of the lines that a reader has not answered yet, the next of which begins at this byte of the input, from a state,
-- where its source has some bytes left
abbrev pub report_left : {S : Type 0} → Script S → ReaderView → List ℕ → ℕ → S → List (List ℕ) → List Bool → Report S
report_left script reader left at state image outcomes = report_of script image outcomes (lines_left reader left) at reader.number state

-- no line of a report is left: a fault's text, and with 0 a last one, are its text, and the status is its
pub record HasEnded {S : Type 0} (r : Report S) (whole : List ℕ) (status : ℕ) : Type 0 where
  pub lines : r.lines ≡ []
  pub text : ending_text r.ending ≡ whole
  pub ended : status_of r ≡ status

-- the next line was run from a state, with this trace and this text: the report has it first, and goes on from the next state; or
-- it ends there with a fault's text, and with 0 nothing is left
abbrev pub GoesOn : {S : Type 0} → Script S → ReaderView → ReaderView → List ℕ → List ℕ → S → S → List ℕ → List ℕ → List ℕ → Result (Option ℕ) Stop → Type 0
GoesOn script reader reader2 left left2 state next trace text fault (Ok None) =
    (told : Told) × (told.trace ≡ trace) × (told.text ≡ text)
    × ((at : ℕ) (image : List (List ℕ)) (outcomes : List Bool) → let end : ℕ = at + length reader2.line in
    report_left script reader left at state image outcomes
    ≡ with_lines (record { end = end; told = told; state = next } ∷ []) (report_left script reader2 left2 (end + 1) next image outcomes))
GoesOn script reader reader2 left left2 state next trace text fault (Ok (Some status)) =
    ((at : ℕ) (image : List (List ℕ)) (outcomes : List Bool)
    → HasEnded (report_left script reader left at state image outcomes) (fault ++ last_text (script.last next image outcomes) status) status)
    × (status ≡ 0 → KnowsEnd (Some left2) reader2 → left2 ≡ [])
GoesOn script reader reader2 left left2 state next trace text fault (Err stop) = Unit {0}

-- the state behind the next line is one that the runner represents, unless the lines ended with a fault
abbrev pub IsRepresented : {S : Type 0} → (S → Type 0) → S → Result (Option ℕ) Stop → Type 0
IsRepresented represents next (Ok None) = represents next
IsRepresented represents next (Ok (Some status)) = status ≡ 0 → represents next
IsRepresented represents next (Err stop) = Unit {0}

-- with these numbers an input ends
abbrev pub IsEnd : ℕ → Type 0
IsEnd status = (status ≡ 0) ⊎ ((status ≡ 3) ⊎ (status ≡ 7))

-- why the next line was not run, by a source's count of faults
abbrev pub NextCause : Result (Option ℕ) Stop → ℕ → ℕ → Type 0
NextCause (Ok None) before after = after ≡ before
NextCause (Ok (Some status)) before after = IsEnd status × (after ≡ before)
NextCause (Err Read) before after = Rose before after
NextCause (Err Write) before after = ⊥
NextCause (Err Memory) before after = after ≡ before

-- a line that was run was answered by the reader
abbrev pub NextCounts : Result (Option ℕ) Stop → ReaderView → ReaderView → Type 0
NextCounts (Ok None) old new = (new.number ≡ old.number + 1) × (old.answered < new.answered)
NextCounts (Ok (Some status)) old new = Unit {0}
NextCounts (Err stop) old new = Unit {0}

-- the next line of a source was read
pub record ReadsNext (s s2 : SourceView) (reader reader2 : ReaderView) (result : Result (Option ℕ) Stop) : Type 0 where
  pub counts : NextCounts result reader reader2
  pub takes : Takes s.left s2.left reader reader2
  pub within : bytes_taken reader2 ≤ LONGEST_SCRIPT + 1
  pub ends : KnowsEnd s.left reader → KnowsEnd s2.left reader2

-- and run from a state, by a runner that represents some states then, with this trace and this text; or the lines ended with a
-- fault's text
pub record RunsNext {S : Type 0} (script : Script S) (s s2 : SourceView) (reader reader2 : ReaderView) (state : S) (represents : S → Type 0) (trace text fault : List ℕ) (result : Result (Option ℕ) Stop) : Type 0 where
  pub cause : NextCause result s.faults s2.faults
  pub next : S
  pub behind : IsRepresented represents next result
  pub goes_on : (left : List ℕ) → s.left ≡ Some left
      → (left2 : List ℕ) × (s2.left ≡ Some left2) × GoesOn script reader reader2 left left2 state next trace text fault result

-- a report begins with this text, and its first lines have this trace, where those have it of which there is text
pub record Begins {S : Type 0} (traces : Bool) (r : Report S) (sent shown : List ℕ) : Type 0 where
  pub text : IsPrefixOf sent (text_of traces r)
  pub lines : List (DoneLine S)
  pub front : IsFront lines r.lines
  pub traced : shown ≡ lines_trace lines
  pub first : WritesShown traces sent lines r.lines

-- what a report is, once its lines were run, this much of it was sent, and a watch was shown this: all but a last text, and the
-- traces of all lines; or, where the run stopped, a part of it, and the traces of its first lines
abbrev pub LinesDone : {S : Type 0} → Bool → List ℕ → Report S → List ℕ → List ℕ → Result ℕ Stop → Type 0
LinesDone traces last r sent shown (Ok status) = (sent ++ last_text last status ≡ text_of traces r) × (shown ≡ watched_of r) × (status_of r ≡ status)
LinesDone traces last r sent shown (Err stop) = Begins traces r sent shown

-- the lines of a source were run, and their report was sent up to a last text, which hangs on the disk
pub record RunsLines {S : Type 0} (script : Script S) (traces : Bool) (last : List (List ℕ) → List Bool → List ℕ) (s s2 : SourceView) (k k2 : SinkView) (w w2 : Option (List ℕ)) (result : Result ℕ Stop) : Type 0 where
  pub takes : TakesAtMost (LONGEST_SCRIPT + 1) s.left s2.left
  pub cause : RunCause result s s2 k k2
  pub sent : List ℕ
  pub adds : Adds k.written k2.written sent
  pub shown : List ℕ
  pub shows : Shows w shown w2
  pub reads : (input : List ℕ) → s.left ≡ Some input → IfOk result (λ status. status ≡ 0 → s2.left ≡ Some [])
  pub done : (input : List ℕ) (sectors : List (List ℕ)) (read_only : Bool) (outcomes : List Bool) → s.left ≡ Some input
      → LinesDone traces (last sectors outcomes) (reporting script input sectors read_only outcomes) sent shown result

-- where lines were run to their end by a runner that represents some states then, this is what is printed at the end
pub record IsLast {S : Type 0} (script : Script S) (represents : S → Type 0) (result : Result ℕ Stop) (last : List (List ℕ) → List Bool → List ℕ) : Type 0 where
  pub prints : result ≡ Ok 0 → (state : S) (image : List (List ℕ)) (outcomes : List Bool) → represents state → script.last state image outcomes ≡ last image outcomes
