use Rattle.std.specs.Prelude.{◌≡◌, ℕ, ◌+◌, ◌≤◌, ◌⊎◌, List, [], drop, length, Bool, Option, Some}
use Rattle.vt_types.specs.Limits.{LONGEST_SCRIPT}
use Rattle.vt_outside.specs.Faults.{Rose}
use Rattle.vt_outside.specs.Source.{SourceView}
use Rattle.vt_outside.specs.Sink.{SinkView}
use Rattle.vt_outside.specs.Text.{IsPrefixOf}
use Rattle.vt_outside.specs.Disk.{DiskView}
use Rattle.report_out.specs.DiskCalls.{AddsOutcomes, AreOutcomes, AreCallsOf}
use Rattle.report_out.specs.Report.{Report, DoneLine, IsFront, lines_text, lines_trace, text_of, status_of, image_of}

-- 4, 5 and 6 stop a report: a failing source, a failing sink, want of memory
abbrev pub Stopped : ℕ → Type 0
Stopped status = (status ≡ 4) ⊎ ((status ≡ 5) ⊎ (status ≡ 6))

-- all of a text was written, or, where the call stopped, a part of it
abbrev pub Written : ℕ → List ℕ → List ℕ → Type 0
Written status text whole = IsPrefixOf text whole × (Stopped status ⊎ (text ≡ whole))

-- no line was written of which some of the trace was not shown: what was written is a front of what the lines print whose traces
-- were shown, or these are all
abbrev pub WritesShown : {S : Type 0} → Bool → List ℕ → List (DoneLine S) → List (DoneLine S) → Type 0
WritesShown traces written lines whole = IsPrefixOf written (lines_text traces lines) ⊎ (lines ≡ whole)

-- beside what was written, the traces of all lines were shown, or, where the call stopped, those of the first of them
pub record ShowsLines {S : Type 0} (traces : Bool) (status : ℕ) (written shown : List ℕ) (whole : List (DoneLine S)) : Type 0 where
  pub lines : List (DoneLine S)
  pub front : IsFront lines whole
  pub traced : shown ≡ lines_trace lines
  pub all : Stopped status ⊎ (lines ≡ whole)
  pub first : WritesShown traces written lines whole

-- where a source told what was left, all but its first bytes are left now, and these are within a bound
abbrev pub TakesAtMost : ℕ → Option (List ℕ) → Option (List ℕ) → Type 0
TakesAtMost most before after = (left : List ℕ) → before ≡ Some left → (n : ℕ) × (n ≤ most) × (after ≡ Some (drop n left))

-- from an input, the sectors of a disk, whether it is read-only, and the outcomes of its calls, to a report
abbrev pub Reporting : Type 0 → Type 0
Reporting S = List ℕ → List (List ℕ) → Bool → List Bool → Report S

-- what a call answers that reports on an input, with the traces of its lines or without, where `ends` says of an input how it
-- ends: with 0, 3 or 7
pub record AnswersInput {S : Type 0} (report : Reporting S) (traces : Bool) (ends : List ℕ → ℕ) (s s2 : SourceView) (k k2 : SinkView) (d d2 : DiskView) (status : ℕ) (text : List ℕ) : Type 0 where
  -- however long the input, one byte past the bound is taken at most
  pub takes : TakesAtMost (LONGEST_SCRIPT + 1) s.left s2.left
  -- 0, 3 or 7 exactly as the input ends
  pub answers : (input : List ℕ) → s.left ≡ Some input → Stopped status ⊎ (status ≡ ends input)
  -- with 0 the input was read to its end
  pub reads : (input : List ℕ) → s.left ≡ Some input → status ≡ 0 → s2.left ≡ Some []
  -- the disk's calls have these outcomes, which are added to those that it tells
  pub outcomes : List Bool
  pub tells : AddsOutcomes d.outcomes d2.outcomes outcomes
  -- with 0 each sector was read once, with 3, 4 and 7 none was, and nothing else was asked of the disk
  pub calls : AreCallsOf status d.count (length outcomes)
  -- an input that stops at a bad line or is too long: what is written is the report, whatever the disk is
  pub stops : (input : List ℕ) (sectors : List (List ℕ)) (read_only : Bool) (readings : List Bool) → s.left ≡ Some input → (ends input ≡ 0 → ⊥)
      → Written status text (text_of traces (report input sectors read_only readings))
  -- what is written is the report, whichever sectors could be read; the status is the report's, and so is the image of the
  -- disk that comes back
  pub reports : (input : List ℕ) (image : List (List ℕ)) (readings : List Bool) → s.left ≡ Some input → d.image ≡ Some image → AreOutcomes d d2 readings
      → let r = report input image d.read_only readings in
      Written status text (text_of traces r) × (Stopped status ⊎ (status ≡ status_of r)) × (d2.image ≡ Some (image_of r))
  -- a whole input is answered 0, or 6, where neither the source's nor the sink's count of faults rose
  pub complete : (input : List ℕ) → s.left ≡ Some input → ends input ≡ 0 → (Rose s.faults s2.faults → ⊥) → (Rose k.faults k2.faults → ⊥)
      → (status ≡ 0) ⊎ (status ≡ 6)
