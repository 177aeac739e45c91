use Rattle.std.specs.Prelude.{ℕ, ◌+◌, List, [], ◌∷◌, length, Bool, Option, Some, None}
use Rattle.script_text.specs.Lines.{Lines, NoMore, TooMany, Line, lines_of}
use Rattle.report_out.specs.Answers.{Reporting}
use Rattle.report_out.specs.Report.{Report, Told, DoneLine, AtEnd, AtBadLine, TooLong, with_lines, without_lines}

-- what a line did: what it tells, and the state after it
pub record Did (S : Type 0) : Type 0 where
  pub told : Told
  pub state : S

-- a kind of script over states: the state at the start, by the sectors of the disk and whether it is read-only; what a line does,
-- by its number, which counts from 1, and the state before it (nothing, where the line is not in the grammar); and what is printed
-- at the end, which hangs on the disk's sectors and the outcomes of their readings
pub record Script (S : Type 0) : Type 0 where
  pub start : List (List ℕ) → Bool → S
  pub line : List ℕ → Option (ℕ → S → Did S)
  pub last : S → List (List ℕ) → List Bool → List ℕ

-- a line that did something, up to this byte of the input
abbrev pub done_line : {S : Type 0} → ℕ → Did S → DoneLine S
done_line end did = record { end = end; told = did.told; state = did.state }

-- a line that did something, and then the rest
abbrev pub did_report : {S : Type 0} → ℕ → Did S → (S → Report S) → Report S
did_report end did rest = with_lines (done_line end did ∷ []) (rest did.state)

-- a line up to this byte, the k-th of its script, and then the rest; at a bad line the lines end
abbrev pub line_report : {S : Type 0} → List (List ℕ) → Option (ℕ → S → Did S) → ℕ → ℕ → S → (S → Report S) → Report S
line_report image None end k state rest = without_lines (AtBadLine k) image
line_report image (Some does) end k state rest = did_report end (does k state) rest

-- the report of the lines behind the first k, where the next one begins at this byte; no line asks the disk, so its image stays
abbrev pub report_of : {S : Type 0} → Script S → List (List ℕ) → List Bool → Lines → ℕ → ℕ → S → Report S
report_of script image outcomes NoMore at k state = without_lines (AtEnd (script.last state image outcomes)) image
report_of script image outcomes TooMany at k state = without_lines TooLong image
report_of script image outcomes (Line line others) at k state =
    line_report image (script.line line) (at + length line) (k + 1) state (λ next. report_of script image outcomes others (at + length line + 1) (k + 1) next)

-- what a script reports on an input, by the sectors of a disk, whether it is read-only, and the outcomes of the readings of its
-- sectors (true where one succeeds): one for each sector in the end parts, and past the end of the list each succeeds
abbrev pub reporting : {S : Type 0} → Script S → Reporting S
reporting script input sectors read_only outcomes = report_of script sectors outcomes (lines_of input) 0 0 (script.start sectors read_only)

-- how lines end: with 3 at a bad line, with 7 where more bytes came than a script may have, and with 0 at their end
abbrev pub ending_behind : {S : Type 0} → Option (ℕ → S → Did S) → ℕ → ℕ
ending_behind None others = 3
ending_behind (Some does) others = others

abbrev pub ending_of : {S : Type 0} → Script S → Lines → ℕ
ending_of script NoMore = 0
ending_of script TooMany = 7
ending_of script (Line line others) = ending_behind (script.line line) (ending_of script others)

-- how an input ends
abbrev pub ending : {S : Type 0} → Script S → List ℕ → ℕ
ending script input = ending_of script (lines_of input)
