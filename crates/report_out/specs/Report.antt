use Rattle.std.specs.Prelude.{◌≡◌, ℕ, List, [], ◌∷◌, ◌++◌, Bool, Option, if◌then◌else◌}
use Rattle.report_text.specs.EndParts.{fault_line, too_long_line}

-- what a line can be: a blank one, an event, or one that asks for something
pub data LineKind : Type 0 where
  Blank : LineKind
  Event : LineKind
  Asked : LineKind

-- what a line tells: its kind, the lines of a trace of what happened in it, what it prints behind them, and the count of its
-- accesses, where it has one
pub record Told : Type 0 where
  pub kind : LineKind
  pub trace : List ℕ
  pub text : List ℕ
  pub accesses : Option ℕ

-- a line that was done: how many bytes of the input there are up to its end, without its line feed; what it told, and the state
-- after it
pub record DoneLine (S : Type 0) : Type 0 where
  pub end : ℕ
  pub told : Told
  pub state : S

-- how lines end: with the input, where this text stands last; at the line with this number, which is not in the grammar; or where
-- more bytes came than an input may have
pub data Ending : Type 0 where
  AtEnd : List ℕ → Ending
  AtBadLine : ℕ → Ending
  TooLong : Ending

-- the lines that were done, how they end, and the disk's last image
pub record Report (S : Type 0) : Type 0 where
  pub lines : List (DoneLine S)
  pub ending : Ending
  pub image : List (List ℕ)

-- a report of no line
abbrev pub without_lines : {S : Type 0} → Ending → List (List ℕ) → Report S
without_lines ending image = record { lines = []; ending = ending; image = image }

-- a report with lines before its own
abbrev pub with_lines : {S : Type 0} → List (DoneLine S) → Report S → Report S
with_lines lines r = record { lines = lines ++ r.lines; ending = r.ending; image = r.image }

-- the first of some lines
abbrev pub IsFront : {S : Type 0} → List (DoneLine S) → List (DoneLine S) → Type 0
IsFront {S} front lines = (rest : List (DoneLine S)) × (front ++ rest ≡ lines)

-- what is written of a line: its trace stands first, where traces are asked for, and then what it prints
abbrev pub line_text : Bool → List ℕ → List ℕ → List ℕ
line_text traces trace text = (if traces then trace else []) ++ text

-- and of lines
abbrev pub lines_text : {S : Type 0} → Bool → List (DoneLine S) → List ℕ
lines_text traces [] = []
lines_text traces (line ∷ lines) = line_text traces line.told.trace line.told.text ++ lines_text traces lines

-- the traces of lines
abbrev pub lines_trace : {S : Type 0} → List (DoneLine S) → List ℕ
lines_trace [] = []
lines_trace (line ∷ lines) = line.told.trace ++ lines_trace lines

-- what is written last
abbrev pub ending_text : Ending → List ℕ
ending_text (AtEnd text) = text
ending_text (AtBadLine number) = fault_line number
ending_text TooLong = too_long_line

-- the status with which lines end
abbrev pub ending_status : Ending → ℕ
ending_status (AtEnd text) = 0
ending_status (AtBadLine number) = 3
ending_status TooLong = 7

-- what is written of a report, with or without traces
abbrev pub text_of : {S : Type 0} → Bool → Report S → List ℕ
text_of traces r = lines_text traces r.lines ++ ending_text r.ending

-- what a watch is shown of it
abbrev pub watched_of : {S : Type 0} → Report S → List ℕ
watched_of r = lines_trace r.lines

-- its status
abbrev pub status_of : {S : Type 0} → Report S → ℕ
status_of r = ending_status r.ending

-- and the disk's last image
abbrev pub image_of : {S : Type 0} → Report S → List (List ℕ)
image_of r = r.image
