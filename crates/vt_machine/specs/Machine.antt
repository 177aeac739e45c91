use Rattle.std.specs.Prelude.{◌≡◌, ℕ, ◌+◌, ◌-◌, ◌*◌, ◌^◌, ◌≤◌, min, List, [], ◌∷◌, ◌++◌, length, false}
use Rattle.vt_types.specs.declared.access.Answer.{Answer}
use Rattle.vt_types.specs.declared.operation.EventAt.{EventAt}
use Rattle.vt_types.specs.Access.{AccessValue}
use Rattle.vt_types.specs.Events.{MOST_EVENTS}
use Rattle.vt_types.specs.Limits.{GREATEST_COST, LONGEST_BUFFER}
use Rattle.vt_types.specs.Program.{got, is_got}
use Rattle.vt_outside.specs.Tripped.{TrippedView}
use Rattle.report_text.specs.Access.{access_line, longest_access_line}
use Rattle.report_text.specs.Event.{event_line}
use Rattle.report_text.specs.Text.{EVENT_SPARE}
use Rattle.dev_core.specs.Bus.{BusTable, Raw, raw_access}
use Rattle.dev_core.specs.Pages.{PAGES_OF_EVENT}
use Rattle.vt_machine.specs.Lines.{LinesView, joined}
use Rattle.vt_machine.specs.Trace.{Happening, Accessed, Occurred, due, later, occurred, raw_events}

-- a machine as contracts see it
pub record MachineView (R : Type 0) : Type 0 where
  pub raw : Raw R
  -- the operation under way: its events that did not happen yet; the accesses so far, up to the greatest number of 32 bits;
  -- the events so far; and how many of these came before the marked access
  pub left : List EventAt
  pub count : ℕ
  pub happened : ℕ
  pub place : ℕ
  -- the lines of what happened in it, and for how many more bytes of lines there are spare ones
  pub lines : List ℕ
  pub line_spare : ℕ
  -- how many spare bytes the console has, and how many more pages of guest memory may be made
  pub spare : ℕ
  pub pages : ℕ
  pub disk : TrippedView

-- the line of something that happened in an operation
abbrev pub happening_line : Happening → List ℕ
happening_line (Accessed a answer bytes) = access_line a answer bytes
happening_line (Occurred e) = event_line e

abbrev pub happening_lines : List Happening → List ℕ
happening_lines [] = []
happening_lines (h ∷ hs) = happening_line h ++ happening_lines hs

-- the lines of a machine
abbrev pub lines_of : {R : Type 0} → MachineView R → LinesView
lines_of m = record { bytes = m.lines; spare = m.line_spare }

-- lines with those of what happened at their end, as far as bytes are spare
abbrev pub joined_lines : LinesView → List Happening → LinesView
joined_lines lines [] = lines
joined_lines lines (h ∷ hs) = joined_lines (joined lines (happening_line h)) hs

-- no lines of so many events are longer
abbrev pub longest_lines : List EventAt → ℕ
longest_lines events = length events * EVENT_SPARE

-- one access more, up to the greatest number of 32 bits
abbrev pub counted : ℕ → ℕ
counted n = min (n + 1) (2 ^ 32 - 1)

-- the most pages of guest memory that one line of a script may make: those of its accesses, and those of its events (our own)
abbrev pub PAGES_OF_LINE : ℕ
PAGES_OF_LINE = GREATEST_COST + MOST_EVENTS * PAGES_OF_EVENT

-- what the accesses to come may cost: pages, and bytes of the console, beside what the events that are left may take of both
abbrev pub credit_of : {R : Type 0} → MachineView R → ℕ
credit_of m = min (m.pages - length m.left * PAGES_OF_EVENT) (m.spare - length m.left * LONGEST_BUFFER)

-- what the events that are left may take is spare
pub record HasSpare {R : Type 0} (m : MachineView R) : Type 0 where
  pub pages : length m.left * PAGES_OF_EVENT ≤ m.pages
  pub console : length m.left * LONGEST_BUFFER ≤ m.spare

-- one access in an operation: the events that are due happen before it; it is answered by the table of the bus; the room is
-- as before unless bytes came; and the lines of what happened join
pub record MachineStep {R : Type 0} (bus : BusTable R) (old : MachineView R) (a : AccessValue) (answer : Answer) (room room2 : List ℕ) (new : MachineView R) : Type 0 where
  pub table : raw_access bus a (raw_events bus old.raw (due old.count old.left)) ≡ (answer, got answer room2, new.raw)
  pub leaves : is_got answer ≡ false → room2 ≡ room
  pub left : new.left ≡ later old.count old.left
  pub count : new.count ≡ counted old.count
  pub happened : new.happened ≡ old.happened + length (due old.count old.left)
  pub place : new.place ≡ old.place
  pub lines : lines_of new ≡ joined_lines (lines_of old) (occurred (due old.count old.left) ++ Accessed a answer (got answer room2) ∷ [])
  pub short : length (happening_lines (occurred (due old.count old.left) ++ Accessed a answer (got answer room2) ∷ []))
      ≤ longest_lines (due old.count old.left) + longest_access_line a
  pub disk : new.disk ≡ old.disk

-- the last access is the marked one
abbrev pub MachineMark : {R : Type 0} → MachineView R → MachineView R → Type 0
MachineMark old new = new ≡ record old { place = old.happened }
