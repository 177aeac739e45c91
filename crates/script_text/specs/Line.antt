use Rattle.std.specs.Prelude.{ℕ, nat_le, List, [], ◌∷◌, length, Option, Some, None, if◌then◌else◌, codes}
use Rattle.std.specs.Str.{bytes_eq}
use Rattle.vt_types.specs.declared.operation.Event.{Event}
use Rattle.vt_types.specs.declared.operation.EventAt.{EventAt}
use Rattle.vt_types.specs.Access.{AccessValue, access_value, Put}
use Rattle.vt_types.specs.Events.{MOST_EVENTS}
use Rattle.vt_types.specs.Operation.{Operation, operation}
use Rattle.script_text.specs.declared.line.Line.{Line}
use Rattle.script_text.specs.declared.line.Line.TheVariants as line
use Rattle.script_text.specs.declared.raw.RawLine.{RawLine}
use Rattle.script_text.specs.declared.raw.RawLine.TheVariants as row
use Rattle.script_text.specs.declared.raw.RawAccess.{RawAccess}
use Rattle.script_text.specs.declared.raw.RawAccess.TheVariants as raw
use Rattle.script_text.specs.Limits.{LONGEST_LINE}
use Rattle.script_text.specs.Words.{words_of, begins_with}
use Rattle.script_text.specs.Reading.{to_the_end}
use Rattle.script_text.specs.Event.{event, events_from}
use Rattle.script_text.specs.Operation.{operation_named}
use Rattle.script_text.specs.Raw.{access_named}

-- what a line spells: nothing, an event between operations or accesses, or what its grammar has beside these
pub data Spelled (A : Type 0) : Type 0 where
  Nothing : Spelled A
  Happens : Event → Spelled A
  Asks : A → Spelled A

abbrev pub happens_if : {A : Type 0} → Option Event → Option (Spelled A)
happens_if None = None
happens_if (Some e) = Some (Happens e)

abbrev pub asks_if : {A : Type 0} → Option A → Option (Spelled A)
asks_if None = None
asks_if (Some a) = Some (Asks a)

-- the words of a line by its first one: nothing to do, the words of an event behind `ev`, or others
pub data Form : Type 0 where
  Idle : Form
  Eventful : List (List ℕ) → Form
  Other : List ℕ → List (List ℕ) → Form

-- a line without words does nothing, nor does a comment, whose first word begins with `#`
abbrev pub form_of_words : List (List ℕ) → Form
form_of_words [] = Idle
form_of_words (word ∷ words) = if begins_with 35 word then Idle else if bytes_eq word (codes "ev") then Eventful words else Other word words

-- a line that is too long has no form
abbrev pub form_of : List ℕ → Option Form
form_of line = if nat_le (length line) LONGEST_LINE then Some (form_of_words (words_of line)) else None

-- what a line of some form spells in a grammar, which reads a first word and the words behind it
abbrev pub form_spells : {A : Type 0} → (List ℕ → List (List ℕ) → Option A) → Option Form → Option (Spelled A)
form_spells grammar None = None
form_spells grammar (Some Idle) = Some Nothing
form_spells grammar (Some (Eventful words)) = happens_if (to_the_end (event words))
form_spells grammar (Some (Other word words)) = asks_if (grammar word words)

-- an operation before its events
abbrev pub and_its_events : Operation → Option (List EventAt) → Option (Operation × List EventAt)
and_its_events op None = None
and_its_events op (Some events) = Some (op, events)

-- an operation and the events that happen in its gaps, to the end of the line
abbrev pub with_events : Option (Operation × List (List ℕ)) → Option (Operation × List EventAt)
with_events None = None
with_events (Some (op, words)) = and_its_events op (events_from MOST_EVENTS 0 words)

-- a line of a script
abbrev pub script_line : List ℕ → Option (Spelled (Operation × List EventAt))
script_line line = form_spells (λ word words. with_events (operation_named word words)) (form_of line)

-- a line of a raw script
abbrev pub raw_line : List ℕ → Option (Spelled AccessValue)
raw_line line = form_spells (λ word words. to_the_end (access_named word words)) (form_of line)

-- a line of a script, as contracts see it
abbrev pub line_value : Line → Spelled (Operation × List EventAt)
line_value line.Blank = Nothing
line_value (line.Op op events) = Asks (operation op, events)
line_value (line.Event e) = Happens e

-- an access of a raw script
abbrev pub raw_access : RawAccess → AccessValue
raw_access (raw.Plain access) = access_value access
raw_access (raw.Put addr bytes) = Put addr bytes

-- a line of a raw script
abbrev pub raw_line_value : RawLine → Spelled AccessValue
raw_line_value row.Blank = Nothing
raw_line_value (row.Access access) = Asks (raw_access access)
raw_line_value (row.Event e) = Happens e
