use Rattle.std.specs.Prelude.{ℕ, zero, suc, ◌+◌, ◌-◌, ◌^◌, ◌==◌, nat_le, List, [], ◌∷◌, take, drop, Option, Some, None, if◌then◌else◌, codes}
use denote.Bor.{Bor}
use Rattle.std.specs.Str.{bytes_eq}
use Rattle.std.specs.List.{position}
use Rattle.vt_types.specs.declared.operation.Event.{Event}
use Rattle.vt_types.specs.declared.operation.Event.TheVariants.{Serve, Frame, Key, Resize, Link, Consize, Diskfail}
use Rattle.vt_types.specs.declared.operation.EventAt.{EventAt}
use Rattle.vt_types.specs.Limits.{LONGEST_FRAME, LONGEST_KEYS}
use Rattle.script_text.specs.Reading.{Reading, gives, ◌>>=◌, any_word, one_word, named}
use Rattle.script_text.specs.Fields.{device, decimal, decimal_in, number16, hex_bytes, link_in}

abbrev pub serve : Reading Event
serve = do
  dev ← device
  queue ← number16
  gives (Serve dev queue)

abbrev pub frame : Reading Event
frame = do
  bytes ← hex_bytes LONGEST_FRAME
  gives (Frame bytes)

abbrev pub key : Reading Event
key = do
  bytes ← hex_bytes LONGEST_KEYS
  gives (Key bytes)

abbrev pub resize : Reading Event
resize = do
  sectors ← decimal 0 (2 ^ 64 - 1)
  gives (Resize sectors)

abbrev pub link : Reading Event
link = do
  up ← one_word link_in
  gives (Link up)

abbrev pub consize : Reading Event
consize = do
  cols ← number16
  rows ← number16
  gives (Consize cols rows)

abbrev pub diskfail : Reading Event
diskfail = do
  call ← decimal 1 65535
  gives (Diskfail call)

-- the event whose first word this is
unfoldable pub event_named : List ℕ → Reading Event
event_named word =
    named (
    (codes "serve", serve)
    ∷ (codes "frame", frame)
    ∷ (codes "key", key)
    ∷ (codes "resize", resize)
    ∷ (codes "link", link)
    ∷ (codes "consize", consize)
    ∷ (codes "diskfail", diskfail)
    ∷ []
    ) word

-- an event
abbrev pub event : Reading Event
event = do
  word ← any_word
  event_named word

-- what stands before a location, and what behind it
abbrev pub around : List ℕ → Option ℕ → Option (List ℕ × List ℕ)
around bytes None = None
around bytes (Some location) = Some (take location bytes, drop (location + 1) bytes)

-- what stands before the first colon, and what behind it
abbrev pub around_colon : List ℕ → Option (List ℕ × List ℕ)
around_colon bytes = around bytes (position (λ b. b == 58) bytes)

-- a gap, and the first word of the event that happens in it
abbrev pub with_name : List ℕ → Option ℕ → Option (ℕ × List ℕ)
with_name name None = None
with_name name (Some gap) = Some (gap, name)

abbrev pub gap_and_name : Option (List ℕ × List ℕ) → Option (ℕ × List ℕ)
gap_and_name None = None
gap_and_name (Some (front, back)) = with_name back (decimal_in 0 65535 front)

-- `@`, a gap, `:` and the first word of an event
abbrev pub gap_in : List ℕ → Option (ℕ × List ℕ)
gap_in word = if bytes_eq (take 1 word) (codes "@") then gap_and_name (around_colon (drop 1 word)) else None

-- an event at the end of an operation line: it happens after `gap` accesses of the operation
abbrev pub event_at : Reading EventAt
event_at = do
  first ← one_word gap_in
  happens ← event_named first.1
  gives (record { gap = first.0; event = happens })

-- an event before others
abbrev pub and_events : EventAt → Option (List EventAt) → Option (List EventAt)
and_events first None = None
and_events first (Some events) = Some (first ∷ events)

-- what was read of events, where its gap is not below `low`, before the events of the other words
abbrev pub events_then : ℕ → (ℕ → List (List ℕ) → Option (List EventAt)) → Option (EventAt × List (List ℕ)) → Option (List EventAt)
events_then low others None = None
events_then low others (Some (first, words)) = if nat_le low first.gap then and_events first (others first.gap words) else None

-- at most so many events to the end of a line, whose gaps begin at `low` and never fall
unfoldable pub events_from : ℕ → ℕ → List (List ℕ) → Option (List EventAt)
events_from most low [] = Some []
events_from zero low (word ∷ words) = None
events_from (suc most) low (word ∷ words) = events_then low (events_from most) (event_at (word ∷ words))

-- a gap and a name of the code, as lists
abbrev pub gap_value : Option (ℕ × Bor (List ℕ)) → Option (ℕ × List ℕ)
gap_value None = None
gap_value (Some (gap, name)) = Some (gap, name.now)
