use Rattle.std.specs.Prelude.{ℕ, ◌+◌, nat_le, List, [], ◌∷◌, ◌++◌, length, if◌then◌else◌}
use Rattle.vt_types.specs.declared.access.Answer.{Answer}
use Rattle.vt_types.specs.declared.operation.Event.{Event}
use Rattle.vt_types.specs.declared.operation.EventAt.{EventAt}
use Rattle.vt_types.specs.Access.{AccessValue}
use Rattle.vt_types.specs.Program.{Program, Do, Mark, End}
use Rattle.dev_core.specs.Bus.{BusTable, Raw, raw_access, raw_event}

-- events one after the other on the raw machine
abbrev pub raw_events : {R : Type 0} → BusTable R → Raw R → List EventAt → Raw R
raw_events bus raw [] = raw
raw_events bus raw (e ∷ es) = raw_events bus (raw_event bus raw e.event) es

-- something that happened during an operation: an access with its answer and the bytes that came with it, or an event
pub data Happening : Type 0 where
  Accessed : AccessValue → Answer → List ℕ → Happening
  Occurred : Event → Happening

-- a program on the raw machine: its result, the machine after it, what happened in order, the number of accesses, and the
-- place of the marked one: how many events happened before it
pub record Trace (R X : Type 0) : Type 0 where
  pub result : X
  pub raw : Raw R
  pub happenings : List Happening
  pub count : ℕ
  pub place : ℕ

-- of events whose gaps never fall: those that happen before the access that comes after `count` others
abbrev pub due : ℕ → List EventAt → List EventAt
due count [] = []
due count (e ∷ es) = if nat_le e.gap count then e ∷ due count es else []

-- and the later ones
abbrev pub later : ℕ → List EventAt → List EventAt
later count [] = []
later count (e ∷ es) = if nat_le e.gap count then later count es else e ∷ es

-- events as happenings
abbrev pub occurred : List EventAt → List Happening
occurred [] = []
occurred (e ∷ es) = Occurred e.event ∷ occurred es

-- a trace with what happened before it
abbrev pub after : {R X : Type 0} → List Happening → Trace R X → Trace R X
after happenings t = record t { happenings = happenings ++ t.happenings }

-- a program on a bus, with events in its gaps: the accesses so far, the events that happened so far, and the place so far are
-- numbers
abbrev pub trace_from : {R X : Type 0} → BusTable R → Program X → Raw R → List EventAt → ℕ → ℕ → ℕ → Trace R X
trace_from bus (Do a rest) raw events count happened place =
    let now = due count events in
    let did = raw_access bus a (raw_events bus raw now) in
    after (occurred now ++ Accessed a did.0 did.1 ∷ [])
    (trace_from bus (rest did.0 did.1) did.2 (later count events) (count + 1) (happened + length now) place)
trace_from bus (Mark rest) raw events count happened place = trace_from bus rest raw events count happened happened
trace_from bus (End x) raw events count happened place =
    record { result = x; raw = raw_events bus raw events; happenings = occurred events; count = count; place = place }
