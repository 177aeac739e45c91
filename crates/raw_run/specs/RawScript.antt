use Rattle.std.specs.Prelude.{ℕ, [], Option, Some, None, if◌then◌else◌}
use Rattle.std.specs.Option.{option_map}
use Rattle.vt_types.specs.Access.{AccessValue}
use Rattle.dev_core.specs.There.{is_event_there}
use Rattle.dev_core.specs.Bus.{BusTable, Raw, new_raw, raw_access, raw_event}
use Rattle.script_text.specs.Line.{Spelled, Nothing, Happens, Asks, raw_line}
use Rattle.report_text.specs.Access as text
use Rattle.report_out.specs.Report.{Blank, Event, Asked}
use Rattle.report_out.specs.EndText.{end_text}
use Rattle.line_runner.specs.Script.{Did, Script}

-- a line whose event is of a device that is not there is not in the grammar
abbrev pub if_there : Option (Spelled AccessValue) → Option (Spelled AccessValue)
if_there None = None
if_there (Some Nothing) = Some Nothing
if_there (Some (Happens e)) = if is_event_there e then Some (Happens e) else None
if_there (Some (Asks a)) = Some (Asks a)

-- what a line of a raw script does on a bus: an access prints its answer, an event nothing, and nothing is traced
abbrev pub raw_line_does : {R : Type 0} → BusTable R → Spelled AccessValue → ℕ → Raw R → Did (Raw R)
raw_line_does bus Nothing k raw = record { told = record { kind = Blank; trace = []; text = []; accesses = None }; state = raw }
raw_line_does bus (Happens e) k raw = record { told = record { kind = Event; trace = []; text = []; accesses = None }; state = raw_event bus raw e }
raw_line_does bus (Asks a) k raw =
    let r = raw_access bus a raw in
    record { told = record { kind = Asked; trace = []; text = text.raw_line k a r.0 r.1; accesses = Some 1 }; state = r.2 }

-- the raw scripts of accesses and events, on a bus
abbrev pub raw_script : {R : Type 0} → BusTable R → Script (Raw R)
raw_script bus = record {
  start = λ sectors read_only. new_raw bus;
  line = λ line. option_map (raw_line_does bus) (if_there (raw_line line));
  last = λ raw sectors outcomes. end_text [] raw.devices.contents.console.console sectors outcomes;
}
