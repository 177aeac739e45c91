use Rattle.std.specs.Prelude.{ℕ, List, [], Bool, Some, None}
use Rattle.std.specs.Option.{option_map}
use Rattle.vt_types.specs.declared.operation.EventAt.{EventAt}
use Rattle.vt_types.specs.Operation.{Operation}
use Rattle.vt_machine.specs.Machine.{happening_lines}
use Rattle.dev_core.specs.Bus.{Raw, new_raw, raw_event}
use Rattle.abstract_devices.specs.World.{World, new_world}
use Rattle.abstract_devices.specs.Operate.{happen, placed_line}
use Rattle.drv_core.specs.Driver.{DriverRecord, new_record}
use Rattle.interleaving.specs.BusDefinition.{BusDefinition, trace_of}
use Rattle.script_text.specs.Line.{Spelled, Nothing, Happens, Asks, script_line}
use Rattle.report_text.specs.Reply.{reply_line}
use Rattle.report_out.specs.Report.{Blank, Event, Asked}
use Rattle.report_out.specs.EndText.{end_text}
use Rattle.line_runner.specs.Script.{Did, Script}
use Rattle.driver_run.specs.There.{if_there}

-- both halves between two lines, and what the driver keeps
pub record Halves (R : Type 0) : Type 0 where
  pub world : World
  pub raw : Raw R
  pub known : DriverRecord

-- an operation, the k-th line of its script. The reply is that of the abstract devices, with the operation placed, among its events,
-- where the trace over the raw machine has its marked access
abbrev pub operation_does : {R : Type 0} → BusDefinition R → Operation → List EventAt → ℕ → Halves R → Did (Halves R)
operation_does bus op events k h =
    let t = trace_of bus h.raw h.known op events in
    let o = placed_line bus.kind h.world op events t.place in
    record {
      told = record { kind = Asked; trace = happening_lines t.happenings; text = reply_line k o.reply t.place t.count; accesses = Some t.count };
      state = record { world = o.world; raw = t.raw; known = t.result.known };
    }

-- what a line of a script does on a bus: an event between operations happens in both halves, and prints nothing
abbrev pub line_does : {R : Type 0} → BusDefinition R → Spelled (Operation × List EventAt) → ℕ → Halves R → Did (Halves R)
line_does bus Nothing k h = record { told = record { kind = Blank; trace = []; text = []; accesses = None }; state = h }
line_does bus (Happens e) k h = record {
  told = record { kind = Event; trace = []; text = []; accesses = None };
  state = record { world = happen h.world e; raw = raw_event bus.table h.raw e; known = h.known };
}
line_does bus (Asks asked) k h = operation_does bus asked.0 asked.1 k h

-- both halves at the start
abbrev pub new_halves : {R : Type 0} → BusDefinition R → List (List ℕ) → Bool → Halves R
new_halves bus sectors read_only = record { world = new_world (record { sectors = sectors; read_only = read_only }); raw = new_raw bus.table; known = new_record }

-- the scripts of driver operations and events, on a bus
abbrev pub driven_script : {R : Type 0} → BusDefinition R → Script (Halves R)
driven_script bus = record {
  start = new_halves bus;
  line = λ line. option_map (line_does bus) (if_there (script_line line));
  last = λ h sectors outcomes. end_text h.world.contents.network.sent h.world.contents.console.console sectors outcomes;
}
