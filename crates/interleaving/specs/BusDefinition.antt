use Rattle.std.specs.Prelude.{ℕ, ◌+◌, List, length}
use Rattle.vt_types.specs.declared.device.BusKind.{BusKind}
use Rattle.vt_types.specs.declared.operation.EventAt.{EventAt}
use Rattle.vt_types.specs.Operation.{Operation}
use Rattle.dev_core.specs.Bus.{BusTable, Raw}
use Rattle.vt_machine.specs.Trace.{Trace, trace_from}
use Rattle.drv_core.specs.Driver.{DriverRecord, Ended}
use Rattle.drv_core.specs.Lowering.{Lowering}

-- a bus over its registers, with the accesses of its driver: its table, its lowering, and its kind
pub record BusDefinition (R : Type 0) : Type 0 where
  pub table : BusTable R
  pub lowering : Lowering
  pub kind : BusKind

-- a bus with a driver on it
abbrev pub driven : {R : Type 0} → BusTable R → Lowering → BusKind → BusDefinition R
driven table lowering kind = record { table = table; lowering = lowering; kind = kind }

-- the trace of an operation with its events and so many repeats
abbrev pub trace_with : {R : Type 0} → BusDefinition R → Raw R → DriverRecord → Operation → List EventAt → ℕ → Trace R Ended
trace_with bus raw known op events repeats = trace_from bus.table (bus.lowering known op repeats) raw events 0 0 0

-- the trace of an operation with its events: one repeat more than there are events
abbrev pub trace_of : {R : Type 0} → BusDefinition R → Raw R → DriverRecord → Operation → List EventAt → Trace R Ended
trace_of bus raw known op events = trace_with bus raw known op events (length events + 1)
