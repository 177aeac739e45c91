use Rattle.std.specs.Prelude.{◌&&◌, List, [], ◌∷◌, Bool, true, Option, Some, None, if◌then◌else◌}
use Rattle.vt_types.specs.declared.operation.EventAt.{EventAt}
use Rattle.vt_types.specs.Operation.{Operation, device_of}
use Rattle.dev_core.specs.There.{is_there, is_event_there}
use Rattle.script_text.specs.Line.{Spelled, Nothing, Happens, Asks}

-- events of such devices alone
abbrev pub are_events_there : List EventAt → Bool
are_events_there [] = true
are_events_there (e ∷ es) = is_event_there e.event && are_events_there es

-- an operation on such a device, with events of such devices
abbrev pub is_operation_there : Operation × List EventAt → Bool
is_operation_there asked = is_there (device_of asked.0) && are_events_there asked.1

-- a line of a script; one that names a device that is not there is not in the grammar
abbrev pub if_there : Option (Spelled (Operation × List EventAt)) → Option (Spelled (Operation × List EventAt))
if_there None = None
if_there (Some Nothing) = Some Nothing
if_there (Some (Happens e)) = if is_event_there e then Some (Happens e) else None
if_there (Some (Asks asked)) = if is_operation_there asked then Some (Asks asked) else None
