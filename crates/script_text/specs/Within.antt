use Rattle.std.specs.Prelude.{List}
use Rattle.vt_types.specs.declared.operation.EventAt.{EventAt}
use Rattle.vt_types.specs.Access.{AccessValue, IsWithinLimits}
use Rattle.vt_types.specs.Operation.{Operation}
use Rattle.vt_types.specs.Within.{IsEventWithin, IsOperationWithin, AreEventsWithin}
use Rattle.script_text.specs.Line.{Spelled, Nothing, Happens, Asks}

-- those of a line of a script
abbrev pub IsLineWithin : Spelled (Operation × List EventAt) → Type 0
IsLineWithin Nothing = Unit {0}
IsLineWithin (Happens e) = IsEventWithin e
IsLineWithin (Asks asked) = IsOperationWithin asked.0 × AreEventsWithin asked.1

-- those of a line of a raw script: its access is one that a port takes
abbrev pub IsRawLineWithin : Spelled AccessValue → Type 0
IsRawLineWithin Nothing = Unit {0}
IsRawLineWithin (Happens e) = IsEventWithin e
IsRawLineWithin (Asks access) = IsWithinLimits access
