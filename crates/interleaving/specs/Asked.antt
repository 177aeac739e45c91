use Rattle.std.specs.Prelude.{IsTrue}
use Rattle.vt_types.specs.Operation.{Operation, device_of}
use Rattle.vt_types.specs.Within.{IsOperationWithin}
use Rattle.dev_core.specs.There.{is_there}

-- an operation as a script asks for it: on a device that is there, and within the bounds of the grammar
pub record IsAsked (op : Operation) : Type 0 where
  pub there : IsTrue (is_there (device_of op))
  pub within : IsOperationWithin op
