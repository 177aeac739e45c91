use Rattle.std.specs.Prelude.{ℕ}
use Rattle.vt_types.specs.declared.operation.Event.{Event}
use Rattle.vt_types.specs.Operation.{Operation}
use Rattle.vt_types.specs.Program.{Program}
use Rattle.abstract_devices.specs.World.{World}
use Rattle.abstract_devices.specs.Operate.{Outcome, happen}
use Rattle.dev_core.specs.Bus.{Raw}
use Rattle.drv_core.specs.Driver.{Ended}
use Rattle.interleaving.specs.BusDefinition.{BusDefinition}
use Rattle.interleaving.specs.Safe.{Relation, Safe, Ends}

-- An operation of which this program is left: at most n events may still come; the world without the operation, its outcome where
-- its last mark was (before any mark, at its start), and the raw machine.
abbrev pub InProgress : {R : Type 0} → BusDefinition R → Relation R → Operation → Program Ended → ℕ → World → Outcome → Raw R → Type 0
InProgress bus rel op program n w o raw = Safe bus op (Ends bus rel) program n w o.world o.reply raw

-- the outcome with one event more
abbrev pub with_event : Outcome → Event → Outcome
with_event o e = record { world = happen o.world e; reply = o.reply }
