use Rattle.std.specs.Prelude.{ℕ, suc}
use Rattle.vt_types.specs.declared.operation.Event.{Event}
use Rattle.abstract_devices.specs.World.{World}
use Rattle.abstract_devices.specs.Operate.{happen}
use Rattle.dev_core.specs.Bus.{Raw, raw_event}
use Rattle.interleaving.specs.BusDefinition.{BusDefinition}
use Rattle.interleaving.specs.Safe.{Knows}

-- what is known of one world and the raw machine
abbrev pub Invariant : Type 0 → Type 1
Invariant R = World → Raw R → Type 0

-- events keep it
abbrev pub Kept : {R : Type 0} → BusDefinition R → Invariant R → Type 0
Kept {R} bus inv = (w : World) (raw : Raw R) (e : Event) → inv w raw → inv (happen w e) (raw_event bus.table raw e)

-- the same of all that is known: each event is one less that may come
abbrev pub KeptWhole : {R : Type 0} → BusDefinition R → Knows R → Type 0
KeptWhole {R} bus inv = (n : ℕ) (w v : World) (raw : Raw R) (e : Event) → inv (suc n) w v raw → inv n (happen w e) (happen v e) (raw_event bus.table raw e)
