use Rattle.std.specs.Prelude.{◌≡◌, ℕ, ◌+◌, ◌≤◌, List, length}
use Rattle.vt_types.specs.declared.operation.Event.{Event}
use Rattle.vt_types.specs.Access.{AccessValue}
use Rattle.guest_mem.specs.Memory.{part, put_at}
use Rattle.memory_port.specs.Puts.{Hold}
use Rattle.abstract_devices.specs.World.{World}
use Rattle.dev_core.specs.Bus.{Raw, raw_event}
use Rattle.interleaving.specs.BusDefinition.{BusDefinition}
use Rattle.interleaving.specs.Kept.{Invariant, Kept}

-- the raw machine after a put inside memory
abbrev pub with_put : {R : Type 0} → Raw R → ℕ → List ℕ → Raw R
with_put raw addr bytes = record raw { memory = put_at raw.memory addr bytes }

-- Locations that are free under an invariant: they lie inside memory, a put there keeps the invariant, and events keep what
-- stands there.
pub record FreeLocations {R : Type 0} (bus : BusDefinition R) (inv : Invariant R) (free : ℕ → ℕ → Type 0) : Type 0 where
  pub kept : Kept bus inv
  pub inside : (w : World) (raw : Raw R) (addr count : ℕ) → inv w raw → free addr count → addr + count ≤ length raw.memory
  pub put : (w : World) (raw : Raw R) (addr : ℕ) (bytes : List ℕ) → inv w raw → free addr (length bytes) → inv w (with_put raw addr bytes)
  pub stays : (w : World) (raw : Raw R) (e : Event) (addr count : ℕ) → inv w raw → free addr count → part (raw_event bus.table raw e).memory addr count ≡ part raw.memory addr count

-- the invariant, and what was put stands
abbrev pub Holding : {R : Type 0} → Invariant R → List AccessValue → Invariant R
Holding inv puts w raw = inv w raw × Hold puts raw.memory
