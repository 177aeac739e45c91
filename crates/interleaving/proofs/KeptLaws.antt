-- What each event keeps, any number of them keep.
use Rattle.std.proofs.Common.{◌≡◌, ℕ, suc, ◌+◌, List, [], ◌∷◌, length, refl, subst, arith}
use Rattle.vt_types.specs.declared.operation.EventAt.{EventAt}
use Rattle.abstract_devices.specs.World.{World}
use Rattle.abstract_devices.specs.Operate.{happen, happen_all}
use Rattle.dev_core.specs.Bus.{Raw, raw_event}
use Rattle.vt_machine.specs.Trace.{raw_events}
use Rattle.interleaving.specs.BusDefinition.{BusDefinition}
use Rattle.interleaving.specs.Kept.{Invariant, Kept, KeptWhole}
use Rattle.interleaving.specs.Safe.{Knows}

module _ {R : Type 0} (bus : BusDefinition R) where
  pub kept_all : (inv : Invariant R) → Kept bus inv → (es : List EventAt) (w : World) (raw : Raw R) → inv w raw → inv (happen_all w es) (raw_events bus.table raw es)
  kept_all inv kept [] w raw h = h
  kept_all inv kept (e ∷ es) w raw h = kept_all inv kept es (happen w e.event) (raw_event bus.table raw e.event) (kept w raw e.event h)

  pub kept_whole_all : (inv : Knows R) → KeptWhole bus inv → (es : List EventAt) (n left : ℕ) (w v : World) (raw : Raw R) → n ≡ length es + left
      → inv n w v raw → inv left (happen_all w es) (happen_all v es) (raw_events bus.table raw es)
  kept_whole_all inv kept [] n left w v raw is h = subst (λ n. inv n w v raw) (let same : n ≡ left = omega (arith, is) in same) h
  kept_whole_all inv kept (e ∷ es) n left w v raw is h =
      let more : n ≡ suc (length es + left) = omega (arith, is) in
      kept_whole_all inv kept es (length es + left) left (happen w e.event) (happen v e.event) (raw_event bus.table raw e.event) refl
      (kept (length es + left) w v raw e.event (subst (λ n. inv n w v raw) more h))
