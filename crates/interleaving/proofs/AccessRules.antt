-- An access is safe to run under an invariant that events keep.
use Rattle.std.proofs.Common.{ℕ, List}
use Rattle.vt_types.specs.declared.access.Answer.{Answer}
use Rattle.vt_types.specs.Access.{AccessValue}
use Rattle.vt_types.specs.Operation.{Operation}
use Rattle.vt_types.specs.Program.{Program, Do}
use Rattle.vt_types.specs.Reply.{ReplyValue}
use Rattle.abstract_devices.specs.World.{World}
use Rattle.abstract_devices.specs.Operate.{happen_all}
use Rattle.dev_core.specs.Bus.{Raw, raw_access}
use Rattle.vt_machine.specs.Trace.{raw_events}
use Rattle.interleaving.specs.BusDefinition.{BusDefinition}
use Rattle.interleaving.specs.Kept.{Invariant, Kept, KeptWhole}
use Rattle.interleaving.specs.Safe.{Knows, Ending, Safe}
use Rattle.interleaving.proofs.KeptLaws.{kept_all, kept_whole_all}

-- what follows an access is safe to run
abbrev pub SafeOnward : {R X : Type 0} → BusDefinition R → Operation → Ending R X → AccessValue → (Answer → List ℕ → Program X) → ℕ → World → World → ReplyValue → Raw R → Type 0
SafeOnward bus op ending a rest n w v reply raw =
    let did = raw_access bus.table a raw in Safe bus op ending (rest did.0 did.1) n w v reply did.2

module _ {R X : Type 0} {bus : BusDefinition R} {op : Operation} {ending : Ending R X} where
  -- in general
  pub safe_access : {a : AccessValue} {rest : Answer → List ℕ → Program X} {n : ℕ} {w v : World} {reply : ReplyValue} {raw : Raw R}
      (inv : Knows R) → KeptWhole bus inv → inv n w v raw
      → ((n : ℕ) (w v : World) (raw : Raw R) → inv n w v raw → SafeOnward bus op ending a rest n w v reply raw)
      → Safe bus op ending (Do a rest) n w v reply raw
  safe_access {n = n} {w = w} {v = v} {raw = raw} inv kept holds next =
      record { runs = λ es left is. (next left (happen_all w es) (happen_all v es) (raw_events bus.table raw es) (kept_whole_all bus inv kept es n left w v raw is holds)).runs }

  -- before the mark: an invariant of the world without the operation
  pub safe_before : {a : AccessValue} {rest : Answer → List ℕ → Program X} {n : ℕ} {w v : World} {reply : ReplyValue} {raw : Raw R}
      (inv : Invariant R) → Kept bus inv → inv w raw
      → ((n : ℕ) (w v : World) (raw : Raw R) → inv w raw → SafeOnward bus op ending a rest n w v reply raw)
      → Safe bus op ending (Do a rest) n w v reply raw
  safe_before {w = w} {v = v} {raw = raw} inv kept holds next =
      record { runs = λ es left is. (next left (happen_all w es) (happen_all v es) (raw_events bus.table raw es) (kept_all bus inv kept es w raw holds)).runs }

  -- after the mark: of the world with it
  pub safe_after : {a : AccessValue} {rest : Answer → List ℕ → Program X} {n : ℕ} {w v : World} {reply : ReplyValue} {raw : Raw R}
      (inv : Invariant R) → Kept bus inv → inv v raw
      → ((n : ℕ) (w v : World) (raw : Raw R) → inv v raw → SafeOnward bus op ending a rest n w v reply raw)
      → Safe bus op ending (Do a rest) n w v reply raw
  safe_after {w = w} {v = v} {raw = raw} inv kept holds next =
      record { runs = λ es left is. (next left (happen_all w es) (happen_all v es) (raw_events bus.table raw es) (kept_all bus inv kept es v raw holds)).runs }
