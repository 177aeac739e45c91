-- An operation in progress, step by step.
use Rattle.std.proofs.Common.{◌≡◌, ℕ, suc, List, [], ◌∷◌, arith}
use Rattle.vt_types.specs.declared.access.Answer.{Answer}
use Rattle.vt_types.specs.declared.operation.Event.{Event}
use Rattle.vt_types.specs.declared.operation.EventAt.{EventAt}
use Rattle.vt_types.specs.Access.{AccessValue}
use Rattle.vt_types.specs.Operation.{Operation}
use Rattle.vt_types.specs.Program.{Program, Do, End}
use Rattle.abstract_devices.specs.World.{World}
use Rattle.abstract_devices.specs.Operate.{Outcome, happen}
use Rattle.dev_core.specs.Bus.{Raw, raw_access, raw_event}
use Rattle.drv_core.specs.Driver.{Ended}
use Rattle.interleaving.specs.BusDefinition.{BusDefinition}
use Rattle.interleaving.specs.InProgress.{InProgress, with_event}
use Rattle.interleaving.specs.Safe.{Relation}

abbrev now : Event → EventAt
now e = record { event = e; gap = 0 }

module _ {R : Type 0} (bus : BusDefinition R) (rel : Relation R) (op : Operation) where
  -- an access keeps it in progress
  pub access_step : (a : AccessValue) (rest : Answer → List ℕ → Program Ended) (n : ℕ) (w : World) (o : Outcome) (raw : Raw R) → InProgress bus rel op (Do a rest) n w o raw
      → InProgress bus rel op (rest (raw_access bus.table a raw).0 (raw_access bus.table a raw).1) n w o (raw_access bus.table a raw).2
  access_step a rest n w o raw h = record { runs = h.runs [] n (omega arith) }

  -- an event before an access is one of those that may come
  pub event_step : (a : AccessValue) (rest : Answer → List ℕ → Program Ended) (n : ℕ) (w : World) (o : Outcome) (raw : Raw R) (e : Event) → InProgress bus rel op (Do a rest) (suc n) w o raw
      → InProgress bus rel op (Do a rest) n (happen w e) (with_event o e) (raw_event bus.table raw e)
  event_step a rest n w o raw e h = record { runs = λ es left is. h.runs (now e ∷ es) left (omega (arith, is)) }

  -- so is one after the end
  pub event_after_step : (x : Ended) (n : ℕ) (w : World) (o : Outcome) (raw : Raw R) (e : Event) → InProgress bus rel op (End x) (suc n) w o raw
      → InProgress bus rel op (End x) n (happen w e) (with_event o e) (raw_event bus.table raw e)
  event_after_step x n w o raw e h = record { runs = record { reply_is = h.runs.reply_is; related = λ es left is. h.runs.related (now e ∷ es) left (omega (arith, is)) } }

  -- at the end the reply is that of the operation, and the relation holds again
  pub end_step : (x : Ended) (n : ℕ) (w : World) (o : Outcome) (raw : Raw R) → InProgress bus rel op (End x) n w o raw → (o.reply ≡ x.reply) × rel o.world raw x.known
  end_step x n w o raw h = (h.runs.reply_is, h.runs.related [] n (omega arith))
