-- A mark, and what is known of the operation there.
use Rattle.std.proofs.Common.{◌≡◌, ℕ, sym, subst}
use Rattle.vt_types.specs.Operation.{Operation}
use Rattle.vt_types.specs.Program.{Program, Mark}
use Rattle.vt_types.specs.Reply.{ReplyValue}
use Rattle.abstract_devices.specs.World.{World}
use Rattle.abstract_devices.specs.Operate.{Outcome, operate}
use Rattle.dev_core.specs.Bus.{Raw}
use Rattle.interleaving.specs.BusDefinition.{BusDefinition}
use Rattle.interleaving.specs.Safe.{Ending, Safe}

module _ {R X : Type 0} {bus : BusDefinition R} {op : Operation} {ending : Ending R X} {program : Program X} {n : ℕ} {w : World} {raw : Raw R} where
  -- from a mark on the operation has happened
  pub safe_mark : {v : World} {reply : ReplyValue} → Safe bus op ending program n w (operate bus.kind w op).world (operate bus.kind w op).reply raw
      → Safe bus op ending (Mark program) n w v reply raw
  safe_mark h = record { runs = h.runs }

  -- the same, where its outcome is known
  pub safe_mark_as : {v : World} {reply : ReplyValue} {o : Outcome} → operate bus.kind w op ≡ o → Safe bus op ending program n w o.world o.reply raw
      → Safe bus op ending (Mark program) n w v reply raw
  safe_mark_as is h = safe_mark (subst (λ (o : Outcome). Safe bus op ending program n w o.world o.reply raw) (sym is) h)

  -- at the start, where the operation counts as done
  pub safe_start_as : {o : Outcome} → operate bus.kind w op ≡ o → Safe bus op ending program n w o.world o.reply raw
      → Safe bus op ending program n w (operate bus.kind w op).world (operate bus.kind w op).reply raw
  safe_start_as is h = subst (λ (o : Outcome). Safe bus op ending program n w o.world o.reply raw) (sym is) h
