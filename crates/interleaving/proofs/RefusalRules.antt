-- An operation that both halves refuse for the same reason, and one that neither does.
use Rattle.std.proofs.Common.{◌≡◌, ℕ, Option, Some, None, refl, ap, subst}
use Rattle.vt_types.specs.declared.device.BusKind.{BusKind}
use Rattle.vt_types.specs.declared.reply.Why.{Why}
use Rattle.vt_types.specs.Operation.{Operation, device_of}
use Rattle.vt_types.specs.Reply.{ReplyValue}
use Rattle.vt_types.specs.Reply as reply
use Rattle.state_table.specs.Refusal.{refusal_of}
use Rattle.abstract_devices.specs.World.{World, device, known_of}
use Rattle.abstract_devices.specs.Operate.{operate, operate_allowed, unless_refused}
use Rattle.dev_core.specs.Bus.{Raw}
use Rattle.by_device.specs.ByDevice.{of}
use Rattle.drv_core.specs.Driver.{DriverRecord, Ended, ends}
use Rattle.drv_core.specs.Driver as driver
use Rattle.drv_core.specs.Lowering.{Lowering, lowered}
use Rattle.drv_core.specs.Lowering as lowering
use Rattle.interleaving.specs.BusDefinition.{BusDefinition}
use Rattle.interleaving.specs.Kept.{Kept}
use Rattle.interleaving.specs.Safe.{Relation, Safe, Ends}
use Rattle.interleaving.proofs.MarkRules.{safe_start_as}
use Rattle.interleaving.proofs.ProgramRules.{safe_ended}

-- for what reason the abstract devices refuse an operation, and for what reason the driver does
abbrev pub refusal_in : World → Operation → Option Why
refusal_in w op = refusal_of (known_of (device w (device_of op))) op

abbrev pub refusal_by : DriverRecord → Operation → Option Why
refusal_by known op = refusal_of (driver.known_of (of known (device_of op))) op

-- the abstract operation, where its refusal is known
pub operate_refused : (bus : BusKind) (w : World) (op : Operation) (reason : Why) → refusal_in w op ≡ Some reason → operate bus w op ≡ record { world = w; reply = reply.Refused reason }
operate_refused bus w op reason is = ap (λ refused. unless_refused refused w (operate_allowed bus w op)) is

pub operate_is_allowed : (bus : BusKind) (w : World) (op : Operation) → refusal_in w op ≡ None → operate bus w op ≡ operate_allowed bus w op
operate_is_allowed bus w op is = ap (λ refused. unless_refused refused w (operate_allowed bus w op)) is

module _ {R : Type 0} (bus : BusDefinition R) (rel : Relation R) (op : Operation) (known : DriverRecord) (kept : Kept bus (λ w raw. rel w raw known)) where
  -- an operation that is refused makes no access
  pub safe_refused : {n : ℕ} {w : World} {raw : Raw R} (reason : Why) → refusal_in w op ≡ Some reason → rel w raw known
      → Safe bus op (Ends bus rel) (ends (reply.Refused reason) known) n w (operate bus.kind w op).world (operate bus.kind w op).reply raw
  safe_refused {w = w} reason is holds = safe_start_as (operate_refused bus.kind w op reason is) (safe_ended kept refl holds)

  -- a lowering is safe to run where that of what is not refused is
  pub safe_lowered : (allowed : Lowering) (repeats : ℕ) {n : ℕ} {w : World} {raw : Raw R} → refusal_in w op ≡ refusal_by known op → rel w raw known
      → (refusal_in w op ≡ None → Safe bus op (Ends bus rel) (allowed known op repeats) n w (operate_allowed bus.kind w op).world (operate_allowed bus.kind w op).reply raw)
      → Safe bus op (Ends bus rel) (lowered allowed known op repeats) n w (operate bus.kind w op).world (operate bus.kind w op).reply raw
  safe_lowered allowed repeats {n = n} {w = w} {raw = raw} same holds next =
      subst (λ refused. Safe bus op (Ends bus rel) (lowering.unless_refused known refused (allowed known op repeats)) n w (operate bus.kind w op).world (operate bus.kind w op).reply raw) same
      (cases (refusal_in w op) refl)
    where
      cases : (refused : Option Why) → refusal_in w op ≡ refused
          → Safe bus op (Ends bus rel) (lowering.unless_refused known refused (allowed known op repeats)) n w (operate bus.kind w op).world (operate bus.kind w op).reply raw
      cases None is = safe_start_as (operate_is_allowed bus.kind w op is) (next is)
      cases (Some reason) is = safe_refused reason is holds
