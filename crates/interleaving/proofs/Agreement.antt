-- A program that is safe to run gives the reply and the world of the placed line.
use Rattle.std.proofs.Common.{◌≡◌, ℕ, zero, suc, ◌+◌, ◌≤◌, List, [], ◌++◌, length, sym, ◌∙◌, ap, subst, arith, append_assoc, length-append}
use Rattle.std.proofs.lemmas.Grind.{common_steps}
use Rattle.vt_types.specs.declared.access.Answer.{Answer}
use Rattle.vt_types.specs.declared.device.BusKind.{BusKind}
use Rattle.vt_types.specs.declared.operation.EventAt.{EventAt}
use Rattle.vt_types.specs.Operation.{Operation}
use Rattle.vt_types.specs.Program.{Program, Do, Mark, End}
use Rattle.abstract_devices.specs.World.{World}
use Rattle.abstract_devices.specs.Operate.{Outcome, happen_all, operate, with_later, placed_line}
use Rattle.dev_core.specs.Bus.{Raw, raw_access}
use Rattle.vt_machine.specs.Trace.{Trace, raw_events, due, later, trace_from}
use Rattle.drv_core.specs.Driver.{DriverRecord, Ended}
use Rattle.interleaving.specs.BusDefinition.{BusDefinition, trace_with}
use Rattle.interleaving.specs.Safe.{Relation, Runs, Safe, Ends}
use Rattle.interleaving.specs.Agrees.{AgreeBoth, Agrees}
use Rattle.interleaving.proofs.Placed.{happen_all-append, due-append-later, placed_line-append, placed_line-last}

module _ {R : Type 0} (bus : BusDefinition R) (rel : Relation R) (op : Operation) (start : World) where
  -- the trace of what is left after an access agrees
  abbrev Goes : (Answer → List ℕ → Program Ended) → Answer × List ℕ × Raw R → List EventAt → ℕ → ℕ → ℕ → List EventAt → Type 0
  Goes rest did left count place happened all =
      let t = trace_from bus.table (rest did.0 did.1) did.2 left (count + 1) happened place in
      Agrees rel (placed_line bus.kind start op all t.place) t

  -- a program that is safe to run after the earlier events agrees with the operation placed at its last mark
  agrees_from : (program : Program Ended) (earlier events : List EventAt) (raw : Raw R) (count place : ℕ) → place ≤ length earlier
      → Runs bus op (Ends bus rel) program (length events) (happen_all start earlier) (placed_line bus.kind start op earlier place).world (placed_line bus.kind start op earlier place).reply raw
      → Agrees rel (placed_line bus.kind start op (earlier ++ events) (trace_from bus.table program raw events count (length earlier) place).place) (trace_from bus.table program raw events count (length earlier) place)
  agrees_from (Do a rest) earlier events raw count place le runs =
      let now = due count events in
      let left = later count events in
      let all : now ++ left ≡ events = due-append-later count events in
      let long : length events ≡ length now + length left = ap length (sym all) ∙ length-append now left in
      let did = raw_access bus.table a (raw_events bus.table raw now) in
      let o : Outcome = placed_line bus.kind start op earlier place in
      let onward = runs now (length left) long in
      let more : place ≤ length (earlier ++ now) = grind (arith, common_steps) in
      let onward2 = subst (λ (w : World). Runs bus op (Ends bus rel) (rest did.0 did.1) (length left) w (with_later now o).world o.reply did.2)
      (sym (happen_all-append earlier now start)) onward in
      let onward3 = subst (λ (o : Outcome). Runs bus op (Ends bus rel) (rest did.0 did.1) (length left) (happen_all start (earlier ++ now)) o.world o.reply did.2)
      (sym (placed_line-append bus.kind start op earlier now place le)) onward2 in
      let tail = agrees_from (rest did.0 did.1) (earlier ++ now) left did.2 (count + 1) place more onward3 in
      let tail2 = subst (Goes rest did left count place (length (earlier ++ now))) (append_assoc earlier now left ∙ ap (λ l. earlier ++ l) all) tail in
      let tail3 = subst (λ h. Goes rest did left count place h (earlier ++ events)) (length-append earlier now) tail2 in
      record { reply = tail3.reply; related = tail3.related }
  agrees_from (Mark rest) earlier events raw count place le runs =
      agrees_from rest earlier events raw count (length earlier) (omega arith)
      (subst (λ (o : Outcome). Runs bus op (Ends bus rel) rest (length events) (happen_all start earlier) o.world o.reply raw) (sym (placed_line-last bus.kind start op earlier)) runs)
  agrees_from (End e) earlier events raw count place le ends =
      let long : length events ≡ length events + 0 = omega arith in
      let after_all : Agrees rel (with_later events (placed_line bus.kind start op earlier place)) (trace_from bus.table (End e) raw events count (length earlier) place)
      = record { reply = ends.reply_is; related = ends.related events 0 long } in
      subst (λ (o : Outcome). Agrees rel o (trace_from bus.table (End e) raw events count (length earlier) place)) (sym (placed_line-append bus.kind start op earlier events place le)) after_all

-- an operation whose lowering is safe to run agrees with the abstract devices, whatever events come
pub interleaved_with : {R : Type 0} (bus : BusDefinition R) (rel : Relation R) (op : Operation) (w : World) (raw : Raw R) (known : DriverRecord) (events : List EventAt) (repeats : ℕ)
    → Safe bus op (Ends bus rel) (bus.lowering known op repeats) (length events) w (operate bus.kind w op).world (operate bus.kind w op).reply raw
    → Agrees rel (placed_line bus.kind w op events (trace_with bus raw known op events repeats).place) (trace_with bus raw known op events repeats)
interleaved_with bus rel op w raw known events repeats safe = agrees_from bus rel op w (bus.lowering known op repeats) [] events raw 0 0 (omega arith) safe.runs

-- without events it is the operation on the world as it was
pub at_rest : {R : Type 0} (rel : Relation R) (kind : BusKind) (w : World) (op : Operation) (place : ℕ) (t : Trace R Ended) → Agrees rel (placed_line kind w op [] place) t → Agrees rel (operate kind w op) t
at_rest rel kind w op zero t h = h
at_rest rel kind w op (suc place) t h = h

-- two machines that are related to one world
pub agree_both : {R : Type 0} (rel : Relation R) (o : Outcome) (t t2 : Trace R Ended) → Agrees rel o t → Agrees rel o t2 → AgreeBoth rel o t t2
agree_both rel o t t2 first second = record { first = first; second = second; same = sym first.reply ∙ second.reply }
