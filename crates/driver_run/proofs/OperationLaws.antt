-- An operation that was run with its events is that of its script.
use Rattle.std.proofs.Common.{◌≡◌, ℕ, ◌+◌, ◌≤◌, List, [], length, sym, ap, subst, ◌∙◌, arith, lit≤}
use Rattle.vt_types.specs.declared.operation.EventAt.{EventAt}
use Rattle.vt_types.specs.Events.{MOST_EVENTS}
use Rattle.vt_types.specs.Operation.{Operation}
use Rattle.vt_types.specs.Program.{CountsAtMost, Gives}
use Rattle.vt_types.specs.Reply.{ReplyValue}
use Rattle.report_text.specs.Access.{longest_access_line}
use Rattle.report_text.specs.Reply.{reply_line}
use Rattle.report_text.specs.Text.{LINE_SPARE}
use Rattle.abstract_devices.specs.Operate.{placed_line}
use Rattle.vt_machine.specs.Happens.{Happens}
use Rattle.vt_machine.specs.IsTraced.{IsTraced}
use Rattle.vt_machine.specs.Machine.{MachineMark, MachineStep, MachineView, longest_lines}
use Rattle.vt_machine.specs.Trace.{trace_from}
use Rattle.vt_machine.proofs.TraceLaws.{operation_traced}
use Rattle.drv_core.specs.Driver.{DriverRecord, Ended}
use Rattle.interleaving.specs.Agrees.{Agrees}
use Rattle.vt_machine.specs.Lines.{LONGEST_TRACE}
use Rattle.interleaving.specs.BusDefinition.{BusDefinition, trace_of}
use Rattle.interleaving.specs.Safe.{Relation}
use Rattle.line_runner.specs.Shows.{RunsAs}
use Rattle.driver_run.specs.DrivenScript.{Halves, operation_does}
use Rattle.driver_run.specs.Represents.{IsReserved, Represents}
use Rattle.driver_run.proofs.SentLaws.{placed_line-sent}

module _ {R : Type 0} (bus : BusDefinition R) where
  -- what the driver gave over the machine, and the events that were left then, are the trace of the operation
  pub operated : (op : Operation) (events : List EventAt) (repeats : ℕ) (before m m2 m3 : MachineView R) (kept : DriverRecord) (e : Ended) → repeats ≡ length events + 1 → IsReserved before
      → length events ≤ MOST_EVENTS → CountsAtMost longest_access_line (bus.lowering kept op repeats) LONGEST_TRACE → m ≡ record before { left = events; count = 0; happened = 0; place = 0; lines = [] }
      → Gives (MachineStep bus.table) MachineMark (bus.lowering kept op repeats) m e m2 → Happens bus.table m2.left [] m2 m3
      → IsTraced (trace_of bus before.raw kept op events) e (record before { lines = [] }) m3
  operated op events repeats before m m2 m3 kept e count reserved few short begun gives last =
      let spare : LONGEST_TRACE + longest_lines events + LINE_SPARE ≤ before.line_spare = omega (arith, reserved.lines, few) in
      let t = operation_traced bus.table (bus.lowering kept op repeats) events before m m2 m3 e LONGEST_TRACE begun short spare (lit≤ tt) gives last in
      let t2 = subst (λ n. IsTraced (trace_from bus.table (bus.lowering kept op n) before.raw events 0 0 0) e m m3) count t in
      record { result = t2.result; raw = t2.raw; count = t2.count; place = t2.place; lines = rw begun at t2.lines; disk = rw begun at t2.disk }

  -- the trace and the text are those of the operation, and the halves after it are related
  pub operation_runs : (rel : Relation R) (op : Operation) (events : List EventAt) (k : ℕ) (h : Halves R) (before m : MachineView R) (kept kept2 : DriverRecord) (reply : ReplyValue) (text : List ℕ)
      → Represents rel before kept h → IsTraced (trace_of bus before.raw kept op events) (record { reply = reply; known = kept2 }) (record before { lines = [] }) m
      → Agrees rel (placed_line bus.kind h.world op events (trace_of bus h.raw h.known op events).place) (trace_of bus h.raw h.known op events)
      → text ≡ reply_line k reply m.place m.count → RunsAs (operation_does bus op events k h) (Represents rel m kept2) m.lines text
  operation_runs rel op events k h before m kept kept2 reply text represents traced agrees printed =
      let ended : Ended = record { reply = reply; known = kept2 } in
      let start : MachineView R = record before { lines = [] } in
      let at_raw = subst (λ raw. IsTraced (trace_of bus raw kept op events) ended start m) represents.raw traced in
      let t = subst (λ known. IsTraced (trace_of bus h.raw known op events) ended start m) represents.known at_raw in
      let replied = agrees.reply ∙ ap (λ (e : Ended). e.reply) t.result in
      record {
        traced = t.lines;
        printed = rw (replied, t.place, t.count) printed;
        state = record {
          raw = sym t.raw;
          known = sym (ap (λ (e : Ended). e.known) t.result);
          related = agrees.related;
          sent = placed_line-sent bus.kind h.world op events (trace_of bus h.raw h.known op events).place ∙ represents.sent;
        };
      }
