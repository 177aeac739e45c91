use Rattle.vt_outside.proofs.TextLaws.{prefix_append}
use Rattle.report_out.proofs.SendLaws.{sends_front, sends_then}
use Rattle.line_runner.proofs.runner.send_line.Goals as goal

pub returns-in-Ok : goal.returns-in-Ok
returns-in-Ok g c = rw c.if-not-traces.false (sends_then _ _ _ _ _ _ (rw c.in-Ok.is at c.send-2.ensures) c.send-in-Ok.ensures)

pub returns-in-Err : goal.returns-in-Err
returns-in-Err g c = rw c.if-not-traces.false (sends_front _ _ c.args.trace.now _ _ (prefix_append _ _) (rw c.in-Err.is at c.send-2.ensures))
