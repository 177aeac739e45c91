use Rattle.std.proofs.Common.{[]}
use Rattle.line_runner.proofs.EndLaws.{console_sent, console_unsent}
use Rattle.report_out.specs.EndText.{end_text}
use Rattle.line_runner.proofs.runner.Runner.run_to_disk.Goals as goal

pub returns-in-Ok-send_console-clause-runs : goal.returns-in-Ok-send_console-clause-runs
returns-in-Ok-send_console-clause-runs g c =
    let console = c.console.result.now in
    let ran = c.in-Ok-eq0.ensures.runs (end_text [] console) (record { prints = λ zero state image outcomes represents. c.console.ensures state image outcomes represents }) in
    console_sent _ _ console _ _ _ _ _ _ _ (rw c.in-Ok-eq0.field-0-test at ran) (rw c.in-Ok-send_console.is at c.send_console.ensures.sends)

pub returns-in-Err-send_console-clause-runs : goal.returns-in-Err-send_console-clause-runs
returns-in-Err-send_console-clause-runs g c =
    let console = c.console.result.now in
    let ran = c.in-Ok-eq0.ensures.runs (end_text [] console) (record { prints = λ zero state image outcomes represents. c.console.ensures state image outcomes represents }) in
    console_unsent _ _ console _ _ _ _ _ _ _ _ (rw c.in-Ok-eq0.field-0-test at ran) (rw c.in-Err-send_console.is at c.send_console.ensures.sends)
