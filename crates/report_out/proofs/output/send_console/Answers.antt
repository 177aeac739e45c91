use Rattle.report_out.proofs.EndLaws.{console_opened, console_told, console_whole}
use Rattle.report_out.proofs.SendLaws.{sends_as, sends_front, sends_then}
use Rattle.report_out.proofs.output.send_console.Goals as goal

pub returns-in-Err-clause-sends : goal.returns-in-Err-clause-sends
returns-in-Err-clause-sends g c = sends_front _ _ _ _ _ (console_opened c.args.console.now) c.in-Err.ensures

pub returns-in-Err-send_hex-clause-sends : goal.returns-in-Err-send_hex-clause-sends
returns-in-Err-send_hex-clause-sends g c =
    sends_front _ _ _ _ _ (console_told c.args.console.now) (sends_then _ _ _ _ _ _ c.in-Ok.ensures c.in-Err-send_hex.ensures.sends)

pub returns-clause-sends : goal.returns-clause-sends
returns-clause-sends g c =
    sends_as _ _ _ _ _ (console_whole c.args.console.now)
    (sends_then _ _ _ _ _ _ (sends_then _ _ _ _ _ _ c.in-Ok.ensures c.in-Ok-send_hex.ensures.sends) c.send-2.ensures)
