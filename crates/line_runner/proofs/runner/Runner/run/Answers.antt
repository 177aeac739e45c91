use Rattle.line_runner.proofs.EndLaws.{reports_fault, reports_part, reports_stop, reports_whole, shows_part, shows_whole, shows_ended}
use Rattle.line_runner.proofs.runner.Runner.run.Goals as goal

pub returns-in-Ok-clause-reports : goal.returns-in-Ok-clause-reports
returns-in-Ok-clause-reports g c =
    rw (c.into_disk-disk.ensures, c.run_to_disk-ran.ensures.disk)
    (reports_fault _ _ _ _ _ _ _ _ _ c.in-Ok.status (rw c.in-Ok.is at c.in-Ok.status-test.1) c.in-Ok.ensures.runs)

pub returns-in-Err-clause-reports : goal.returns-in-Err-clause-reports
returns-in-Err-clause-reports g c =
    rw (c.status.ensures, c.into_disk-disk.ensures, c.run_to_disk-ran.ensures.disk) (reports_stop _ _ _ _ _ _ _ _ _ c.in-Err.stop c.in-Err.ensures.runs)

pub returns-in-Err-clause-shows : goal.returns-in-Err-clause-shows
returns-in-Err-clause-shows g c = rw c.status.ensures (shows_part _ _ _ _ _ _ _ _ _ c.in-Err.stop c.in-Err.ensures.runs)

pub returns-in-Ok-send_disk-clause-reports : goal.returns-in-Ok-send_disk-clause-reports
returns-in-Ok-send_disk-clause-reports g c =
    reports_whole _ _ _ _ _ _ _ _ _ _ _ (rw (c.in-Ok-eq0.is, rw c.in-Ok-eq0.is at c.in-Ok-eq0.field-0-test) at c.run_to_disk-ran.ensures.runs)
    (rw (c.into_disk-disk.ensures, c.run_to_disk-ran.ensures.disk, c.in-Ok-send_disk.is) at c.send_disk.ensures.sends)

pub returns-clause-reports : goal.returns-clause-reports
returns-clause-reports g c =
    rw c.status-in-Err-send_disk.ensures (
    reports_part _ _ _ _ _ _ _ _ _ _ _ c.in-Err-send_disk.stop (rw (c.in-Ok-eq0.is, rw c.in-Ok-eq0.is at c.in-Ok-eq0.field-0-test) at c.run_to_disk-ran.ensures.runs)
    (rw (c.into_disk-disk.ensures, c.run_to_disk-ran.ensures.disk, c.in-Err-send_disk.is) at c.send_disk.ensures.sends)
    )

pub returns-in-Ok-clause-shows : goal.returns-in-Ok-clause-shows
returns-in-Ok-clause-shows g c = shows_ended _ _ _ _ _ _ _ _ _ _ c.in-Ok.ensures.runs

pub returns-in-Ok-send_disk-clause-shows : goal.returns-in-Ok-send_disk-clause-shows
returns-in-Ok-send_disk-clause-shows g c =
    shows_whole _ _ _ _ _ _ _ _ _ _ _ _ _ (rw (c.in-Ok-eq0.is, rw c.in-Ok-eq0.is at c.in-Ok-eq0.field-0-test) at c.run_to_disk-ran.ensures.runs)
    c.send_disk.ensures.sends.adds

pub returns-clause-shows : goal.returns-clause-shows
returns-clause-shows g c =
    shows_whole _ _ _ _ _ _ _ _ _ _ _ _ _ (rw (c.in-Ok-eq0.is, rw c.in-Ok-eq0.is at c.in-Ok-eq0.field-0-test) at c.run_to_disk-ran.ensures.runs)
    c.send_disk.ensures.sends.adds
