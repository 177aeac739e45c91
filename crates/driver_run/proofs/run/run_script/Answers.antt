use Rattle.line_runner.proofs.EndLaws.{reports_none, shows_none_run}
use Rattle.driver_run.proofs.run.run_script.Goals as goal

pub returns-in-Err-clause-reports : goal.returns-in-Err-clause-reports
returns-in-Err-clause-reports g c = rw (c.status.ensures, c.in-Err.ensures.err) (reports_none _ _ _ _ _)

pub returns-in-Err-clause-shows : goal.returns-in-Err-clause-shows
returns-in-Err-clause-shows g c = rw c.status.ensures (shows_none_run _ _ _ _ _)
