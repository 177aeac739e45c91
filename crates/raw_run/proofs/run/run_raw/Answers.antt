use Rattle.std.proofs.Common.{false}
use Rattle.line_runner.proofs.EndLaws.{reports_none}
use Rattle.raw_run.specs.RawScript.{raw_script}
use Rattle.raw_run.proofs.run.run_raw.Goals as goal

pub returns-in-Err : goal.returns-in-Err
returns-in-Err g c = rw (c.status.ensures, c.in-Err.ensures.err) (reports_none (raw_script g.B.Bus.table) false _ _ _)
