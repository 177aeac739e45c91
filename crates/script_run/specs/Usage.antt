use Rattle.std.specs.Prelude.{ℕ, List, Result, Ok, Err, codes}
use Rattle.report_out.specs.Status.{status_of_stop}
use Rattle.report_out.specs.declared.stop.Stop.{Stop}

-- the usage line
abbrev pub usage : List ℕ
usage = codes "usage: vt run BUS [trace] [file NAME] | raw BUS [file NAME] | load BUS N\n"

-- the status of a call that showed it, or stopped
abbrev pub usage_status : Result Unit Stop → ℕ
usage_status (Ok x) = 2
usage_status (Err stop) = status_of_stop stop
