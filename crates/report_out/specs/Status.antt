use Rattle.std.specs.Prelude.{ℕ, Result, Ok, Err}
use Rattle.report_out.specs.declared.stop.Stop.{Stop}
use Rattle.report_out.specs.declared.stop.Stop.TheVariants.{Read, Write, Memory}

-- the status of a call that stopped
abbrev pub status_of_stop : Stop → ℕ
status_of_stop Read = 4
status_of_stop Write = 5
status_of_stop Memory = 6

-- the status of a call that reported on an input
abbrev pub run_status : Result ℕ Stop → ℕ
run_status (Ok status) = status
run_status (Err stop) = status_of_stop stop
