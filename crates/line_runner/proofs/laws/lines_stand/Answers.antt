use Rattle.line_runner.proofs.StandLaws.{stand}
use Rattle.line_runner.proofs.laws.lines_stand.Goals as goal

pub returns : goal.returns
returns g c = λ input sectors read_only outcomes. stand g.L.LineRunner.script input sectors read_only outcomes
