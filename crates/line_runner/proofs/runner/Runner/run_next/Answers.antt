use Rattle.std.proofs.Common.{rules}
use Rattle.line_runner.proofs.RunLaws.{goes_to_end}
use Rattle.line_runner.proofs.runner.Runner.run_next.Goals as goal

pub returns-in-Ok-None-clause-runs : goal.returns-in-Ok-None-clause-runs
returns-in-Ok-None-clause-runs g c = λ state represented. record {
  cause = search rules;
  next = state;
  behind = λ zero. represented;
  goes_on = goes_to_end g.L.LineRunner.script _ _ _ _ state (g.L.LineRunner.traced c.args.self.now.lines) (g.L.LineRunner.printed c.args.self.now.lines) _ (rw c.in-Ok-None.field-0-is at c.in-Ok-None.ensures.told) c.clear.ensures.bytes;
}
