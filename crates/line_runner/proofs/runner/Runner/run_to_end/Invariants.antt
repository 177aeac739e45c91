use Rattle.std.proofs.Common.{◌≡◌, ◌+◌, ◌-◌, ◌≤◌, length}
use Rattle.vt_types.specs.Limits.{LONGEST_SCRIPT}
use Rattle.line_runner.proofs.RunLaws.{Reaches}
use Rattle.line_runner.proofs.runner.Runner.run_to_end.Given as goal

abbrev pub invariant-lines : goal.invariant-lines
invariant-lines g l = record {
  number : l.self.number ≡ l.self.reader.number;
  counted : l.self.number ≤ l.self.reader.answered;
  spare : 33024 ≤ l.self.text.spare + length l.self.text.bytes;
  disk : g.L.LineRunner.under l.self.lines ≡ g.L.LineRunner.under l.fn.self.lines;
  reached : Reaches g.L.LineRunner.script l.traces (g.S.Source.view l.fn.source) (g.S.Source.view l.source) (g.K.Sink.view l.fn.sink) (g.K.Sink.view l.sink) (g.W.Watch.shown l.fn.watch) (g.W.Watch.shown l.watch) l.self.reader (g.L.LineRunner.represents l.self.lines);
}

abbrev pub decreases-lines : goal.decreases-lines
decreases-lines g l = LONGEST_SCRIPT + 1 - l.self.reader.answered
