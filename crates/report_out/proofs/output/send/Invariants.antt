use Rattle.std.proofs.Common.{◌≡◌, [], length, ◌-◌, ◌≤◌, take}
use Rattle.vt_outside.specs.Sink.{Adds}
use Rattle.report_out.proofs.output.send.Given as goal

abbrev pub invariant-loop-sent : goal.invariant-loop-sent
invariant-loop-sent g l = record {
  bound : l.sent ≤ length l.bytes;
  calm : (g.K.Sink.view l.sink).faults ≡ (g.K.Sink.view l.fn.sink).faults;
  unasked : l.bytes ≡ [] → g.K.Sink.view l.sink ≡ g.K.Sink.view l.fn.sink;
  adds : Adds (g.K.Sink.view l.fn.sink).written (g.K.Sink.view l.sink).written (take l.sent l.bytes);
}

abbrev pub decreases-loop-sent : goal.decreases-loop-sent
decreases-loop-sent g l = length l.bytes - l.sent
