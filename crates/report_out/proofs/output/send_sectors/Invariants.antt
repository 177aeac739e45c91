use Rattle.std.proofs.Common.{length, ◌+◌, ◌≤◌}
use Rattle.std.specs.Prelude.{Ok}
use Rattle.report_out.specs.Pieces.{lines_below}
use Rattle.report_out.specs.Output.{SendsDisk}
use Rattle.report_out.proofs.output.send_sectors.Given as goal

abbrev pub invariant-sectors : goal.invariant-sectors
invariant-sectors g l = record {
  spare : 33024 ≤ l.text.spare + length l.text.bytes;
  sends : SendsDisk (lines_below l.n) l.n (g.D.Disk.view l.fn.disk) (g.D.Disk.view l.disk) (g.K.Sink.view l.fn.sink) (g.K.Sink.view l.sink) (Ok tt);
}
