use Rattle.std.proofs.Common.{length, ◌+◌, ◌-◌, ◌≤◌, take}
use Rattle.std.specs.Prelude.{Ok}
use Rattle.hex.specs.Hex.{encode_lower}
use Rattle.report_out.specs.Output.{Sends}
use Rattle.report_out.proofs.output.send_hex.Given as goal

abbrev pub invariant-pieces : goal.invariant-pieces
invariant-pieces g l = record {
  bound : l.at ≤ length l.bytes;
  spare : 33024 ≤ l.text.spare + length l.text.bytes;
  sends : Sends (g.K.Sink.view l.fn.sink) (g.K.Sink.view l.sink) (encode_lower (take l.at l.bytes)) (Ok tt);
}

abbrev pub decreases-pieces : goal.decreases-pieces
decreases-pieces g l = length l.bytes - l.at
