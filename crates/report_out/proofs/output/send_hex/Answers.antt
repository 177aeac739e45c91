use Rattle.std.proofs.Common.{arith, ◌≡◌, ◌+◌, ◌-◌, take}
use Rattle.hex.specs.Hex.{encode_lower}
use Rattle.vt_outside.proofs.SinkLaws.{take_then}
use Rattle.report_out.proofs.SendLaws.{sends_none, sends_then, sends_front}
use Rattle.report_text.proofs.HexNumber.{encode-append}
use Rattle.report_out.proofs.DigitLaws.{digits_front, digits_none}
use Rattle.report_out.proofs.output.send_hex.Goals as goal

pub pieces-init : goal.pieces-init
pieces-init g c = record { bound = omega arith; spare = omega arith; sends = rw digits_none (sends_none (g.K.Sink.view c.args.sink.now)) }

pub pieces-preserved : goal.pieces-preserved
pieces-preserved g c =
    let n : c.pieces.at + c.min-count.result - c.pieces.at ≡ c.min-count.result = omega arith in
    record {
      bound = omega arith;
      spare = c.in-Ok.ensures.spare;
      sends =
          rw (← take_then c.pieces.at c.min-count.result c.args.bytes.now, encode-append)
          (sends_then _ _ _ _ _ _ c.pieces.invariant.sends (rw n at c.in-Ok.ensures.sends));
    }

pub returns-in-Err-clause-sends : goal.returns-in-Err-clause-sends
returns-in-Err-clause-sends g c =
    let n : c.pieces.at + c.min-count.result - c.pieces.at ≡ c.min-count.result = omega arith in
    sends_front _ _ (encode_lower (take (c.pieces.at + c.min-count.result) c.args.bytes.now)) _ _
    (digits_front (c.pieces.at + c.min-count.result) c.args.bytes.now (omega arith))
    (rw (← take_then c.pieces.at c.min-count.result c.args.bytes.now, encode-append)
    (sends_then _ _ _ _ _ _ c.pieces.invariant.sends (rw n at c.in-Err.ensures.sends)))
