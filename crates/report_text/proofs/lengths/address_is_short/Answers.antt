use Rattle.std.proofs.Common.{arith}
use Rattle.report_text.proofs.HexNumber.{length-hex_number-le}
use Rattle.report_text.proofs.lengths.address_is_short.Goals as goal

pub returns : goal.returns
returns c = length-hex_number-le 8 c.args.n (omega arith) (omega arith)
