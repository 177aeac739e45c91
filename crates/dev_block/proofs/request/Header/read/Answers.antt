use Rattle.std.proofs.Common.{arith}
use Rattle.dev_block.proofs.RequestLaws.{readable_size}
use Rattle.dev_block.proofs.request.Header.read.Goals as goal

pub read_at-requires-clause-inside : goal.read_at-requires-clause-inside
read_at-requires-clause-inside c = omega (arith, readable_size c.args.mem.now.bytes c.args.chain.now.pieces.items c.requires.rules)
