use Rattle.std.proofs.Common.{length, arith}
use Rattle.vq_common.proofs.RuleFacts.{room-le}
use Rattle.dev_console.proofs.serve.receive.Goals as goal

pub room-requires : goal.room-requires
room-requires c = omega (arith, room-le (length c.args.mem.now.bytes) c.args.chain.now.pieces.items c.requires.rules)
