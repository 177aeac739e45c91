use Rattle.ring_part.proofs.CallLaws.{written_keeps}
use Rattle.ring_part.proofs.laws.write.Goals as goal

pub returns-clause-keeps : goal.returns-clause-keeps
returns-clause-keeps c = written_keeps c.write.result c.args.mem.now c.write.new.self c.args.addr c.args.bytes.now c.write.ensures.cause c.write.ensures.ok
