use Rattle.vq_common.specs.Chain.{walked}
use Rattle.ring_part.proofs.CallLaws.{take_keeps}
use Rattle.ring_part.proofs.laws.take.Goals as goal

pub returns : goal.returns
returns c = take_keeps c.args.mem.now.bytes c.args.device.now (walked c.take.result) c.take.new.self c.take.ensures.takes
