use Rattle.vq_common.proofs.PartialLaws.{ReadsOn}
use Rattle.vq_common.proofs.chain.Chain.read_at.Given as goal

abbrev pub invariant-readable : goal.invariant-readable
invariant-readable l = ReadsOn l.mem.bytes l.self.pieces.items l.offset l.room l.left l.done l.piece-index
