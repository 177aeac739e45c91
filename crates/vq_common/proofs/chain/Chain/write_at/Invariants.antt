use Rattle.vq_common.proofs.PartialLaws.{WritesOn}
use Rattle.vq_common.proofs.chain.Chain.write_at.Given as goal

abbrev pub invariant-writable : goal.invariant-writable
invariant-writable l = WritesOn l.fn.mem l.self.pieces.items l.offset l.bytes l.mem l.left l.done l.piece-index
