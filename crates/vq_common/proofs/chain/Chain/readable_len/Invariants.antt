use Rattle.std.proofs.Common.{◌≡◌, ◌+◌, drop}
use Rattle.vq_common.specs.Piece.{readable_len}
use Rattle.vq_common.proofs.chain.Chain.readable_len.Given as goal

abbrev pub invariant-readable : goal.invariant-readable
invariant-readable l = l.count + readable_len (drop l.piece-index l.self.pieces.items) ≡ readable_len l.self.pieces.items
