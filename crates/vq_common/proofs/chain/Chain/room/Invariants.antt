use Rattle.std.proofs.Common.{◌≡◌, ◌+◌, drop}
use Rattle.vq_common.specs.Piece.{room}
use Rattle.vq_common.proofs.chain.Chain.room.Given as goal

abbrev pub invariant-writable : goal.invariant-writable
invariant-writable l = l.count + room (drop l.piece-index l.self.pieces.items) ≡ room l.self.pieces.items
