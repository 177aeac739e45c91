use Rattle.std.proofs.Common.{◌≡◌, ◌+◌, ◌≤◌, ◌++◌, drop, length, IsTrue}
use Rattle.std.specs.List.{list_all}
use Rattle.vq_common.specs.Piece.{is_piece, length_of_all, readable}
use Rattle.vq_common.proofs.chain.Chain.gather.Given as goal

abbrev pub invariant-readable : goal.invariant-readable
invariant-readable l = record {
  rest : l.room.items ++ readable l.mem.bytes (drop l.piece-index l.self.pieces.items) ≡ readable l.mem.bytes l.self.pieces.items;
  valid : IsTrue (list_all (is_piece (length l.mem.bytes)) (drop l.piece-index l.self.pieces.items));
  total : length l.room.items + length_of_all (drop l.piece-index l.self.pieces.items) ≤ 8192;
}
