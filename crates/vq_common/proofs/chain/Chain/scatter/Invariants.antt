use Rattle.std.proofs.Common.{◌≡◌, ◌≤◌, ◌+◌, ◌*◌, drop, length, IsTrue}
use Rattle.std.specs.List.{list_all}
use Rattle.vq_common.specs.Pages.{PAGES_OF_PUT}
use Rattle.vq_common.specs.Piece.{is_piece, scatter}
use Rattle.vq_common.proofs.chain.Chain.scatter.Given as goal

abbrev pub invariant-writable : goal.invariant-writable
invariant-writable l = record {
  rest : scatter l.mem.bytes (drop l.piece-index l.self.pieces.items) (drop l.done l.bytes) ≡ scatter l.fn.mem.bytes l.self.pieces.items l.bytes;
  valid : IsTrue (list_all (is_piece (length l.mem.bytes)) (drop l.piece-index l.self.pieces.items));
  done : l.done ≤ length l.bytes;
  pages : l.fn.mem.spare ≤ l.mem.spare + PAGES_OF_PUT * l.piece-index;
}
