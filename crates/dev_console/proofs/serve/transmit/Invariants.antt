use Rattle.std.proofs.Common.{◌≡◌, ◌+◌, ◌≤◌, ◌++◌, length, drop, IsTrue}
use Rattle.std.specs.List.{list_all}
use Rattle.vq_common.specs.Piece.{is_piece, readable}
use Rattle.dev_console.proofs.serve.transmit.Given as goal

abbrev pub invariant-readable : goal.invariant-readable
invariant-readable l =
    record {
      inside : IsTrue (list_all (is_piece (length l.mem.bytes)) (drop l.piece-index l.chain.pieces.items));
      fits : length (readable l.mem.bytes (drop l.piece-index l.chain.pieces.items)) ≤ l.state.spare;
      waiting : l.state.waiting ≡ l.fn.state.waiting;
      console : l.state.console ++ readable l.mem.bytes (drop l.piece-index l.chain.pieces.items) ≡ l.fn.state.console ++ readable l.mem.bytes l.chain.pieces.items;
      spare : l.state.spare + length l.state.console ≡ l.fn.state.spare + length l.fn.state.console;
    }
