use Rattle.std.proofs.Common.{◌≡◌, ◌+◌, ◌*◌, ◌<◌, ◌^◌, ◌++◌, length, drop, sum}
use Rattle.vq_common.specs.Piece.{pieces_from}
use Rattle.vq_packed_drv.specs.Post.{packed_table_bytes}
use Rattle.vq_packed_drv.proofs.descriptors.add_table.Given as goal

-- what is there, and what the rest adds, is the whole
abbrev pub invariant-pieces : goal.invariant-pieces
invariant-pieces l = record {
  long : length l.table.items ≡ 16 * l.len-index;
  fits : l.pieces.addr + sum (drop l.len-index l.lengths) < 2 ^ 64;
  whole : l.table.items ++ packed_table_bytes (pieces_from l.pieces.addr l.pieces.readable (drop l.len-index l.lengths))
      ≡ packed_table_bytes (pieces_from l.fn.pieces.addr l.fn.pieces.readable l.lengths);
}
