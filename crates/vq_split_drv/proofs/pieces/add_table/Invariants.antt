use Rattle.std.proofs.Common.{◌≡◌, ◌+◌, ◌-◌, ◌*◌, ◌<◌, ◌^◌, ◌++◌, length, drop, sum}
use Rattle.vq_posted.specs.Free.{numbers}
use Rattle.vq_split_drv.specs.Post.{descriptors_of, table_bytes}
use Rattle.vq_split_drv.proofs.pieces.add_table.Given as goal

-- what is there, and what the rest adds, is the whole
abbrev pub invariant-pieces : goal.invariant-pieces
invariant-pieces l = record {
  long : length l.table.items ≡ 16 * l.i;
  fits : l.pieces.addr + sum (drop l.i l.lengths) < 2 ^ 64;
  whole : l.table.items ++ table_bytes (descriptors_of l.pieces.addr l.pieces.readable (drop l.i l.lengths) (numbers (l.i + 1) (length l.lengths - l.i)))
      ≡ table_bytes (descriptors_of l.fn.pieces.addr l.fn.pieces.readable l.lengths (numbers 1 (length l.lengths)));
}
