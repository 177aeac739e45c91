use Rattle.std.proofs.Common.{◌≡◌, ◌-◌, ◌≤◌, length, replicate}
use Rattle.vq_common.specs.Partial.{MakesPagesOf, scatter_from}
use Rattle.dev_block.proofs.fill.write_zeros.Given as goal

abbrev pub invariant-zeros : goal.invariant-zeros
invariant-zeros l = record {
  above : l.from ≤ l.at;
  below : l.at ≤ l.to;
  done : l.mem.bytes ≡ scatter_from l.from l.fn.mem.bytes l.chain.pieces.items (replicate (l.at - l.from) 0);
  size : length l.mem.bytes ≡ length l.fn.mem.bytes;
  pages : MakesPagesOf l.chain.pieces.items l.fn.mem l.mem;
}

abbrev pub decreases-zeros : goal.decreases-zeros
decreases-zeros l = l.to - l.at
