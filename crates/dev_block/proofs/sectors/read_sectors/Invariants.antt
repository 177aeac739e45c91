use Rattle.std.proofs.Common.{◌≡◌, length, Ok}
use Rattle.vq_common.specs.Partial.{MakesPagesOf}
use Rattle.dev_block.specs.Calls.{ReadsOver}
use Rattle.dev_block.proofs.sectors.read_sectors.Given as goal

abbrev pub invariant-sectors : goal.invariant-sectors
invariant-sectors g l = record {
  reads : ReadsOver l.sector l.i l.chain.pieces.items l.fn.mem.bytes l.mem.bytes l.fn.disk l.disk (Ok tt);
  size : length l.mem.bytes ≡ length l.fn.mem.bytes;
  pages : MakesPagesOf l.chain.pieces.items l.fn.mem l.mem;
}
