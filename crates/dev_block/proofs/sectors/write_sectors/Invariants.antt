use Rattle.std.proofs.Common.{true, drop}
use Rattle.vq_common.specs.Piece.{readable}
use Rattle.dev_block.specs.Calls.{Calls}
use Rattle.dev_block.specs.Sectors.{write_sectors}
use Rattle.dev_block.proofs.sectors.write_sectors.Given as goal

abbrev pub invariant-sectors : goal.invariant-sectors
invariant-sectors g l = Calls (write_sectors l.i l.sector (drop 16 (readable l.mem.bytes l.chain.pieces.items))) l.fn.disk true l.disk true
