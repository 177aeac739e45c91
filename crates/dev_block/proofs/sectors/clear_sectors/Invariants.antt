use Rattle.std.proofs.Common.{true}
use Rattle.dev_block.specs.Calls.{Calls}
use Rattle.dev_block.specs.Sectors.{clear_sectors}
use Rattle.dev_block.proofs.sectors.clear_sectors.Given as goal

abbrev pub invariant-sectors : goal.invariant-sectors
invariant-sectors g l = Calls (clear_sectors l.i l.sector) l.fn.disk true l.disk true
