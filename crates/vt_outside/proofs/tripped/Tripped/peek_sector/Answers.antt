use Rattle.std.proofs.Common.{rules}
use Rattle.vt_outside.proofs.DiskCallLaws.{meets_peek}
use Rattle.vt_outside.proofs.tripped.Tripped.peek_sector.Goals as goal

pub returns-clause-meets : goal.returns-clause-meets
returns-clause-meets g c = meets_peek _ _ _ _ _ (search rules) (search rules) (search rules) (search rules)
