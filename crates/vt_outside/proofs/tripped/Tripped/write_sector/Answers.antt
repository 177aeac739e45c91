use Rattle.std.proofs.Common.{rules, Result, Err}
use Rattle.vt_outside.specs.declared.failed.Failed.{Failed}
use Rattle.vt_outside.proofs.DiskCallLaws.{meets_write}
use Rattle.vt_outside.proofs.tripped.Tripped.write_sector.Goals as goal

pub returns-then-is_tripped-clause-meets : goal.returns-then-is_tripped-clause-meets
returns-then-is_tripped-clause-meets g c =
    let failed : Result Unit Failed = Err (record {}) in
    meets_write _ _ failed _ _ (search rules) (search rules) (search rules)

pub returns-clause-meets : goal.returns-clause-meets
returns-clause-meets g c = meets_write _ _ _ _ _ (search rules) (search rules) (search rules)
