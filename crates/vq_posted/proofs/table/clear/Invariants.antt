use Rattle.std.proofs.Common.{◌≡◌, ◌++◌, None, replicate, drop}
use Rattle.vq_posted.proofs.table.clear.Given as goal

abbrev pub invariant-locations : goal.invariant-locations
invariant-locations l = l.locations ≡ replicate l.location-index None ++ drop l.location-index l.fn.locations
