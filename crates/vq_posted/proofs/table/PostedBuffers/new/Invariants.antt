use Rattle.std.proofs.Common.{◌≡◌, None, replicate}
use Rattle.vq_posted.proofs.table.PostedBuffers.new.Given as goal

abbrev pub invariant-locations : goal.invariant-locations
invariant-locations l = l.locations.items ≡ replicate l._location None
