use Rattle.std.proofs.Common.{◌≡◌, replicate}
use Rattle.port_access.proofs.accesses.fill_zeros.Given as goal

abbrev pub invariant-zeros : goal.invariant-zeros
invariant-zeros l = l.room.items ≡ replicate l._byte 0
