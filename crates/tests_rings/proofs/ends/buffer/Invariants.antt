use Rattle.std.proofs.Common.{◌≡◌, replicate}
use Rattle.tests_rings.proofs.ends.buffer.Given as goal

abbrev pub invariant-pieces : goal.invariant-pieces
invariant-pieces l = l.cuts.items ≡ replicate l._piece 2
