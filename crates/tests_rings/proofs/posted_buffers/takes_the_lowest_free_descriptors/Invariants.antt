use Rattle.std.proofs.Common.{◌≡◌}
use Rattle.tests_rings.proofs.posted_buffers.takes_the_lowest_free_descriptors.Given as goal

abbrev pub invariant-loop-step : goal.invariant-loop-step
invariant-loop-step g l = l.buffers.greatest ≡ 1024
