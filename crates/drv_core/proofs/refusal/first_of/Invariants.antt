use Rattle.std.proofs.Common.{◌≡◌, drop}
use Rattle.state_table.specs.Refusal.{first_of}
use Rattle.drv_core.proofs.refusal.first_of.Given as goal

abbrev pub invariant-tests : goal.invariant-tests
invariant-tests l = first_of (drop l.test-index l.tests) ≡ first_of l.tests
