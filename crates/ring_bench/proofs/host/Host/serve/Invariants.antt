use Rattle.std.proofs.Common.{◌+◌, ◌*◌, ◌≤◌}
use Rattle.ring_bench.specs.Ready.{PAGES_OF_SERVE}
use Rattle.ring_bench.proofs.host.Host.serve.Given as goal

abbrev pub invariant-chains : goal.invariant-chains
invariant-chains g l = l.fn.memory.spare ≤ l.memory.spare + PAGES_OF_SERVE * l._chain
