use Rattle.std.proofs.Common.{◌≤◌}
use Rattle.ring_bench.specs.Ready.{IsReady}
use Rattle.ring_bench.proofs.rings.Rings.carry.Given as goal

abbrev pub invariant-rounds : goal.invariant-rounds
invariant-rounds g l = record {
  ready : IsReady (g.D.DriverEnd.queue l.self.guest.driver);
  few : l.counts.buffers ≤ l.task.count;
}
