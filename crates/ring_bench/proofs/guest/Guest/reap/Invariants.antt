use Rattle.std.proofs.Common.{◌≡◌, ◌+◌}
use Rattle.ring_bench.specs.Ready.{IsReady}
use Rattle.ring_bench.proofs.guest.Guest.reap.Given as goal

abbrev pub invariant-reaps : goal.invariant-reaps
invariant-reaps g l = record {
  ready : IsReady (g.D.DriverEnd.queue l.self.driver);
  counted : l.counts.buffers ≡ l.fn.counts.buffers + l.reaped;
}
