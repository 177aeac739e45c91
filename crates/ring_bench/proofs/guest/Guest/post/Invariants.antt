use Rattle.std.proofs.Common.{◌+◌, ◌*◌, ◌≤◌}
use Rattle.vq_common.specs.Queue.{GREATEST_COST_OF_POST}
use Rattle.ring_bench.specs.Ready.{IsReady}
use Rattle.ring_bench.proofs.guest.Guest.post.Given as goal

abbrev pub invariant-posts : goal.invariant-posts
invariant-posts g l = record {
  ready : IsReady (g.D.DriverEnd.queue l.self.driver);
  pages : l.fn.port.memory.spare ≤ l.port.memory.spare + GREATEST_COST_OF_POST * l.posted;
}
