use Rattle.std.proofs.Common.{arith}
use Rattle.vt_types.specs.Operation.{posted_buffer}
use Rattle.vq_split_drv.specs.Cost.{cost_or_nothing}
use Rattle.monitor.proofs.write.Goals as goal

-- a post costs no more than the pages that were set aside
pub post-posted-requires-clause-credit : goal.post-posted-requires-clause-credit
post-posted-requires-clause-credit g c = omega (arith, cost_or_nothing c.start.new.self.queue (posted_buffer c.in_ok-buffer.buffer) c.in_ok-buffer.ensures.postable, c.in_ok-reserve.ensures.pages)
