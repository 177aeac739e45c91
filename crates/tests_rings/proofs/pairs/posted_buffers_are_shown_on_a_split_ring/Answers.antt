use Rattle.std.proofs.Common.{arith}
use Rattle.vt_types.specs.Operation.{posted_buffer}
use Rattle.vq_split_drv.specs.Cost.{cost_or_nothing}
use Rattle.tests_rings.proofs.pairs.posted_buffers_are_shown_on_a_split_ring.Goals as goal

pub post-requires-2-clause-pages : goal.post-requires-2-clause-pages
post-requires-2-clause-pages g c =
    omega (arith, cost_or_nothing c.post.new.driver.queue (posted_buffer c.in_ok-indirect.indirect) c.in_ok-indirect.ensures.postable, c.in_ok-reserve-2.ensures.ok)

pub post-requires-3-clause-pages : goal.post-requires-3-clause-pages
post-requires-3-clause-pages g c =
    omega (arith, cost_or_nothing c.post-2.new.driver.queue (posted_buffer c.in_ok-last.last) c.in_ok-last.ensures.postable, c.in_ok-reserve-3.ensures.ok)
