use Rattle.std.proofs.Common.{arith}
use Rattle.vt_types.specs.Operation.{posted_buffer}
use Rattle.vq_common.proofs.PostLaws.{cost_or_nothing}
use Rattle.vq_packed_drv.specs.Cost.{cost}
use Rattle.vq_packed_drv.specs.Post.{packed_post_accesses}
use Rattle.tests_rings.proofs.pairs.posted_buffers_are_shown_on_a_packed_ring.Goals as goal

pub post-requires-2-clause-pages : goal.post-requires-2-clause-pages
post-requires-2-clause-pages g c =
    let q = c.post.new.driver.queue in
    let b = posted_buffer c.in_ok-indirect.indirect in
    omega (arith, cost_or_nothing packed_post_accesses q b, cost q b c.in_ok-indirect.ensures.postable, c.in_ok-reserve-2.ensures.ok)

pub post-requires-3-clause-pages : goal.post-requires-3-clause-pages
post-requires-3-clause-pages g c =
    let q = c.post-2.new.driver.queue in
    let b = posted_buffer c.in_ok-last.last in
    omega (arith, cost_or_nothing packed_post_accesses q b, cost q b c.in_ok-last.ensures.postable, c.in_ok-reserve-3.ensures.ok)
