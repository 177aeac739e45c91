use Rattle.std.proofs.Common.{◌≡◌, Bool, true, false, subst, arith}
use Rattle.std.specs.Prelude.{is_ok}
use Rattle.vt_types.specs.Operation.{posted_buffer}
use Rattle.vq_split_drv.specs.Cost.{cost_or_nothing}
use Rattle.drv_core.specs.Calls.{GivesOnSet, post_to}
use Rattle.drv_core.specs.Lowering.{post_reply}
use Rattle.drv_core.proofs.QueueCalls.{post_on_set}
use Rattle.drv_core.proofs.queue_end.post_to.Goals as goal

pub post-requires-clause-credit : goal.post-requires-clause-credit
post-requires-clause-credit g c = omega (arith, cost_or_nothing c.args.end.now.queue (posted_buffer c.args.buf.now) c.requires.postable)

pub returns-then-is_ok-clause-gives : goal.returns-then-is_ok-clause-gives
returns-then-is_ok-clause-gives g c = λ bytes.
    let ok : is_ok c.post.result ≡ true = cc in
    subst (λ (posted : Bool). GivesOnSet g.P.Port.step g.P.Port.marking (post_to (posted_buffer c.args.buf.now)) c.args.end.now.queue c.args.port.now (post_reply posted) c.post.new.self.queue c.post.new.port) ok
    (post_on_set g.P.Port.step g.P.Port.marking c.args.end.now.queue c.post.new.self.queue (posted_buffer c.args.buf.now) (is_ok c.post.result) c.args.port.now c.post.new.port c.post.ensures.gives)

pub returns-else-is_ok-clause-gives : goal.returns-else-is_ok-clause-gives
returns-else-is_ok-clause-gives g c = λ bytes.
    let full : is_ok c.post.result ≡ false = cc in
    subst (λ (posted : Bool). GivesOnSet g.P.Port.step g.P.Port.marking (post_to (posted_buffer c.args.buf.now)) c.args.end.now.queue c.args.port.now (post_reply posted) c.post.new.self.queue c.post.new.port) full
    (post_on_set g.P.Port.step g.P.Port.marking c.args.end.now.queue c.post.new.self.queue (posted_buffer c.args.buf.now) (is_ok c.post.result) c.args.port.now c.post.new.port c.post.ensures.gives)
