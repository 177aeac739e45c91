use Rattle.std.proofs.Common.{◌≡◌, ℕ, Option, Some, None, false, sym, ◌∙◌, ap, subst}
use Rattle.std.specs.Option.{option_map}
use Rattle.vt_types.specs.declared.reply.Why.TheVariants.{Unset}
use Rattle.vt_types.specs.Operation.{posted_buffer}
use Rattle.vt_types.specs.Reply.{Refused, reply_value}
use Rattle.vq_common.specs.Queue.{DriverQueue}
use Rattle.state_table.specs.Refusal.{is_tag_used, is_too_large}
use Rattle.drv_core.specs.Calls.{GivesOnQueue, post_to, queue_if}
use Rattle.drv_core.specs.Driver.{queue_known}
use Rattle.drv_core.proofs.QueueCalls.{on_queue_set, on_queue_unset}
use Rattle.drv_core.proofs.RefusalLaws.{has_tag-holds_tag, postable, table_fits}
use Rattle.drv_core.proofs.queue_end.QueueEnd.post.Goals as goal

pub post_to-requires-clause-postable : goal.post_to-requires-clause-postable
post_to-requires-clause-postable g c =
    let set : Some c.self.inside.end.queue ≡ c.args.self.now = sym (ap (λ (s : Option ℕ). queue_if s c.self.inside.end.queue) c.in-Some.is) ∙ c.self.view_is in
    postable c.self.inside.end.queue (posted_buffer c.args.buf.now) c.requires.within
    (subst (λ (o : Option DriverQueue). is_too_large (option_map queue_known o) (posted_buffer c.args.buf.now) ≡ false) (sym set) c.requires.large)

pub post_to-requires-clause-tag : goal.post_to-requires-clause-tag
post_to-requires-clause-tag g c =
    let set : Some c.self.inside.end.queue ≡ c.args.self.now = sym (ap (λ (s : Option ℕ). queue_if s c.self.inside.end.queue) c.in-Some.is) ∙ c.self.view_is in
    sym (has_tag-holds_tag c.args.buf.now.tag c.self.inside.end.queue.unreaped)
    ∙ subst (λ (o : Option DriverQueue). is_tag_used (option_map queue_known o) (posted_buffer c.args.buf.now) ≡ false) (sym set) c.requires.tag

pub post_to-requires-clause-table : goal.post_to-requires-clause-table
post_to-requires-clause-table g c =
    let set : Some c.self.inside.end.queue ≡ c.args.self.now = sym (ap (λ (s : Option ℕ). queue_if s c.self.inside.end.queue) c.in-Some.is) ∙ c.self.view_is in
    table_fits c.self.inside.end.queue (posted_buffer c.args.buf.now)
    (subst (λ (o : Option DriverQueue). is_too_large (option_map queue_known o) (posted_buffer c.args.buf.now) ≡ false) (sym set) c.requires.large)

pub returns-in-Some : goal.returns-in-Some
returns-in-Some g c = λ bytes.
    let q2 : DriverQueue = c.post_to.new.end.queue in
    let set : Some c.self.inside.end.queue ≡ c.args.self.now = sym (ap (λ (s : Option ℕ). queue_if s c.self.inside.end.queue) c.in-Some.is) ∙ c.self.view_is in
    let stays : Some q2 ≡ queue_if c.self.inside.size q2 = sym (ap (λ (s : Option ℕ). queue_if s q2) c.in-Some.is) in
    subst (λ (o : Option DriverQueue). GivesOnQueue g.P.Port.step g.P.Port.marking (post_to (posted_buffer c.args.buf.now)) c.args.self.now c.args.port.now (reply_value c.post_to.result bytes) o c.post_to.new.port) stays
    (subst (λ (o : Option DriverQueue). GivesOnQueue g.P.Port.step g.P.Port.marking (post_to (posted_buffer c.args.buf.now)) o c.args.port.now (reply_value c.post_to.result bytes) (Some q2) c.post_to.new.port) set
    (on_queue_set g.P.Port.step g.P.Port.marking (post_to (posted_buffer c.args.buf.now)) c.self.inside.end.queue q2 (reply_value c.post_to.result bytes) c.args.port.now c.post_to.new.port (c.post_to.ensures.gives bytes)))

pub returns-in-None : goal.returns-in-None
returns-in-None g c = λ bytes.
    let unset : None ≡ c.args.self.now = sym (ap (λ (s : Option ℕ). queue_if s c.self.inside.end.queue) c.in-None.is) ∙ c.self.view_is in
    subst (λ (o : Option DriverQueue). GivesOnQueue g.P.Port.step g.P.Port.marking (post_to (posted_buffer c.args.buf.now)) o c.args.port.now (Refused Unset) o c.args.port.now) unset
    (on_queue_unset g.P.Port.step g.P.Port.marking (post_to (posted_buffer c.args.buf.now)) c.args.port.now)
