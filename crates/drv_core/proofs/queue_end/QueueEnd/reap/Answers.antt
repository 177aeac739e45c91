use Rattle.std.proofs.Common.{◌≡◌, ℕ, Option, Some, None, sym, ◌∙◌, ap, subst}
use Rattle.vt_types.specs.declared.reply.Why.TheVariants.{Unset}
use Rattle.vt_types.specs.Reply.{Refused, reply_value}
use Rattle.vq_common.specs.Queue.{DriverQueue}
use Rattle.drv_core.specs.Calls.{GivesOnQueue, queue_if, reap_from}
use Rattle.drv_core.proofs.QueueCalls.{on_queue_set, on_queue_unset}
use Rattle.drv_core.proofs.queue_end.QueueEnd.reap.Goals as goal

pub returns-in-Some : goal.returns-in-Some
returns-in-Some g c =
    let q2 : DriverQueue = c.reap_from.new.end.queue in
    let set : Some c.self.inside.end.queue ≡ c.args.self.now = sym (ap (λ (s : Option ℕ). queue_if s c.self.inside.end.queue) c.in-Some.is) ∙ c.self.view_is in
    let stays : Some q2 ≡ queue_if c.self.inside.size q2 = sym (ap (λ (s : Option ℕ). queue_if s q2) c.in-Some.is) in
    subst (λ (o : Option DriverQueue). GivesOnQueue g.P.Port.step g.P.Port.marking reap_from c.args.self.now c.args.port.now (reply_value c.reap_from.result c.reap_from.new.room.items) o c.reap_from.new.port) stays
    (subst (λ (o : Option DriverQueue). GivesOnQueue g.P.Port.step g.P.Port.marking reap_from o c.args.port.now (reply_value c.reap_from.result c.reap_from.new.room.items) (Some q2) c.reap_from.new.port) set
    (on_queue_set g.P.Port.step g.P.Port.marking reap_from c.self.inside.end.queue q2 (reply_value c.reap_from.result c.reap_from.new.room.items) c.args.port.now c.reap_from.new.port c.reap_from.ensures.gives))

pub returns-in-None : goal.returns-in-None
returns-in-None g c =
    let unset : None ≡ c.args.self.now = sym (ap (λ (s : Option ℕ). queue_if s c.self.inside.end.queue) c.in-None.is) ∙ c.self.view_is in
    subst (λ (o : Option DriverQueue). GivesOnQueue g.P.Port.step g.P.Port.marking reap_from o c.args.port.now (Refused Unset) o c.args.port.now) unset
    (on_queue_unset g.P.Port.step g.P.Port.marking reap_from c.args.port.now)
