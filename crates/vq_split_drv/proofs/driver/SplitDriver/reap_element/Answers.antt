use Rattle.std.proofs.Common.{◌≡◌, ℕ, ◌+◌, ◌%◌, ◌^◌, List, Some, ap, sym, ◌∙◌, subst, arith}
use Rattle.vt_types.specs.Program.{Gives}
use Rattle.port_access.specs.Accesses.{bytes_program}
use Rattle.vt_layout.specs.QueueBlock.{data_address}
use Rattle.vq_common.specs.Queue.{DriverQueue, Unreaped, unreaped_with, without}
use Rattle.vq_posted.specs.Table.{PostedView}
use Rattle.vq_posted.proofs.Each.{each-without, found_at}
use Rattle.vq_posted.proofs.Reaps.{reap_found_gives}
use Rattle.vq_split_drv.specs.Driver.{IsKept, IsSplitBuffer, SplitState, split_queue}
use Rattle.vq_split_drv.specs.Reap.{reap_element, split_reaped, used_event_put}
use Rattle.vq_split_drv.proofs.driver.SplitDriver.reap_element.Goals as goal

pub overflow_cast-head : goal.overflow_cast-head
overflow_cast-head g c =
    let i = c.self.inside in
    let (u, k, h) = found_at IsSplitBuffer c.args.element.id i.posted.unreaped c.in-Some.found c.self.invariant.each c.in-Some.ensures in
    omega (arith, k.is, h.id)

pub invariant_of-self : goal.invariant_of-self
invariant_of-self g c =
    let i = c.self.inside in
    subst (λ (v : PostedView). IsKept i.ring.cfg.size v) (sym c.remove.ensures)
    (record { ring = c.self.invariant.ring; each = each-without IsSplitBuffer c.args.element.id i.posted.unreaped c.self.invariant.each })

pub returns-in-Some-clause-gives : goal.returns-in-Some-clause-gives
returns-in-Some-clause-gives g c =
    let i = c.self.inside in
    let us : List Unreaped = i.posted.unreaped in
    let q : DriverQueue = split_queue i.ring us in
    let id : ℕ = c.args.element.id in
    let len : ℕ = c.args.element.len in
    let step = g.P.Port.step in
    let marking = g.P.Port.marking in
    let p = c.args.port.now in
    let p1 = c.get_data.new.port in
    let p2 = c.ask_next.new.port in
    let bytes : List ℕ = c.get_data.new.room.items in
    let (u, k, h) = found_at IsSplitBuffer id us c.in-Some.found c.self.invariant.each c.in-Some.ensures in
    let location : data_address i.ring.base id + c.in-Some.found.readable ≡ data_address q.base u.id + u.readable
    = ap (λ (n : ℕ). data_address i.ring.base n + c.in-Some.found.readable) (sym k.is) ∙ ap (λ (n : ℕ). data_address i.ring.base u.id + n) (sym k.readable)
    in
    let got_them = subst (λ (a : ℕ). Gives step marking (bytes_program a len) p bytes p1) location c.get_data.ensures.gives in
    let after : c.remove.new.self.unreaped ≡ without u.id us = ap (λ (v : PostedView). v.unreaped) c.remove.ensures ∙ ap (λ (n : ℕ). without n us) (sym k.is) in
    subst (λ (s : SplitState). Gives step marking (reap_element s.queue len (unreaped_with id s.queue.unreaped)) p
    (Some (record { tag = c.in-Some.found.tag; len = len; bytes = bytes }), record q { used = (i.ring.used + 1) % 2 ^ 16; unreaped = c.remove.new.self.unreaped }) p2) c.self.view_is
    (subst (λ (t : ℕ). Gives step marking (reap_element q len (unreaped_with id us)) p (Some (record { tag = t; len = len; bytes = bytes }), record q { used = (i.ring.used + 1) % 2 ^ 16; unreaped = c.remove.new.self.unreaped }) p2) k.tag
    (subst (λ (vs : List Unreaped). Gives step marking (reap_element q len (unreaped_with id us)) p (Some (record { tag = u.tag; len = len; bytes = bytes }), record q { used = (i.ring.used + 1) % 2 ^ 16; unreaped = vs }) p2) (sym after)
    (reap_found_gives step marking split_reaped used_event_put q u (unreaped_with id us) len bytes p p1 p2 k.named c.if-element.true got_them c.ask_next.ensures.gives)))
