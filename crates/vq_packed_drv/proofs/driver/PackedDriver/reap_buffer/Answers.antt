use Rattle.std.proofs.Common.{◌≡◌, ℕ, ◌+◌, ◌<◌, ◌≤◌, List, Some, ap, sym, ◌∙◌, subst, arith}
use Rattle.vt_types.specs.Program.{Gives}
use Rattle.port_access.specs.Accesses.{bytes_program}
use Rattle.vq_common.specs.declared.position.Position.{Position}
use Rattle.vt_layout.specs.QueueBlock.{data_address}
use Rattle.vq_common.specs.Position.{position_after}
use Rattle.vq_common.specs.Queue.{DriverQueue, Unreaped, unreaped_with, without}
use Rattle.vq_common.proofs.PositionLaws.{location_after-inside}
use Rattle.vq_posted.specs.Reap.{ask_program}
use Rattle.vq_posted.specs.Table.{PostedView, found_of}
use Rattle.vq_posted.proofs.Each.{each-without, found_at}
use Rattle.vq_posted.proofs.Reaps.{reap_found_gives}
use Rattle.vq_packed_drv.specs.Driver.{IsKept, IsPackedBuffer, PackedState, packed_queue}
use Rattle.vq_packed_drv.specs.Reap.{event_put, packed_reaped, reap_buffer}
use Rattle.vq_packed_drv.proofs.driver.PackedDriver.reap_buffer.Goals as goal

-- the next used position is in the ring
next_inside : (size slots : ℕ) (used next : Position) → used.location < size → slots ≤ size → next ≡ position_after size used slots → next.location < size
next_inside size slots used next inside few e = subst (λ (p : Position). p.location < size) (sym e) (location_after-inside size used.location slots inside few)

pub ask_next-requires-clause-location : goal.ask_next-requires-clause-location
ask_next-requires-clause-location g c =
    let i = c.self.inside in
    let size : ℕ = i.ring.cfg.size in
    let started : 0 < size = subst (λ (s : PackedState). 0 < s.queue.cfg.size) (sym c.self.view_is) c.requires.started in
    let (u, k, h) = found_at (IsPackedBuffer size) c.args.descriptor.id i.posted.unreaped c.in-Some.found c.self.invariant.each (c.in-Some.ensures ∙ ap (λ (n : ℕ). found_of (unreaped_with n i.posted.unreaped)) c.from.ensures) in
    omega (arith, next_inside size c.in-Some.found.slots i.ring.used c.advance-self-inside.result (c.self.invariant.used started) (omega (arith, k.slots, h.fits)) c.advance-self-inside.ensures, i.ring.small)

pub invariant_of-self : goal.invariant_of-self
invariant_of-self g c =
    let i = c.self.inside in
    let size : ℕ = i.ring.cfg.size in
    let (u, k, h) = found_at (IsPackedBuffer size) c.args.descriptor.id i.posted.unreaped c.in-Some.found c.self.invariant.each (c.in-Some.ensures ∙ ap (λ (n : ℕ). found_of (unreaped_with n i.posted.unreaped)) c.from.ensures) in
    subst (λ (v : PostedView). IsKept size i.ring.available c.advance-self-inside.result v) (sym c.remove.ensures)
    (record {
      available = c.self.invariant.available;
      used = λ started. next_inside size c.in-Some.found.slots i.ring.used c.advance-self-inside.result (c.self.invariant.used started) (omega (arith, k.slots, h.fits)) c.advance-self-inside.ensures;
      ring = c.self.invariant.ring;
      each = each-without (IsPackedBuffer size) c.args.descriptor.id i.posted.unreaped c.self.invariant.each;
    })

pub returns-in-Some-clause-gives : goal.returns-in-Some-clause-gives
returns-in-Some-clause-gives g c =
    let i = c.self.inside in
    let us : List Unreaped = i.posted.unreaped in
    let q : DriverQueue = packed_queue i.ring us in
    let d = c.args.descriptor in
    let step = g.P.Port.step in
    let marking = g.P.Port.marking in
    let p = c.args.port.now in
    let p1 = c.get_data.new.port in
    let p2 = c.ask_next.new.port in
    let bytes : List ℕ = c.get_data.new.room.items in
    let next : Position = c.advance-self-inside.result in
    let (u, k, h) = found_at (IsPackedBuffer i.ring.cfg.size) d.id us c.in-Some.found c.self.invariant.each (c.in-Some.ensures ∙ ap (λ (n : ℕ). found_of (unreaped_with n i.posted.unreaped)) c.from.ensures) in
    let location : data_address i.ring.base d.id + c.in-Some.found.readable ≡ data_address q.base u.id + u.readable
    = ap (λ (n : ℕ). data_address i.ring.base n + c.in-Some.found.readable) (sym k.is) ∙ ap (λ (n : ℕ). data_address i.ring.base u.id + n) (sym k.readable)
    in
    let got_them = subst (λ (a : ℕ). Gives step marking (bytes_program a d.len) p bytes p1) location c.get_data.ensures.gives in
    let moved : next ≡ position_after i.ring.cfg.size i.ring.used u.slots = c.advance-self-inside.ensures ∙ ap (position_after i.ring.cfg.size i.ring.used) (sym k.slots) in
    let left : c.remove.new.self.unreaped ≡ without u.id us = ap (λ (v : PostedView). v.unreaped) c.remove.ensures ∙ ap (λ (n : ℕ). without n us) (sym k.is) in
    let asked = subst (λ (r : Position). Gives step marking (ask_program event_put (record q { used = r.location; used_wrap = r.wrap })) p1 tt p2) moved c.ask_next.ensures.gives in
    subst (λ (s : PackedState). Gives step marking (reap_buffer s.queue d) p
    (Some (record { tag = c.in-Some.found.tag; len = d.len; bytes = bytes }), record q { used = next.location; used_wrap = next.wrap; unreaped = c.remove.new.self.unreaped }) p2) c.self.view_is
    (subst (λ (t : ℕ). Gives step marking (reap_buffer q d) p (Some (record { tag = t; len = d.len; bytes = bytes }), record q { used = next.location; used_wrap = next.wrap; unreaped = c.remove.new.self.unreaped }) p2) k.tag
    (subst (λ (vs : List Unreaped). Gives step marking (reap_buffer q d) p (Some (record { tag = u.tag; len = d.len; bytes = bytes }), record q { used = next.location; used_wrap = next.wrap; unreaped = vs }) p2) (sym left)
    (subst (λ (r : Position). Gives step marking (reap_buffer q d) p (Some (record { tag = u.tag; len = d.len; bytes = bytes }), record q { used = r.location; used_wrap = r.wrap; unreaped = without u.id us }) p2) (sym moved)
    (reap_found_gives step marking packed_reaped event_put q u (unreaped_with d.id us) d.len bytes p p1 p2 k.named c.if-descriptor.true got_them asked))))
