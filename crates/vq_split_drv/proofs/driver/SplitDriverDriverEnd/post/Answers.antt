use Rattle.std.proofs.Common.{◌≡◌, ℕ, ◌+◌, ◌%◌, ◌<◌, ◌≤◌, ◌^◌, List, true, take, ap, sym, ◌∙◌, subst, arith}
use Rattle.vt_types.specs.Operation.{PostedBuffer, posted_buffer}
use Rattle.vt_types.specs.Program.{Does, Gives}
use Rattle.vq_common.specs.Queue.{DriverQueue, Unreaped, free_slots, post_program, slots_of}
use Rattle.vq_common.proofs.PostLaws.{post_gives}
use Rattle.vq_posted.specs.Free.{free_descriptors, head_of}
use Rattle.vq_posted.specs.Table.{PostedView}
use Rattle.vq_posted.proofs.Each.{each-with_buffer}
use Rattle.vq_split_drv.specs.Driver.{IsKept, IsSplitBuffer, SplitState, split_queue}
use Rattle.vq_split_drv.specs.Post.{descriptors_for, post_puts, split_post_accesses, split_posted}
use Rattle.vq_split_drv.proofs.Buffers.{head_of_free, posted_are}
use Rattle.vq_split_drv.proofs.driver.SplitDriverDriverEnd.post.Goals as goal

pub invariant_of-self : goal.invariant_of-self
invariant_of-self g c =
    let i = c.self.inside in
    let us : List Unreaped = i.posted.unreaped in
    let locations : List ℕ = c.add_lowest_free.new.descriptors.items in
    let u : Unreaped = record { tag = c.args.buf.now.tag; id = head_of locations; descriptors = locations; slots = c.slots_of-slots.result; readable = c.len.result } in
    let few : i.posted.size ≤ 1024 = omega (arith, c.self.invariant.ring, i.ring.small) in
    let buffer : IsSplitBuffer u
    = record {
      slots = sym (c.add_lowest_free.ensures.count ∙ c.from.ensures);
      id = subst (λ (ns : List ℕ). head_of ns < 2 ^ 16) (sym c.add_lowest_free.ensures.value) (head_of_free i.posted.size c.from.result us few);
    }
    in
    subst (λ (v : PostedView). IsKept i.ring.cfg.size v) (sym c.add.ensures) (record { ring = c.self.invariant.ring; each = each-with_buffer IsSplitBuffer u us buffer c.self.invariant.each })

pub returns-clause-gives : goal.returns-clause-gives
returns-clause-gives g c =
    let i = c.self.inside in
    let us : List Unreaped = i.posted.unreaped in
    let q : DriverQueue = split_queue i.ring us in
    let b : PostedBuffer = posted_buffer c.args.buf.now in
    let view : q ≡ c.args.self.now.queue = ap (λ (s : SplitState). s.queue) c.self.view_is in
    let slots : c.slots_of-slots.result ≡ slots_of b = c.slots_of-slots.ensures.value in
    let room : slots_of b ≤ free_slots q = omega (arith, slots, c.free.ensures.value, c.if-slots-free.false, ap free_slots view) in
    let locations : c.add_lowest_free.new.descriptors.items ≡ descriptors_for q b
    = c.add_lowest_free.ensures.value
    ∙ ap (λ (n : ℕ). take n (free_descriptors i.posted.size us)) (c.from.ensures ∙ slots)
    ∙ ap (λ (n : ℕ). take (slots_of b) (free_descriptors n us)) c.self.invariant.ring
    in
    let done : Does g.P.Port.step g.P.Port.marking (split_post_accesses q b) c.args.port.now c.put_buffer.new.port
    = subst (λ (ns : List ℕ). Does g.P.Port.step g.P.Port.marking (post_puts q b ns) c.args.port.now c.put_buffer.new.port) (c.as_slice.ensures.value ∙ locations) c.put_buffer.ensures.does
    in
    let after : c.add.new.self.unreaped ≡ (split_posted q b).unreaped
    = ap (λ (v : PostedView). v.unreaped) c.add.ensures ∙ posted_are q b c.add_lowest_free.new.descriptors.items c.slots_of-slots.result c.len.result locations slots c.len.ensures
    in
    subst (λ (r : DriverQueue). Gives g.P.Port.step g.P.Port.marking (post_program split_post_accesses split_posted r b) c.args.port.now (true, record q { available = (i.ring.available + 1) % 2 ^ 16; unreaped = c.add.new.self.unreaped }) c.mark.new.self) view
    (subst (λ (vs : List Unreaped). Gives g.P.Port.step g.P.Port.marking (post_program split_post_accesses split_posted q b) c.args.port.now (true, record q { available = (i.ring.available + 1) % 2 ^ 16; unreaped = vs }) c.mark.new.self) (sym after)
    (post_gives g.P.Port.step g.P.Port.marking split_post_accesses split_posted q b c.args.port.now c.put_buffer.new.port c.mark.new.self room done c.mark.ensures.marking))
