use Rattle.std.proofs.Common.{◌≡◌, ℕ, ◌<◌, ◌≤◌, List, true, ap, sym, ◌∙◌, subst, arith}
use Rattle.vt_types.specs.Operation.{PostedBuffer, posted_buffer}
use Rattle.vt_types.specs.Program.{Does, Gives, cost_of_all}
use Rattle.vq_common.specs.declared.position.Position.{Position}
use Rattle.vq_common.specs.Queue.{DriverQueue, Unreaped, cost_of_post, free_slots, post_program, slots_of}
use Rattle.vq_common.proofs.PositionLaws.{location_after-inside}
use Rattle.vq_common.proofs.PostLaws.{cost_with_room, post_gives, slots_of-some}
use Rattle.vq_posted.specs.Free.{head_of}
use Rattle.vq_posted.specs.Table.{PostedView}
use Rattle.vq_posted.proofs.Each.{each-with_buffer}
use Rattle.vq_packed_drv.specs.Driver.{IsKept, IsPackedBuffer, PackedState, packed_queue}
use Rattle.vq_packed_drv.specs.Post.{id_for, packed_post_accesses, packed_posted, post_puts}
use Rattle.vq_packed_drv.proofs.Posts.{id_is, only_one, posted_is}
use Rattle.vq_packed_drv.proofs.driver.PackedDriverDriverEnd.post.Goals as goal

pub put_buffer-requires-clause-credit : goal.put_buffer-requires-clause-credit
put_buffer-requires-clause-credit g c =
    let i = c.self.inside in
    let q : DriverQueue = packed_queue i.ring i.posted.unreaped in
    let b : PostedBuffer = posted_buffer c.args.buf.now in
    let view : q ≡ c.args.self.now.queue = ap (λ (s : PackedState). s.queue) c.self.view_is in
    let room : slots_of b ≤ free_slots q = omega (arith, c.slots_of-slots.ensures.value, c.free.ensures.value, c.if-slots-free.false, ap free_slots view) in
    let id : c.head-id.result ≡ id_for q = id_is i.posted.size i.ring.cfg.size c.head-id.result i.posted.unreaped c.as_slice.result.now c.lowest_free-descriptors.result.items c.head-id.ensures c.as_slice.ensures.value c.lowest_free-descriptors.ensures.value c.self.invariant.ring in
    omega (arith, ap (λ (n : ℕ). cost_of_all (post_puts q b n)) id, cost_with_room packed_post_accesses q b room, ap (λ (r : DriverQueue). cost_of_post packed_post_accesses r b) view, c.requires.credit)

pub returns-clause-credit : goal.returns-clause-credit
returns-clause-credit g c =
    let i = c.self.inside in
    let q : DriverQueue = packed_queue i.ring i.posted.unreaped in
    let b : PostedBuffer = posted_buffer c.args.buf.now in
    let view : q ≡ c.args.self.now.queue = ap (λ (s : PackedState). s.queue) c.self.view_is in
    let room : slots_of b ≤ free_slots q = omega (arith, c.slots_of-slots.ensures.value, c.free.ensures.value, c.if-slots-free.false, ap free_slots view) in
    let id : c.head-id.result ≡ id_for q = id_is i.posted.size i.ring.cfg.size c.head-id.result i.posted.unreaped c.as_slice.result.now c.lowest_free-descriptors.result.items c.head-id.ensures c.as_slice.ensures.value c.lowest_free-descriptors.ensures.value c.self.invariant.ring in
    omega (arith, ap (λ (n : ℕ). cost_of_all (post_puts q b n)) id, cost_with_room packed_post_accesses q b room, ap (λ (r : DriverQueue). cost_of_post packed_post_accesses r b) view, c.put_buffer.ensures.credit, c.mark.ensures.credit)

pub invariant_of-self : goal.invariant_of-self
invariant_of-self g c =
    let i = c.self.inside in
    let size : ℕ = i.ring.cfg.size in
    let items : List ℕ = c.lowest_free-descriptors.result.items in
    let b : PostedBuffer = posted_buffer c.args.buf.now in
    let u : Unreaped = record { tag = c.args.buf.now.tag; id = head_of items; descriptors = items; slots = c.slots_of-slots.result; readable = c.len.result } in
    let view = ap (λ (s : PackedState). free_slots s.queue) c.self.view_is in
    let fits : c.slots_of-slots.result ≤ size = omega (arith, c.free.ensures.value, c.if-slots-free.false, view) in
    let buffer : IsPackedBuffer size u
    = record {
      descriptors = only_one items c.lowest_free-descriptors.ensures.count;
      some = omega (arith, (slots_of-some b c.requires.postable).0, c.slots_of-slots.ensures.value);
      few = c.slots_of-slots.ensures.few;
      fits = fits;
    }
    in
    subst (λ (v : PostedView). IsKept size c.advance-self-inside.result i.ring.used v) (sym c.add.ensures)
    (record {
      available = λ started. subst (λ (p : Position). p.location < size) (sym c.advance-self-inside.ensures) (location_after-inside size i.ring.available.location c.slots_of-slots.result (c.self.invariant.available started) fits);
      used = c.self.invariant.used;
      ring = c.self.invariant.ring;
      each = each-with_buffer (IsPackedBuffer size) u i.posted.unreaped buffer c.self.invariant.each;
    })

pub returns-clause-gives : goal.returns-clause-gives
returns-clause-gives g c =
    let i = c.self.inside in
    let q : DriverQueue = packed_queue i.ring i.posted.unreaped in
    let b : PostedBuffer = posted_buffer c.args.buf.now in
    let step = g.P.Port.step in
    let marking = g.P.Port.marking in
    let items : List ℕ = c.lowest_free-descriptors.result.items in
    let next : Position = c.advance-self-inside.result in
    let p = c.args.port.now in
    let view : q ≡ c.args.self.now.queue = ap (λ (s : PackedState). s.queue) c.self.view_is in
    let slots : c.slots_of-slots.result ≡ slots_of b = c.slots_of-slots.ensures.value in
    let room : slots_of b ≤ free_slots q = omega (arith, slots, c.free.ensures.value, c.if-slots-free.false, ap free_slots view) in
    let id : c.head-id.result ≡ id_for q = id_is i.posted.size i.ring.cfg.size c.head-id.result i.posted.unreaped c.as_slice.result.now items c.head-id.ensures c.as_slice.ensures.value c.lowest_free-descriptors.ensures.value c.self.invariant.ring in
    let head : head_of items ≡ id_for q = sym (c.head-id.ensures ∙ ap head_of c.as_slice.ensures.value) ∙ id in
    let done : Does step marking (packed_post_accesses q b) p c.put_buffer.new.port
    = subst (λ (n : ℕ). Does step marking (post_puts q b n) p c.put_buffer.new.port) id c.put_buffer.ensures.does
    in
    let left : c.add.new.self.unreaped ≡ _ = ap (λ (v : PostedView). v.unreaped) c.add.ensures in
    let after = ap (λ (us : List Unreaped). record q { available = next.location; available_wrap = next.wrap; unreaped = us }) left
    ∙ posted_is q b next items c.slots_of-slots.result c.len.result c.lowest_free-descriptors.ensures.count head slots c.len.ensures c.advance-self-inside.ensures
    in
    subst (λ (r : DriverQueue). Gives step marking (post_program packed_post_accesses packed_posted r b) p (true, record q { available = next.location; available_wrap = next.wrap; unreaped = c.add.new.self.unreaped }) c.mark.new.self) view
    (subst (λ (r : DriverQueue). Gives step marking (post_program packed_post_accesses packed_posted q b) p (true, r) c.mark.new.self) (sym after)
    (post_gives step marking packed_post_accesses packed_posted q b p c.put_buffer.new.port c.mark.new.self room done c.mark.ensures.marking))
