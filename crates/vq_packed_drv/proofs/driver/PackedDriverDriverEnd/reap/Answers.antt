use Rattle.std.proofs.Common.{◌≡◌, ℕ, ◌+◌, ◌*◌, List, Bool, true, false, ap, sym, ◌∙◌, subst}
use Rattle.vt_types.specs.Program.{Gives}
use Rattle.port_access.specs.Accesses.{get_bytes, mark_alone}
use Rattle.vq_common.specs.declared.packed_descriptor.PackedDescriptor.{PackedDescriptor}
use Rattle.vq_common.specs.PackedDescriptor.{is_used, packed_descriptor_in}
use Rattle.vq_common.specs.Queue.{DriverQueue, reaped_value}
use Rattle.vq_packed_drv.specs.Driver.{PackedState}
use Rattle.vq_packed_drv.specs.Reap.{reap_buffer}
use Rattle.vq_packed_drv.proofs.Reaps.{reap_idle_gives, reap_used_gives}
use Rattle.vq_packed_drv.proofs.driver.PackedDriverDriverEnd.reap.Goals as goal

-- the test of the code is that of the record
test_is : (wrap wrap2 : Bool) (d : PackedDescriptor) (bytes : List ℕ) (result value : Bool) → result ≡ is_used wrap d.flags → d ≡ packed_descriptor_in bytes → wrap ≡ wrap2 → result ≡ value → is_used wrap2 (packed_descriptor_in bytes).flags ≡ value
test_is wrap wrap2 d bytes result value e f h k =
    sym (ap (λ (b : Bool). is_used b (packed_descriptor_in bytes).flags) h) ∙ sym (ap (λ (x : PackedDescriptor). is_used wrap x.flags) f) ∙ sym e ∙ k

pub returns-then-not-is_used-clause-gives : goal.returns-then-not-is_used-clause-gives
returns-then-not-is_used-clause-gives g c =
    let q : DriverQueue = c.args.self.now.queue in
    let step = g.P.Port.step in
    let marking = g.P.Port.marking in
    let d = c.get_descriptor-descriptor in
    let bytes : List ℕ = d.new.room.items in
    let wrap = ap (λ (s : PackedState). s.queue.used_wrap) c.self.view_is in
    let got_it = subst (λ (s : PackedState). Gives step marking (get_bytes (s.queue.base + 16 * s.queue.used) 16) c.args.port.now bytes d.new.port) c.self.view_is d.ensures.gives in
    reap_idle_gives step marking q bytes c.args.port.now d.new.port c.mark.new.self got_it
    (test_is c.self.inside.ring.used.wrap q.used_wrap d.result bytes c.is_used.result false c.is_used.ensures d.ensures.value wrap c.if-not-is_used.true) c.mark.ensures.marking

pub returns-clause-gives : goal.returns-clause-gives
returns-clause-gives g c =
    let q : DriverQueue = c.args.self.now.queue in
    let step = g.P.Port.step in
    let marking = g.P.Port.marking in
    let d = c.get_descriptor-descriptor in
    let bytes : List ℕ = d.new.room.items in
    let p2 = c.mark_where_due.new.port in
    let p3 = c.reap_buffer.new.port in
    let result = reaped_value c.reap_buffer.result c.reap_buffer.new.room.items in
    let wrap = ap (λ (s : PackedState). s.queue.used_wrap) c.self.view_is in
    let got_it = subst (λ (s : PackedState). Gives step marking (get_bytes (s.queue.base + 16 * s.queue.used) 16) c.args.port.now bytes d.new.port) c.self.view_is d.ensures.gives in
    let marked = subst (λ (s : PackedState). Gives step marking (mark_alone s.queue.cfg.event_idx) d.new.port tt p2) c.self.view_is c.mark_where_due.ensures.gives in
    let rest = subst (λ (x : PackedDescriptor). Gives step marking (reap_buffer q x) p2 (result, c.reap_buffer.new.self.queue) p3) d.ensures.value c.reap_buffer.ensures.gives in
    reap_used_gives step marking q bytes (result, c.reap_buffer.new.self.queue) c.args.port.now d.new.port p2 p3 got_it
    (test_is c.self.inside.ring.used.wrap q.used_wrap d.result bytes c.is_used.result true c.is_used.ensures d.ensures.value wrap c.if-not-is_used.false) marked rest
