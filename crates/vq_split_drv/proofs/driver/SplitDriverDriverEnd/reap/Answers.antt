use Rattle.std.proofs.Common.{◌≡◌, ℕ, ◌+◌, ◌*◌, ◌%◌, List, ap, sym, ◌∙◌, subst}
use Rattle.byteorder.specs.Endian.{little_number}
use Rattle.vt_types.specs.Program.{Gives}
use Rattle.port_access.specs.Accesses.{get_bytes, mark_alone}
use Rattle.vt_layout.specs.QueueBlock.{device_area}
use Rattle.vq_common.specs.Queue.{DriverQueue, reaped_value, unreaped_with}
use Rattle.vq_split_drv.specs.Driver.{SplitState}
use Rattle.vq_split_drv.specs.Reap.{reap_element}
use Rattle.vq_split_drv.proofs.Reaps.{reap_gives}
use Rattle.vq_split_drv.proofs.driver.SplitDriverDriverEnd.reap.Goals as goal

pub returns-clause-gives : goal.returns-clause-gives
returns-clause-gives g c =
    let q : DriverQueue = c.args.self.now.queue in
    let step = g.P.Port.step in
    let marking = g.P.Port.marking in
    let p1 = c.get_used_index.new.port in
    let p2 = c.mark_where_due.new.port in
    let p3 = c.get_used_element-element.new.port in
    let p4 = c.reap_element.new.port in
    let idx : List ℕ = c.get_used_index.new.room.items in
    let bytes : List ℕ = c.get_used_element-element.new.room.items in
    let result = reaped_value c.reap_element.result c.reap_element.new.room.items in
    let first = subst (λ (s : SplitState). Gives step marking (get_bytes (device_area s.queue.base + 2) 2) c.args.port.now idx p1) c.self.view_is c.get_used_index.ensures.gives in
    let other : little_number 2 idx ≡ q.used → ⊥
    = λ e. c.if-get_used_index-self.false (c.get_used_index.ensures.value ∙ e ∙ sym (ap (λ (s : SplitState). s.queue.used) c.self.view_is))
    in
    let marked = subst (λ (s : SplitState). Gives step marking (mark_alone s.queue.cfg.event_idx) p1 tt p2) c.self.view_is c.mark_where_due.ensures.gives in
    let second = subst (λ (s : SplitState). Gives step marking (get_bytes (device_area s.queue.base + (4 + 8 * (s.queue.used % s.queue.cfg.size))) 8) p2 bytes p3) c.self.view_is c.get_used_element-element.ensures.gives in
    let named = subst (λ (n : ℕ). Gives step marking (reap_element q c.get_used_element-element.result.len (unreaped_with n q.unreaped)) p3 (result, c.reap_element.new.self.queue) p4) c.get_used_element-element.ensures.id c.reap_element.ensures.gives in
    let rest = subst (λ (n : ℕ). Gives step marking (reap_element q n (unreaped_with (little_number 4 bytes) q.unreaped)) p3 (result, c.reap_element.new.self.queue) p4) c.get_used_element-element.ensures.len named in
    reap_gives step marking q idx bytes (result, c.reap_element.new.self.queue) c.args.port.now p1 p2 p3 p4 first other marked second rest
