use Rattle.std.proofs.Common.{◌≡◌, ℕ, ◌-◌, Option, Some, sym, ◌∙◌, ap}
use Rattle.std.specs.Prelude.{nat_lt}
use Rattle.std.specs.Option.{option_map}
use Rattle.vt_types.specs.Operation.{posted_buffer}
use Rattle.vq_common.specs.Queue.{DriverQueue, slots_of, slots_of_all}
use Rattle.state_table.specs.Refusal.{is_full}
use Rattle.drv_core.specs.Calls.{queue_if}
use Rattle.drv_core.specs.Driver.{queue_known}
use Rattle.drv_core.proofs.RefusalLaws.{exceed}
use Rattle.drv_core.proofs.queue_end.QueueEnd.is_full.Goals as goal

pub returns-in-Some : goal.returns-in-Some
returns-in-Some c =
    let q : DriverQueue = c.self.inside.end.queue in
    let set : Some q ≡ c.args.self.now = sym (ap (λ (s : Option ℕ). queue_if s q) c.in-Some.is) ∙ c.self.view_is in
    ap (λ (n : ℕ). nat_lt n c.slots_of.result) c.free.ensures.value
    ∙ ap (λ (n : ℕ). nat_lt (q.cfg.size - slots_of_all q.unreaped) n) c.slots_of.ensures.value
    ∙ exceed q.cfg.size (slots_of_all q.unreaped) (slots_of (posted_buffer c.args.buf.now)) c.free.ensures.order.order.slots
    ∙ ap (λ (o : Option DriverQueue). is_full (option_map queue_known o) (posted_buffer c.args.buf.now)) set
