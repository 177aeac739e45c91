use Rattle.std.proofs.Common.{◌≡◌, ℕ, Option, Some, sym, ◌∙◌, ap}
use Rattle.std.specs.Option.{option_map}
use Rattle.vt_types.specs.Operation.{posted_buffer}
use Rattle.vq_common.specs.Queue.{DriverQueue}
use Rattle.state_table.specs.Refusal.{is_tag_used}
use Rattle.drv_core.specs.Calls.{queue_if}
use Rattle.drv_core.specs.Driver.{queue_known}
use Rattle.drv_core.proofs.RefusalLaws.{has_tag-holds_tag}
use Rattle.drv_core.proofs.queue_end.QueueEnd.is_tag_used.Goals as goal

pub returns-in-Some : goal.returns-in-Some
returns-in-Some c =
    let set : Some c.self.inside.end.queue ≡ c.args.self.now = sym (ap (λ (s : Option ℕ). queue_if s c.self.inside.end.queue) c.in-Some.is) ∙ c.self.view_is in
    c.has_tag.ensures
    ∙ sym (has_tag-holds_tag c.args.buf.now.tag c.self.inside.end.queue.unreaped)
    ∙ ap (λ (o : Option DriverQueue). is_tag_used (option_map queue_known o) (posted_buffer c.args.buf.now)) set
