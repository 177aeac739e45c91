use Rattle.std.proofs.Common.{◌≡◌, ◌∙◌, ap, length, take, subst}
use Rattle.vq_posted.specs.Free.{free_descriptors}
use Rattle.vq_posted.specs.Order.{IsInOrder}
use Rattle.vq_posted.specs.Table.{PostedView}
use Rattle.vq_posted.proofs.Buffers.{lowest_free-length}
use Rattle.vq_posted.proofs.Kept.{members_are_free}
use Rattle.vq_posted.proofs.table.PostedBuffers.add_lowest_free.Goals as goal

lowest : (c : goal.After-add_lowest) → c.add_lowest.new.numbers.items ≡ take c.args.count (free_descriptors c.args.self.now.size c.args.self.now.unreaped)
lowest c =
    c.add_lowest.ensures
    ∙ ap (take c.args.count) (members_are_free c.self.inside.size c.self.inside.free c.self.inside.descriptors c.self.inside.tags c.self.inside.locations.items c.self.invariant)
    ∙ ap (λ (v : PostedView). take c.args.count (free_descriptors v.size v.unreaped)) c.self.view_is

pub returns-clause-value : goal.returns-clause-value
returns-clause-value c = lowest c

pub returns-clause-count : goal.returns-clause-count
returns-clause-count c =
    let v : PostedView = c.args.self.now in
    ap length (lowest c)
    ∙ lowest_free-length v.size c.args.count v.unreaped (subst (λ (v : PostedView). IsInOrder v.size v.unreaped) c.self.view_is c.self.invariant.order) c.requires.room
