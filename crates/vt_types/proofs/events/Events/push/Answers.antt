use Rattle.std.proofs.Common.{◌≤◌, ◌<◌, length}
use Rattle.vt_types.specs.Events.{last_gap}
use Rattle.vt_types.proofs.EventLists.{AreEvents-push}
use Rattle.vt_types.proofs.events.Events.push.Goals as goal

pub invariant_of-self-2 : goal.invariant_of-self-2
invariant_of-self-2 c =
    let few : length c.args.self.now < 128 = c.requires.few in
    let rise : last_gap c.args.self.now ≤ c.args.gap = c.requires.rise in
    rw c.in_ok-push.ensures.items (AreEvents-push _ _ c.self.invariant (rw (← c.self.view_is) at few) (rw (← c.self.view_is) at rise))
