use Rattle.vt_types.proofs.EventLists.{last_gap_from-last}
use Rattle.vt_types.proofs.events.Events.last_gap.Goals as goal

pub returns-in-Some : goal.returns-in-Some
returns-in-Some c = rw (← c.self.view_is) (last_gap_from-last 0 c.self.inside.items.items _ (rw c.deref.ensures.value at c.in-Some.ensures.value))
