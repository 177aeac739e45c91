use Rattle.std.proofs.Common.{arith, refl}
use Rattle.std.proofs.lemmas.Option.{slice_get_past}
use Rattle.mmio_regs.proofs.PageLaws.{at_below}
use Rattle.mmio_regs.proofs.page.Page.selected.Goals as goal

pub returns-then-self-lt2 : goal.returns-then-self-lt2
returns-then-self-lt2 c = rw (← c.self.view_is) (refl, at_below c.self.inside.queues c.self.inside.queue_select (omega arith))

pub returns-else-self-lt2 : goal.returns-else-self-lt2
returns-else-self-lt2 c = rw (← c.self.view_is) (slice_get_past c.self.inside.queues c.self.inside.queue_select (omega arith))
