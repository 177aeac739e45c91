use Rattle.std.proofs.Common.{arith, refl}
use Rattle.std.proofs.lemmas.Option.{slice_get_past}
use Rattle.mmio_regs.proofs.PageLaws.{at_below}
use Rattle.mmio_regs.proofs.console_page.queue_of.Goals as goal

pub returns-then-number-from : goal.returns-then-number-from
returns-then-number-from g c = (refl, at_below c.args.set.now.devices.con.queues c.args.number (omega arith))

pub returns-else-number-from : goal.returns-else-number-from
returns-else-number-from g c = slice_get_past c.args.set.now.devices.con.queues c.args.number (omega arith)
