use Rattle.std.proofs.Common.{sym}
use Rattle.mmio_regs.proofs.PageLaws.{replaced_unset}
use Rattle.mmio_regs.proofs.page.Page.change.Goals as goal

pub returns-then-not-is_selected_set : goal.returns-then-not-is_selected_set
returns-then-not-is_selected_set g c = rw c.replace_registers.ensures (replaced_unset _ _ (sym c.if-not-is_selected_set.ensures))
