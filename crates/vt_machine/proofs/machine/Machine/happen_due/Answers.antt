use Rattle.std.proofs.Common.{sym, ◌∙◌}
use Rattle.vt_machine.proofs.HappenLaws.{all_due, leads_due}
use Rattle.vt_machine.proofs.machine.Machine.happen_due.Goals as goal

pub due-preserved : goal.due-preserved
due-preserved g c = leads_due g.B.Bus.table _ _ _ (sym c.is_due.ensures ∙ c.due-test.true) c.happen_next.ensures c.due.invariant

pub returns : goal.returns
returns g c = all_due g.B.Bus.table _ _ (sym c.is_due.ensures ∙ c.due-test.false) c.due.invariant
