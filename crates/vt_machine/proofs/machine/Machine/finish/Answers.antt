use Rattle.std.proofs.Common.{sym, ◌∙◌}
use Rattle.vt_machine.proofs.HappenLaws.{all_left, leads_left}
use Rattle.vt_machine.proofs.machine.Machine.finish.Goals as goal

pub left-preserved : goal.left-preserved
left-preserved g c = record {
  place = c.happen_next.ensures.place ∙ c.left.invariant.place;
  count = c.happen_next.ensures.count ∙ c.left.invariant.count;
  leads = leads_left g.B.Bus.table _ _ _ c.happen_next.ensures c.left.invariant.leads;
}

pub returns-clause-happens : goal.returns-clause-happens
returns-clause-happens g c = all_left g.B.Bus.table _ _ (sym c.is_done.ensures ∙ c.left-test.false) c.left.invariant.leads
