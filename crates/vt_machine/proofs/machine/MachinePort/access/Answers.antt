use Rattle.vt_machine.proofs.StepLaws.{machine_step}
use Rattle.vt_machine.proofs.machine.MachinePort.access.Goals as goal

pub returns-clause-step : goal.returns-clause-step
returns-clause-step g c = machine_step g.B.Bus.table _ _ _ _ _ _ _ c.happen_due.ensures c.access_now.ensures.step c.access_now.ensures.same c.access_now.ensures.lines c.access_now.ensures.short
