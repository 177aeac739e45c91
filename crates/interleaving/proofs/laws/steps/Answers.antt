use Rattle.interleaving.specs.BusDefinition.{driven}
use Rattle.interleaving.proofs.StepLaws.{access_step, event_step, event_after_step, end_step}
use Rattle.interleaving.proofs.laws.steps.Goals as goal

pub returns-clause-access : goal.returns-clause-access
returns-clause-access g c = access_step (driven g.S.Bus.Bus.table g.S.Driver.BusDriver.lowering g.S.Simulation.kind) g.S.Simulation.related

pub returns-clause-event : goal.returns-clause-event
returns-clause-event g c = event_step (driven g.S.Bus.Bus.table g.S.Driver.BusDriver.lowering g.S.Simulation.kind) g.S.Simulation.related

pub returns-clause-later_event : goal.returns-clause-later_event
returns-clause-later_event g c = event_after_step (driven g.S.Bus.Bus.table g.S.Driver.BusDriver.lowering g.S.Simulation.kind) g.S.Simulation.related

pub returns-clause-end : goal.returns-clause-end
returns-clause-end g c = end_step (driven g.S.Bus.Bus.table g.S.Driver.BusDriver.lowering g.S.Simulation.kind) g.S.Simulation.related
