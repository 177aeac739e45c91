use Rattle.mmio_simulation.proofs.EventsKeep.{related_kept}
use Rattle.mmio_simulation.proofs.simulation.MmioSimulationSimulation.keeps_events.Goals as goal

pub returns : goal.returns
returns c = related_kept
