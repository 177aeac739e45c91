use Rattle.mmio_simulation.proofs.Bounded.{operation_is_short}
use Rattle.mmio_simulation.proofs.simulation.MmioSimulationSimulation.is_short.Goals as goal

pub returns : goal.returns
returns c = operation_is_short
