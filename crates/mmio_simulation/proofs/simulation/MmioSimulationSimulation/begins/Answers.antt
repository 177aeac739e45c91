use Rattle.mmio_simulation.proofs.OperationBegins.{operation_begins}
use Rattle.mmio_simulation.proofs.simulation.MmioSimulationSimulation.begins.Goals as goal

pub returns : goal.returns
returns c = operation_begins
