use Rattle.std.proofs.Common.{length}
use Rattle.interleaving.specs.BusDefinition.{driven}
use Rattle.interleaving.proofs.Agreement.{interleaved_with}
use Rattle.interleaving.proofs.laws.enough_repeats.Goals as goal

pub returns : goal.returns
returns g c =
    λ op w raw known events repeats asked enough few related. interleaved_with (driven g.S.Bus.Bus.table g.S.Driver.BusDriver.lowering g.S.Simulation.kind) g.S.Simulation.related op w raw known events repeats
    (c.begins.ensures op known (length events) repeats w raw asked enough few related)
