use Rattle.std.proofs.Common.{◌+◌, length, arith}
use Rattle.interleaving.specs.BusDefinition.{driven}
use Rattle.interleaving.proofs.Agreement.{interleaved_with}
use Rattle.interleaving.proofs.laws.interleaved.Goals as goal

pub returns : goal.returns
returns g c =
    λ op w raw known events asked few related. interleaved_with (driven g.S.Bus.Bus.table g.S.Driver.BusDriver.lowering g.S.Simulation.kind) g.S.Simulation.related op w raw known events (length events + 1)
    (c.begins.ensures op known (length events) (length events + 1) w raw asked (omega arith) few related)
