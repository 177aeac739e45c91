use Rattle.std.proofs.Common.{[], arith}
use Rattle.abstract_devices.specs.Operate.{operate}
use Rattle.interleaving.specs.BusDefinition.{driven, trace_of}
use Rattle.interleaving.proofs.Agreement.{agree_both, at_rest, interleaved_with}
use Rattle.interleaving.proofs.laws.replies_at_rest.Goals as goal

pub returns : goal.returns
returns g c =
    λ op w raw raw2 known known2 asked related related2.
    let bus = driven g.S.Bus.Bus.table g.S.Driver.BusDriver.lowering g.S.Simulation.kind in
    let first = interleaved_with bus g.S.Simulation.related op w raw known [] 1 (c.begins.ensures op known 0 1 w raw asked (omega arith) (omega arith) related) in
    let second = interleaved_with bus g.S.Simulation.related op w raw2 known2 [] 1 (c.begins.ensures op known2 0 1 w raw2 asked (omega arith) (omega arith) related2) in
    agree_both g.S.Simulation.related (operate bus.kind w op) (trace_of bus raw known op []) (trace_of bus raw2 known2 op [])
    (at_rest g.S.Simulation.related bus.kind w op (trace_of bus raw known op []).place (trace_of bus raw known op []) first)
    (at_rest g.S.Simulation.related bus.kind w op (trace_of bus raw2 known2 op []).place (trace_of bus raw2 known2 op []) second)
