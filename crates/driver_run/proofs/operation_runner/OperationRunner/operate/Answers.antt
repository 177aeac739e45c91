use Rattle.std.proofs.Common.{ap, ◌+◌, arith}
use Rattle.vt_types.specs.Operation.{operation}
use Rattle.interleaving.specs.BusDefinition.{driven}
use Rattle.driver_run.proofs.OperationLaws.{operated}
use Rattle.driver_run.proofs.operation_runner.OperationRunner.operate.Goals as goal

pub returns-clause-traced : goal.returns-clause-traced
returns-clause-traced g c =
    operated (driven g.M.Bus.Bus.table g.M.Driver.BusDriver.lowering g.M.Simulation.kind) (operation c.args.op.now) c.args.events _ c.args.self.now.machine _ _ _ _ _ (ap (λ n. n + 1) c.len-repeats.ensures.length)
    c.requires.reserved c.len-repeats.ensures.events.few (c.is_short.ensures _ _ _ c.requires.asked (omega (arith, c.len-repeats.ensures.events.few, c.len-repeats.ensures.length))) c.begin.ensures c.op-reply.ensures.gives
    c.finish-place.ensures.happens
