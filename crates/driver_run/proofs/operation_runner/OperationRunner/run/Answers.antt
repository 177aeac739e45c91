use Rattle.std.proofs.Common.{arith}
use Rattle.vt_types.specs.Operation.{operation}
use Rattle.interleaving.specs.BusDefinition.{driven}
use Rattle.driver_run.proofs.OperationLaws.{operation_runs}
use Rattle.driver_run.proofs.operation_runner.OperationRunner.run.Goals as goal

pub returns-clause-runs : goal.returns-clause-runs
returns-clause-runs g c = λ h represents.
    let printed = rw (c.operate-reply.ensures.text, c.requires.empty, c.operate-reply.ensures.place, c.operate-reply.ensures.count) at c.reply.ensures.added.bytes in
    operation_runs (driven g.M.Bus.Bus.table g.M.Driver.BusDriver.lowering g.M.Simulation.kind) g.M.Simulation.related (operation c.args.op.now) c.args.events c.args.number h c.args.self.now.machine _ _ _ _ _ represents c.operate-reply.ensures.traced
    (c.interleaved.ensures _ _ _ _ _ c.requires.asked (omega (arith, c.operate-reply.ensures.few)) represents.related) printed
