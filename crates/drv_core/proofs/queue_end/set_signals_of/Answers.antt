use Rattle.drv_core.proofs.QueueCalls.{signals_on_set}
use Rattle.drv_core.proofs.queue_end.set_signals_of.Goals as goal

pub returns-clause-gives : goal.returns-clause-gives
returns-clause-gives g c = λ bytes.
    signals_on_set g.P.Port.step g.P.Port.marking c.args.end.now.queue c.set_signals.new.self.queue c.args.on c.args.port.now c.set_signals.new.port c.set_signals.ensures.gives
