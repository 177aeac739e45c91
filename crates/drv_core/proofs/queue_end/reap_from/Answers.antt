use Rattle.std.proofs.Common.{Option, subst}
use Rattle.vq_common.specs.declared.driver_end.Reaped.{Reaped}
use Rattle.vq_common.specs.Queue.{reaped_value}
use Rattle.drv_core.specs.Calls.{GivesOnSet, reap_from}
use Rattle.drv_core.specs.Lowering.{reap_reply}
use Rattle.drv_core.proofs.QueueCalls.{reap_on_set}
use Rattle.drv_core.proofs.queue_end.reap_from.Goals as goal

pub returns-in-Some-clause-gives : goal.returns-in-Some-clause-gives
returns-in-Some-clause-gives g c =
    subst (λ (r : Option Reaped). GivesOnSet g.P.Port.step g.P.Port.marking reap_from c.args.end.now.queue c.args.port.now (reap_reply (reaped_value r c.reap.new.room.items)) c.reap.new.self.queue c.reap.new.port) c.in-Some.is
    (reap_on_set g.P.Port.step g.P.Port.marking c.args.end.now.queue c.reap.new.self.queue (reaped_value c.reap.result c.reap.new.room.items) c.args.port.now c.reap.new.port c.reap.ensures.gives)

pub returns-in-None-clause-gives : goal.returns-in-None-clause-gives
returns-in-None-clause-gives g c =
    subst (λ (r : Option Reaped). GivesOnSet g.P.Port.step g.P.Port.marking reap_from c.args.end.now.queue c.args.port.now (reap_reply (reaped_value r c.reap.new.room.items)) c.reap.new.self.queue c.reap.new.port) c.in-None.is
    (reap_on_set g.P.Port.step g.P.Port.marking c.args.end.now.queue c.reap.new.self.queue (reaped_value c.reap.result c.reap.new.room.items) c.args.port.now c.reap.new.port c.reap.ensures.gives)
