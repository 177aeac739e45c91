use Rattle.std.proofs.Common.{sym, ◌∙◌, ap}
use Rattle.vt_types.specs.declared.operation.Op.{Op}
use Rattle.vt_types.specs.Operation.{operation}
use Rattle.state_table.specs.Refusal.{refusal_of}
use Rattle.drv_core.specs.Driver.{known_of}
use Rattle.drv_core.proofs.device.DeviceDriver.refusal.Goals as goal

pub returns-in-SetQ : goal.returns-in-SetQ
returns-in-SetQ c = c.set_queue_refusal.ensures c.in-SetQ.field-0 ∙ ap (λ (o : Op). refusal_of (known_of c.args.self.now) (operation o)) (sym c.in-SetQ.is)

pub returns-in-Post : goal.returns-in-Post
returns-in-Post c = c.post_refusal.ensures c.in-Post.field-0 ∙ ap (λ (o : Op). refusal_of (known_of c.args.self.now) (operation o)) (sym c.in-Post.is)

pub returns-in-Notify : goal.returns-in-Notify
returns-in-Notify c = c.notify_refusal.ensures c.in-Notify.field-0 ∙ ap (λ (o : Op). refusal_of (known_of c.args.self.now) (operation o)) (sym c.in-Notify.is)

pub returns-in-Reap : goal.returns-in-Reap
returns-in-Reap c = c.reap_refusal.ensures c.in-Reap.field-0 ∙ ap (λ (o : Op). refusal_of (known_of c.args.self.now) (operation o)) (sym c.in-Reap.is)

pub returns-in-Arm : goal.returns-in-Arm
returns-in-Arm c = c.signals_refusal.ensures.arm c.in-Arm.field-0 ∙ ap (λ (o : Op). refusal_of (known_of c.args.self.now) (operation o)) (sym c.in-Arm.is)

pub returns-in-Disarm : goal.returns-in-Disarm
returns-in-Disarm c = c.signals_refusal-in-Disarm.ensures.disarm c.in-Disarm.field-0 ∙ ap (λ (o : Op). refusal_of (known_of c.args.self.now) (operation o)) (sym c.in-Disarm.is)

pub returns-in-WriteCfg : goal.returns-in-WriteCfg
returns-in-WriteCfg c = c.write_refusal.ensures c.in-WriteCfg.field-0 ∙ ap (λ (o : Op). refusal_of (known_of c.args.self.now) (operation o)) (sym c.in-WriteCfg.is)
