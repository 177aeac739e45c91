use Rattle.std.proofs.Common.{sym, subst}
use Rattle.vt_types.specs.declared.operation.Op.{Op}
use Rattle.vt_types.specs.Operation.{operation}
use Rattle.vt_types.specs.Program.{Gives}
use Rattle.vt_types.specs.Reply.{reply_value}
use Rattle.drv_mmio.specs.Lowering.{allowed_lowering}
use Rattle.drv_mmio.proofs.driver.allowed.Goals as goal

pub returns-in-SetQ : goal.returns-in-SetQ
returns-in-SetQ g c =
    record {
      gives = subst (λ (o : Op). Gives g.P.Port.step g.P.Port.marking (allowed_lowering c.args.driver.now (operation o) c.args.repeats) c.args.port.now (record { reply = reply_value c.set_queue.result c.set_queue.new.room.items; known = c.set_queue.new.driver }) c.set_queue.new.port) (sym c.in-SetQ.is)
          c.set_queue.ensures;
    }
