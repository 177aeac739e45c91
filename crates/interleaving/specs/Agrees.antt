use Rattle.std.specs.Prelude.{◌≡◌}
use Rattle.abstract_devices.specs.Operate.{Outcome}
use Rattle.vt_machine.specs.Trace.{Trace}
use Rattle.drv_core.specs.Driver.{Ended}
use Rattle.interleaving.specs.Safe.{Relation}

-- an operation of the abstract devices with its events, and its trace: the same reply, and the relation after it
pub record Agrees {R : Type 0} (rel : Relation R) (o : Outcome) (t : Trace R Ended) : Type 0 where
  pub reply : o.reply ≡ t.result.reply
  pub related : rel o.world t.raw t.result.known

-- two traces of an operation without events: the same reply, and the relation after both
pub record AgreeBoth {R : Type 0} (rel : Relation R) (o : Outcome) (t t2 : Trace R Ended) : Type 0 where
  pub first : Agrees rel o t
  pub second : Agrees rel o t2
  pub same : t.result.reply ≡ t2.result.reply
