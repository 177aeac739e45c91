use Rattle.std.proofs.Common.{◌-◌}
use Rattle.vt_types.specs.Program.{Gives}
use Rattle.drv_core.specs.Driver.{DriverRecord, Ended}
use Rattle.drv_mmio.specs.Lowering.{readcfg_lowering}
use Rattle.drv_mmio.proofs.config.read.Given as goal

abbrev pub invariant-rounds : goal.invariant-rounds
invariant-rounds g l =
    (known : DriverRecord) (end : Ended) (p2 : _) → Gives g.P.Port.step g.P.Port.marking (readcfg_lowering known l.dev l.field (l.repeats - l._repeat)) l.port end p2
    → Gives g.P.Port.step g.P.Port.marking (readcfg_lowering known l.dev l.field l.repeats) l.fn.port end p2
