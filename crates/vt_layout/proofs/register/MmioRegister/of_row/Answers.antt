use Rattle.std.proofs.Common.{arith, sym}
use Rattle.std.proofs.lemmas.Option.{slice_get_past}
use Rattle.vt_layout.specs.Mmio.{registers}
use Rattle.vt_layout.proofs.register.MmioRegister.of_row.Goals as goal

pub returns-in_default : goal.returns-in_default
returns-in_default c = sym (slice_get_past registers c.args.n (omega arith))
