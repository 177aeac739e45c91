use Rattle.vt_machine.proofs.TraceLaws.{operation_traced}
use Rattle.vt_machine.proofs.laws.operation_traced.Goals as goal

pub returns : goal.returns
returns g c = operation_traced g.B.Bus.table
