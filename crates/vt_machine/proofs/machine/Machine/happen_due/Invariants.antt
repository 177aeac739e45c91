use Rattle.std.proofs.Common.{length}
use Rattle.vt_machine.proofs.HappenLaws.{Leads, due_of, later_of}
use Rattle.vt_machine.proofs.machine.Machine.happen_due.Given as goal

abbrev pub invariant-due : goal.invariant-due
invariant-due g l = Leads g.B.Bus.table due_of later_of l.fn.self l.self

abbrev pub decreases-due : goal.decreases-due
decreases-due g l = length l.self.left
