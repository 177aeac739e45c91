use Rattle.std.proofs.Common.{◌≡◌, length}
use Rattle.vt_machine.proofs.HappenLaws.{Leads, left_of, none_of}
use Rattle.vt_machine.proofs.machine.Machine.finish.Given as goal

abbrev pub invariant-left : goal.invariant-left
invariant-left g l = record {
  place : l.self.place ≡ l.fn.self.place;
  count : l.self.count ≡ l.fn.self.count;
  leads : Leads g.B.Bus.table left_of none_of l.fn.self l.self;
}

abbrev pub decreases-left : goal.decreases-left
decreases-left g l = length l.self.left
