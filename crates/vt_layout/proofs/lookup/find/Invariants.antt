use Rattle.std.proofs.Common.{◌≡◌, drop}
use Rattle.vt_layout.specs.Layout.{find_from}
use Rattle.vt_layout.proofs.lookup.find.Given as goal

abbrev pub invariant-rows : goal.invariant-rows
invariant-rows g l = find_from l.n (drop l.n g.L.RegisterLayout.rows) l.off l.width ≡ find_from 0 g.L.RegisterLayout.rows l.off l.width
