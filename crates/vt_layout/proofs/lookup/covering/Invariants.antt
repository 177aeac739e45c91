use Rattle.std.proofs.Common.{◌≡◌, drop}
use Rattle.vt_layout.specs.Layout.{covering_from}
use Rattle.vt_layout.proofs.lookup.covering.Given as goal

abbrev pub invariant-rows : goal.invariant-rows
invariant-rows g l = covering_from l.n (drop l.n g.L.RegisterLayout.rows) l.off ≡ covering_from 0 g.L.RegisterLayout.rows l.off
