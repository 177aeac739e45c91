use Rattle.std.proofs.Common.{sym, ◌∙◌}
use Rattle.vt_layout.proofs.LookupLaws.{covered, uncovered}
use Rattle.vt_layout.proofs.lookup.covering.Goals as goal

pub returns-then-covers : goal.returns-then-covers
returns-then-covers g c =
    sym (covered g.L.RegisterLayout.rows c.rows.n c.args.off c.row-row.result c.row-row.ensures (sym c.covers.ensures ∙ c.if-covers.true)) ∙ c.rows.invariant

pub rows-preserved : goal.rows-preserved
rows-preserved g c =
    sym (uncovered g.L.RegisterLayout.rows c.rows.n c.args.off c.row-row.result c.row-row.ensures (sym c.covers.ensures ∙ c.if-covers.false)) ∙ c.rows.invariant
