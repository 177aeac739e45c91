use Rattle.std.proofs.Common.{sym, ◌∙◌}
use Rattle.vt_layout.proofs.LookupLaws.{found, passed}
use Rattle.vt_layout.proofs.lookup.find.Goals as goal

pub returns-then-is_at : goal.returns-then-is_at
returns-then-is_at g c =
    sym (found g.L.RegisterLayout.rows c.rows.n c.args.off c.args.width c.row-row.result c.row-row.ensures (sym c.is_at.ensures ∙ c.if-is_at.true)) ∙ c.rows.invariant

pub rows-preserved : goal.rows-preserved
rows-preserved g c =
    sym (passed g.L.RegisterLayout.rows c.rows.n c.args.off c.args.width c.row-row.result c.row-row.ensures (sym c.is_at.ensures ∙ c.if-is_at.false)) ∙ c.rows.invariant
