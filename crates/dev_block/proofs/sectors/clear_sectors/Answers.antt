use Rattle.std.proofs.lemmas.Result.{err_from_is_err_and}
use Rattle.dev_block.proofs.SectorsLaws.{clear_none, clear_more, clear_stops}
use Rattle.dev_block.proofs.sectors.clear_sectors.Goals as goal

pub sectors-init : goal.sectors-init
sectors-init g c = clear_none c.args.sector _

pub sectors-preserved : goal.sectors-preserved
sectors-preserved g c =
    let w = c.in_ok-write_sector.ensures in
    clear_more c.args.sector c.sectors.i _ _ _ _ _ c.zero_sector-zeros.ensures c.sectors.invariant w.meets w.called

pub returns-in_err-write_sector : goal.returns-in_err-write_sector
returns-in_err-write_sector g c =
    let w = c.in_err-write_sector.ensures in
    let p = err_from_is_err_and c.from_residual.result c.from_residual.ensures.1 in
    rw p.1
    (clear_stops c.args.sector c.sectors.i c.args.count _ _ _ _ _ c.zero_sector-zeros.ensures c.sectors-test.true c.sectors.invariant w.meets w.called w.cause)
