use Rattle.std.proofs.Common.{arith, drop}
use Rattle.vq_common.specs.Piece.{readable}
use Rattle.std.proofs.lemmas.Result.{err_from_is_err_and}
use Rattle.dev_block.proofs.RequestLaws.{readable_size}
use Rattle.dev_block.proofs.SectorsLaws.{write_none, write_more, write_stops}
use Rattle.dev_block.proofs.sectors.write_sectors.Goals as goal

pub sectors-init : goal.sectors-init
sectors-init g c = write_none c.args.sector (drop 16 (readable c.args.mem.now.bytes c.args.chain.now.pieces.items)) _

pub read_at-requires-clause-inside : goal.read_at-requires-clause-inside
read_at-requires-clause-inside g c = omega (arith, c.sectors-test.array_long, readable_size c.args.mem.now.bytes c.args.chain.now.pieces.items c.requires.rules, c.sectors-test.true, c.requires.long)

pub sectors-preserved : goal.sectors-preserved
sectors-preserved g c =
    let w = c.in_ok-write_sector.ensures in
    write_more c.args.sector c.sectors.i _ _ _ _ _ _ _ c.sectors-test.array_long c.read_at.ensures c.sectors.invariant w.meets w.called

pub returns-in_err-write_sector : goal.returns-in_err-write_sector
returns-in_err-write_sector g c =
    let w = c.in_err-write_sector.ensures in
    let p = err_from_is_err_and c.from_residual.result c.from_residual.ensures.1 in
    rw p.1
    (write_stops c.args.sector c.sectors.i c.args.count _ _ _ _ _ _ _ c.sectors-test.array_long c.read_at.ensures c.sectors-test.true c.sectors.invariant w.meets w.called w.cause)
