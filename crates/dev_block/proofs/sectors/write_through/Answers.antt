use Rattle.std.proofs.Common.{drop}
use Rattle.std.proofs.lemmas.Result.{err_from_is_err_and}
use Rattle.vq_common.specs.Piece.{readable}
use Rattle.dev_block.specs.Sectors.{write_sectors}
use Rattle.dev_block.proofs.SectorsLaws.{flush_after, flush_never}
use Rattle.dev_block.proofs.sectors.write_through.Goals as goal

pub returns-in_err-write_sectors : goal.returns-in_err-write_sectors
returns-in_err-write_sectors g c =
    let p = err_from_is_err_and c.from_residual.result c.from_residual.ensures.1 in
    rw p.1
    (flush_never (write_sectors c.args.count c.args.sector (drop 16 (readable c.args.mem.now.bytes c.args.chain.now.pieces.items))) c.args.mode _ _ c.in_err-write_sectors.ensures)

pub returns : goal.returns
returns g c =
    flush_after (write_sectors c.args.count c.args.sector (drop 16 (readable c.args.mem.now.bytes c.args.chain.now.pieces.items))) c.args.mode _ _ _ _ c.in_ok-write_sectors.ensures c.flush_by.ensures
