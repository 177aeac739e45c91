use Rattle.std.proofs.lemmas.Result.{err_from_is_err_and}
use Rattle.dev_block.specs.Sectors.{clear_segments}
use Rattle.dev_block.proofs.SectorsLaws.{flush_after, flush_never}
use Rattle.dev_block.proofs.sectors.clear_through.Goals as goal

pub returns-in_err-clear_segments : goal.returns-in_err-clear_segments
returns-in_err-clear_segments g c =
    let p = err_from_is_err_and c.from_residual.result c.from_residual.ensures.1 in
    rw p.1 (flush_never (clear_segments c.args.segments.now) c.args.mode _ _ c.in_err-clear_segments.ensures)

pub returns : goal.returns
returns g c = flush_after (clear_segments c.args.segments.now) c.args.mode _ _ _ _ c.in_ok-clear_segments.ensures c.flush_by.ensures
