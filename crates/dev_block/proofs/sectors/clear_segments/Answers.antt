use Rattle.std.proofs.Common.{true, false, ◌∙◌}
use Rattle.std.proofs.lemmas.Result.{err_from_is_err_and}
use Rattle.dev_block.proofs.SectorsLaws.{more_at_index, stop_at_index, none_at_index}
use Rattle.dev_block.proofs.sectors.clear_segments.Goals as goal

pub returns-in_err-clear_sectors : goal.returns-in_err-clear_sectors
returns-in_err-clear_sectors g c =
    let p = err_from_is_err_and c.from_residual.result c.from_residual.ensures.1 in
    rw p.1 (c.segments.invariant.rest _ false (stop_at_index c.args.segments.now c.segments.segment-index _ _ _ c.segments-test.true c.in_err-clear_sectors.ensures))

pub segments-preserved : goal.segments-preserved
segments-preserved g c = record {
  rest = λ new ok more.
      c.segments.invariant.rest new ok (more_at_index c.args.segments.now c.segments.segment-index _ _ _ new ok c.segments-test.true c.in_ok-clear_sectors.ensures more);
  count = c.in_ok-clear_sectors.ensures.meets.goes.count ∙ c.segments.invariant.count;
}

pub returns : goal.returns
returns g c = c.segments.invariant.rest _ true (none_at_index c.args.segments.now c.segments.segment-index _ c.segments-test.false)
