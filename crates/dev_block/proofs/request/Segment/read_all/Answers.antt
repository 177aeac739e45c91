use Rattle.std.proofs.Common.{rules, ap, ◌∙◌, ◌++◌, ◌∷◌, []}
use Rattle.dev_block.proofs.RequestLaws.{segments_step}
use Rattle.dev_block.proofs.request.Segment.read_all.Goals as goal

pub segments-preserved : goal.segments-preserved
segments-preserved c = record {
  few = search rules;
  rest = segments_step c.segments.segments.items _ c.args.count c.segments.i _ c.segments-test.true (c.push.ensures.items ∙ ap (λ s. c.segments.segments.items ++ s ∷ []) c.read.ensures) ∙ c.segments.invariant.rest;
}
