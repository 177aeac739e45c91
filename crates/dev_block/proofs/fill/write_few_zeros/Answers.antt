use Rattle.std.proofs.Common.{ap, ◌∙◌}
use Rattle.vq_common.specs.Partial.{scatter_from}
use Rattle.dev_block.proofs.FillLaws.{zero_part}
use Rattle.dev_block.proofs.fill.write_few_zeros.Goals as goal

pub returns-clause-bytes : goal.returns-clause-bytes
returns-clause-bytes c =
    rw c.zero_sector-zeros.ensures at c.write_at.ensures.bytes
    ∙ ap (scatter_from c.args.from c.args.mem.now.bytes c.args.chain.now.pieces.items) (zero_part c.args.count c.requires.few)
