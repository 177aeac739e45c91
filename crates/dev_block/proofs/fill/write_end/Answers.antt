use Rattle.std.proofs.Common.{arith, ◌∙◌, ◌∷◌, [], ◌-◌}
use Rattle.dev_block.proofs.FillLaws.{zeros_then}
use Rattle.dev_block.proofs.fill.write_end.Goals as goal

pub returns-clause-bytes : goal.returns-clause-bytes
returns-clause-bytes c =
    c.write_at.ensures.bytes
    ∙ rw c.write_zeros.ensures.bytes (zeros_then c.args.from (c.args.room - 1) c.args.mem.now.bytes c.args.chain.now.pieces.items (c.args.status ∷ []) c.requires.rules (omega arith))
