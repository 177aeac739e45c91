use Rattle.std.proofs.Common.{sym, ◌∙◌, arith, rules}
use Rattle.vq_packed_dev.proofs.ChainLaws.{chain_of_table}
use Rattle.vq_packed_dev.proofs.walk.add_pieces.Goals as goal

pub returns-then-is_indirect : goal.returns-then-is_indirect
returns-then-is_indirect c =
    c.add_pieces_of_table.ensures
    ∙ sym (chain_of_table c.args.mem.now.bytes c.args.cfg.now c.args.position.location c.args.first (omega arith) c.requires.first (search rules))
