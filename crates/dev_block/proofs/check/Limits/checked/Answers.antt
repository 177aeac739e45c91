use Rattle.std.proofs.Common.{arith, sym, ◌∙◌}
use Rattle.dev_block.proofs.RequestLaws.{readable_few, readable_size}
use Rattle.dev_block.proofs.check.Limits.checked.Goals as goal

pub readable_len-requires : goal.readable_len-requires
readable_len-requires c = omega (arith, readable_few c.args.mem.now.bytes c.args.chain.now.pieces.items c.requires.rules)

pub checked_request-requires-clause-size : goal.checked_request-requires-clause-size
checked_request-requires-clause-size c = c.readable_len.ensures ∙ sym (readable_size c.args.mem.now.bytes c.args.chain.now.pieces.items c.requires.rules)
