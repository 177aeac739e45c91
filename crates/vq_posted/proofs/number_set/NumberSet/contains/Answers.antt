use Rattle.std.proofs.Common.{length, ap, arith}
use Rattle.vq_posted.proofs.Words.{member_by_bit}
use Rattle.vq_posted.proofs.number_set.NumberSet.contains.Goals as goal

pub returns : goal.returns
returns c =
    rw (← c.self.view_is)
    (member_by_bit c.self.inside.words.items c.from.result c.index-word.result.now c.args.number c.from.ensures (omega (arith, c.requires, c.from.ensures, ap length c.self.view_is)) c.index-word.ensures)
