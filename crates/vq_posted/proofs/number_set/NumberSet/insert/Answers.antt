use Rattle.std.proofs.Common.{length, ap, arith}
use Rattle.vq_posted.proofs.Words.{member_set}
use Rattle.vq_posted.proofs.number_set.NumberSet.insert.Goals as goal

pub returns-clause-members : goal.returns-clause-members
returns-clause-members c =
    rw (← c.self.view_is)
    (λ n. member_set c.self.inside.words.items c.from.result c.index_mut.result.now c.args.number n c.from.ensures (omega (arith, c.requires, c.from.ensures, ap length c.self.view_is)) c.index_mut.ensures.value)
