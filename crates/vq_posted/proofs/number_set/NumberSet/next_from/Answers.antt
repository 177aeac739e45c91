use Rattle.std.proofs.Common.{length, ap, refl, arith}
use Rattle.vq_posted.proofs.Words.{member_past, next_behind_mask, after_mask}
use Rattle.vq_posted.proofs.number_set.NumberSet.next_from.Goals as goal

pub returns-then-index-len-clause-next : goal.returns-then-index-len-clause-next
returns-then-index-len-clause-next c = rw (← c.self.view_is) (λ k low. member_past c.self.inside.words.items k (omega arith))

pub returns-then-word-ne0-clause-next : goal.returns-then-word-ne0-clause-next
returns-then-word-ne0-clause-next c =
    rw (← c.self.view_is)
    (next_behind_mask c.self.inside.words.items c.args.from _ c.index.result.now refl (omega arith) c.index.ensures (omega arith) (omega arith))

pub returns-clause-next : goal.returns-clause-next
returns-clause-next c =
    after_mask c.args.self.now c.args.from _ c.index.result.now c.first_from_word.result refl (omega (arith, ap length c.self.view_is)) (rw (← c.self.view_is) c.index.ensures) c.if-word-ne0.false c.first_from_word.ensures
