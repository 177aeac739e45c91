use Rattle.std.proofs.Common.{arith}
use Rattle.vq_posted.proofs.Words.{next_in_word, none_in_words}
use Rattle.vq_posted.proofs.number_set.NumberSet.first_from_word.Goals as goal

pub returns-then-word-ne0 : goal.returns-then-word-ne0
returns-then-word-ne0 c =
    rw (← c.self.view_is)
    (next_in_word c.self.inside.words.items c.args.index c.words.i c.index-word.result.now (omega arith) (omega arith) c.index-word.ensures (omega arith) (omega arith) c.words.invariant)

pub returns : goal.returns
returns c =
    rw (← c.self.view_is)
    (none_in_words c.self.inside.words.items c.args.index (λ k low high. c.words.invariant k low (omega arith)))
