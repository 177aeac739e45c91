use Rattle.std.proofs.Common.{arith}
use Rattle.report_text.proofs.TextLaws.{added_then, numbers_more}
use Rattle.report_text.proofs.text.Text.number_words.Goals as goal

pub numbers-preserved : goal.numbers-preserved
numbers-preserved c = record {
  added =
      rw (numbers_more c.args.all.now c.numbers.n-index (omega arith))
      (added_then _ _ _ _ _ c.numbers.invariant.added c.number_word.ensures.added);
  spare = omega arith;
}
