use Rattle.std.proofs.Common.{◌*◌, ◌+◌, ◌≤◌, take}
use Rattle.report_text.specs.Text.{Added}
use Rattle.report_text.specs.Words.{numbers}
use Rattle.report_text.proofs.text.Text.number_words.Given as goal

abbrev pub invariant-numbers : goal.invariant-numbers
invariant-numbers l = record {
  added : Added l.fn.self l.self (numbers (take l.n-index l.all));
  spare : l.fn.self.spare ≤ l.self.spare + 24 * l.n-index;
}
