use Rattle.std.proofs.Common.{◌≡◌, drop}
use Rattle.script_text.proofs.NumberLaws.{number_after}
use Rattle.script_text.specs.Fields.{number_in}
use Rattle.script_text.proofs.fields.number.Given as goal

abbrev pub invariant-digits : goal.invariant-digits
invariant-digits l = number_after l.base l.least l.most l.n (drop l.byte-index l.word) ≡ number_in l.base l.digits l.least l.most l.word
