use Rattle.std.proofs.Common.{ℕ, ◌+◌, List, drop, get_or, sym, ◌∙◌}
use Rattle.script_text.proofs.NumberLaws.{number_stuck, at_digit}
use Rattle.script_text.proofs.fields.number.Goals as goal

pub returns-in_err-n-clause-value : goal.returns-in_err-n-clause-value
returns-in_err-n-clause-value c =
    let a = c.args in
    let word : List ℕ = a.word.now in
    let i : ℕ = c.digits.byte-index in
    let stuck = number_stuck a.base a.least a.most c.digits.n (get_or word i 0) (drop (i + 1) word) c.requires.low c.ranges.most.fits (sym c.with_digit.ensures ∙ c.in_err-n.was) in
    rw c.from_residual.ensures (sym (sym c.digits.invariant ∙ at_digit a.base a.least a.most c.digits.n i word c.digits-test.true ∙ stuck))
