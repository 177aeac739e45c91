use Rattle.std.proofs.Common.{ℕ, ◌+◌, List, Some, sym, ap, ◌∙◌}
use Rattle.std.proofs.lemmas.List.{take_rest}
use Rattle.script_text.proofs.EventLaws.{no_colon, no_gap, some_gap}
use Rattle.script_text.proofs.event.gap.Goals as goal

pub returns-in_err-colon : goal.returns-in_err-colon
returns-in_err-colon c =
    let h = (c.in_ok-behind.ensures).cases in
    rw c.from_residual-in_err-colon.ensures (sym (no_colon c.args.word.now c.in_ok-behind.behind.now h.0 h.1 (sym c.find_byte.ensures.value ∙ c.in_err-colon.was)))

pub returns-in_err-gap : goal.returns-in_err-gap
returns-in_err-gap c =
    let h = (c.in_ok-behind.ensures).cases in
    rw c.from_residual-in_err-gap.ensures (sym (no_gap c.args.word.now c.in_ok-behind.behind.now c.in_ok-colon.colon h.0 h.1 (sym c.find_byte.ensures.value ∙ c.in_ok-colon.was) (sym c.decimal.ensures.value ∙ c.in_err-gap.was)))

pub returns : goal.returns
returns c =
    let h = (c.in_ok-behind.ensures).cases in
    let behind : List ℕ = c.in_ok-behind.behind.now in
    let location : ℕ = c.in_ok-colon.colon in
    let is = some_gap c.args.word.now behind location c.in_ok-gap.gap h.0 h.1 (sym c.find_byte.ensures.value ∙ c.in_ok-colon.was) (sym c.decimal.ensures.value ∙ c.in_ok-gap.was) in
    sym (is ∙ ap (λ (name : List ℕ). Some (c.in_ok-gap.gap, name)) (sym (take_rest behind (location + 1))))
