use Rattle.std.proofs.Common.{ℕ, ◌-◌, ◌<◌, List, take, drop, length, arith, sym, ap, ◌∙◌}
use Rattle.std.proofs.lemmas.Bool.{eqb-true, eqb-false}
use Rattle.std.proofs.lemmas.List.{take_rest, nil_from_length}
use Rattle.script_text.proofs.WordLaws.{at_word, no_word}
use Rattle.script_text.proofs.words.Words.split_first.Goals as goal

pub returns-then-is_empty : goal.returns-then-is_empty
returns-then-is_empty c =
    let text : List ℕ = c.self.inside.text.now in
    let e = take_rest text c.spaces_len.result in
    let none = nil_from_length _ (eqb-true _ 0 (sym c.is_empty.ensures ∙ c.if-is_empty.true)) in
    sym c.self.view_is ∙ no_word text (ap (λ k. drop k text) (sym c.spaces_len.ensures.value) ∙ sym e ∙ none)

pub returns : goal.returns
returns c =
    let text : List ℕ = c.self.inside.text.now in
    let begun : List ℕ = take (length text - c.spaces_len.result) (drop c.spaces_len.result text) in
    let e = take_rest text c.spaces_len.result ∙ ap (λ k. drop k text) c.spaces_len.ensures.value in
    let ne = eqb-false (length begun) 0 (sym c.is_empty.ensures ∙ c.if-is_empty.false) in
    let some : 0 < length begun = omega (arith, ne) in
    sym c.self.view_is ∙ at_word text begun c.split_at.result.0.now c.split_at.result.1.now e some
    (c.split_at.ensures.front ∙ ap (λ k. take k begun) c.word_len.ensures.value)
    (c.split_at.ensures.back ∙ ap (λ k. drop k begun) c.word_len.ensures.value)
