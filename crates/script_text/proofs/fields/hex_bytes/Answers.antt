use Rattle.std.proofs.Common.{◌≡◌, ◌<◌, ◌≤◌, Some, length, sym, ap, ◌∙◌, arith}
use Rattle.std.specs.Prelude.{vec_len}
use Rattle.std.proofs.lemmas.Bool.{eqb-false}
use Rattle.script_text.specs.Fields.{bytes_in}
use Rattle.script_text.proofs.FieldLaws.{long_bytes, few_bytes}
use Rattle.script_text.proofs.fields.hex_bytes.Goals as goal

pub returns-then-word-most-clause-value : goal.returns-then-word-most-clause-value
returns-then-word-most-clause-value c = long_bytes c.args.most c.args.word.now c.if-word-most.true

fits : (c : goal.After-from_vec) → (bytes_in c.args.most c.args.word.now ≡ Some c.in-Ok.bytes.items) × ((1 ≤ length c.in-Ok.bytes.items) × (length c.in-Ok.bytes.items ≤ c.args.most))
fits c =
    let ne = eqb-false (vec_len c.in-Ok.bytes) 0 (sym c.is_empty.ensures ∙ c.if-is_empty.false) in
    let len = c.in-Ok.bytes.ok in
    let some : 0 < length c.in-Ok.bytes.items = omega (arith, ne, len) in
    few_bytes c.args.most c.args.word.now c.in-Ok.bytes.items (c.in-Ok.ensures).ok some c.if-word-most.false

pub returns-in-Ok-2-clause-value : goal.returns-in-Ok-2-clause-value
returns-in-Ok-2-clause-value c = (fits c).0 ∙ ap Some (sym c.from_vec.ensures)

pub returns-in-Ok-2-clause-few : goal.returns-in-Ok-2-clause-few
returns-in-Ok-2-clause-few c = rw c.from_vec.ensures (fits c).1
