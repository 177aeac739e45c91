use Rattle.std.proofs.Common.{◌≡◌, map, drop}
use Rattle.script_text.specs.Reading.{one_of}
use Rattle.script_text.proofs.fields.one_of.Given as goal

abbrev pub invariant-names : goal.invariant-names
invariant-names g l = one_of (map (λ row. (row.0.now, row.1)) (drop l.name-index l.names)) l.word ≡ one_of (map (λ row. (row.0.now, row.1)) l.names) l.word
