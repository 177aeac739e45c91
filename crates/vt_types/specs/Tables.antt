use Rattle.std.specs.Prelude.{◌≡◌, List, ℕ}
use Rattle.std.specs.List.{fold}
use Rattle.vt_types.specs.declared.access.Answer.{Answer}
use Rattle.vt_types.specs.Access.{AccessValue}
use Rattle.vt_types.specs.Program.{got}

-- a port's step is what a table says of the part of the port that is seen, and its marking what the function `mark` says
pub record IsTable {P R : Type 0} (step : P → AccessValue → Answer → List ℕ → List ℕ → P → Type 0) (marking : P → P → Type 0) (seen : P → R) (table : AccessValue → R → Answer × List ℕ × R) (mark : R → R) : Type 0 where
  pub steps : (p p2 : P) (a : AccessValue) (answer : Answer) (room room2 : List ℕ) → step p a answer room room2 p2 → table a (seen p) ≡ (answer, got answer room2, seen p2)
  pub marks : (p p2 : P) → marking p p2 → seen p2 ≡ mark (seen p)

-- the state that accesses in order leave, by a table
abbrev pub after_all : {R : Type 0} → (AccessValue → R → Answer × List ℕ × R) → List AccessValue → R → R
after_all table accesses r = fold (λ s a. (table a s).2) r accesses
