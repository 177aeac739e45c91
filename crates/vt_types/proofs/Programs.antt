use Rattle.std.proofs.Common.{◌≡◌, ℕ, ◌+◌, List, [], ◌∷◌, ◌++◌, refl, sym, ◌∙◌, ap, subst, arith}
use Rattle.vt_types.specs.declared.access.Answer.{Answer}
use Rattle.vt_types.specs.Access.{AccessValue}
use Rattle.vt_types.specs.Program.{Program, Do, Mark, End, got, Gives, and_then, do_all, Does, cost_of_all, run}
use Rattle.vt_types.specs.Tables.{IsTable, after_all}

module _ {P : Type 0} (step : P → AccessValue → Answer → List ℕ → List ℕ → P → Type 0) (marking : P → P → Type 0) where
  -- a program gives x, and then another, by x, gives y
  pub gives_then : {X Y : Type 0} (prog : Program X) (next : X → Program Y) (p mid p2 : P) (x : X) (y : Y)
      → Gives step marking prog p x mid → Gives step marking (next x) mid y p2 → Gives step marking (and_then prog next) p y p2
  gives_then (Do a rest) next p mid p2 x y (answer, room, room2, between, s, more) after =
      (answer, room, room2, between, s, gives_then (rest answer (got answer room2)) next between mid p2 x y more after)
  gives_then (Mark rest) next p mid p2 x y (between, m, more) after = (between, m, gives_then rest next between mid p2 x y more after)
  gives_then (End v) next p mid p2 x y (same, stays) after =
      subst (λ v. Gives step marking (next v) p y p2) same (subst (λ m. Gives step marking (next x) m y p2) stays after)

  -- accesses are done, and then a program gives y
  pub gives_do_all : {Y : Type 0} (accesses : List AccessValue) (next : Program Y) (p mid p2 : P) (y : Y)
      → Does step marking accesses p mid → Gives step marking next mid y p2 → Gives step marking (do_all accesses next) p y p2
  gives_do_all [] next p mid p2 y (same, stays) after = subst (λ m. Gives step marking next m y p2) stays after
  gives_do_all (a ∷ rest) next p mid p2 y (answer, room, room2, between, s, more) after =
      (answer, room, room2, between, s, gives_do_all rest next between mid p2 y more after)

  -- accesses are done, then one more, and then a program gives y
  pub gives_do_all_more : {Y : Type 0} (accesses : List AccessValue) (a : AccessValue) (next : Program Y) (p mid mid2 p2 : P) (answer : Answer) (room room2 : List ℕ) (y : Y)
      → Does step marking accesses p mid → step mid a answer room room2 mid2 → Gives step marking next mid2 y p2
      → Gives step marking (do_all (accesses ++ a ∷ []) next) p y p2
  gives_do_all_more [] a next p mid mid2 p2 answer room room2 y (same, stays) s after =
      (answer, room, room2, mid2, subst (λ m. step m a answer room room2 mid2) stays s, after)
  gives_do_all_more (b ∷ rest) a next p mid mid2 p2 answer room room2 y (answer1, room1, room3, between, s1, more) s after =
      (answer1, room1, room3, between, s1, gives_do_all_more rest a next between mid mid2 p2 answer room room2 y more s after)

  -- accesses are done, and then one more
  pub does_one_more : (accesses : List AccessValue) (a : AccessValue) (p mid mid2 : P) (answer : Answer) (room room2 : List ℕ)
      → Does step marking accesses p mid → step mid a answer room room2 mid2 → Does step marking (accesses ++ a ∷ []) p mid2
  does_one_more accesses a p mid mid2 answer room room2 done s =
      gives_do_all_more {Y = Unit {0}} accesses a (End tt) p mid mid2 mid2 answer room room2 tt done s (refl, refl)

-- accesses in order, and then more, are all of them in order
pub do_all-append : {X : Type 0} (first second : List AccessValue) (next : Program X) → do_all (first ++ second) next ≡ do_all first (do_all second next)
do_all-append [] second next = refl
do_all-append (a ∷ rest) second next = ap (λ r. Do a (λ _ _. r)) (do_all-append rest second next)

-- accesses in order, and then two programs
pub do_all-and_then : {X Y : Type 0} (accesses : List AccessValue) (prog : Program X) (next : X → Program Y) → and_then (do_all accesses prog) next ≡ do_all accesses (and_then prog next)
do_all-and_then [] prog next = refl
do_all-and_then (a ∷ rest) prog next = ap (λ r. Do a (λ _ _. r)) (do_all-and_then rest prog next)

module _ {P R : Type 0} (step : P → AccessValue → Answer → List ℕ → List ℕ → P → Type 0) (marking : P → P → Type 0) (seen : P → R) (table : AccessValue → R → Answer × List ℕ × R) (mark : R → R) (is : IsTable step marking seen table mark) where
  -- what a program gives over a port whose step is a table's is what it gives over the table
  pub gives_runs : {X : Type 0} (prog : Program X) (p p2 : P) (x : X) → Gives step marking prog p x p2 → run table mark prog (seen p) ≡ (x, seen p2)
  gives_runs (Do a rest) p p2 x (answer, room, room2, mid, s, more) =
      ap (λ (o : Answer × List ℕ × R). run table mark (rest o.0 o.1) o.2) (is.steps p mid a answer room room2 s) ∙ gives_runs (rest answer (got answer room2)) mid p2 x more
  gives_runs (Mark rest) p p2 x (mid, m, more) = ap (λ s. run table mark rest s) (sym (is.marks p mid m)) ∙ gives_runs rest mid p2 x more
  gives_runs (End v) p p2 x (same, stays) = rw (same, stays) refl

module _ {R : Type 0} (table : AccessValue → R → Answer × List ℕ × R) (mark : R → R) where
  -- a run of one program and then another is two runs
  pub run-and_then : {X Y : Type 0} (prog : Program X) (next : X → Program Y) (r : R)
      → run table mark (and_then prog next) r ≡ run table mark (next (run table mark prog r).0) (run table mark prog r).1
  run-and_then (Do a rest) next r = run-and_then (rest (table a r).0 (table a r).1) next (table a r).2
  run-and_then (Mark rest) next r = run-and_then rest next (mark r)
  run-and_then (End x) next r = refl

  -- a run of accesses and then a program is the program's run from the state that the accesses leave
  pub run-do_all : {X : Type 0} (accesses : List AccessValue) (next : Program X) (r : R) → run table mark (do_all accesses next) r ≡ run table mark next (after_all table accesses r)
  run-do_all [] next r = refl
  run-do_all (a ∷ rest) next r = run-do_all rest next (table a r).2

-- what accesses cost together adds up
pub cost_of_all-append : (first second : List AccessValue) → cost_of_all (first ++ second) ≡ cost_of_all first + cost_of_all second
cost_of_all-append [] second = omega arith
cost_of_all-append (a ∷ rest) second = omega (arith, cost_of_all-append rest second)
