use Rattle.std.specs.Prelude.{◌≡◌, ℕ, ◌+◌, ◌-◌, ◌≤◌, List, [], ◌∷◌, Bool, true, false}
use Rattle.vt_types.specs.declared.access.Answer.{Answer}
use Rattle.vt_types.specs.declared.access.Answer.TheVariants as answer
use Rattle.vt_types.specs.Access.{AccessValue, access_cost}

-- what a driver does: an access, and then what its answer and the bytes that came with it decide; a mark on the last
-- access; or the end, with a result
pub data Program (X : Type 0) : Type 0 where
  Do : AccessValue → (Answer → List ℕ → Program X) → Program X
  Mark : Program X → Program X
  End : X → Program X

-- the bytes that came with an answer: after a get they are in the room
abbrev pub got : Answer → List ℕ → List ℕ
got (answer.Word x) room = []
got answer.Done room = []
got answer.Got room = room
got answer.Outside room = []
got (answer.Code c) room = []
got (answer.Turned t) room = []
got answer.NoSuch room = []

-- bytes came with an answer
abbrev pub is_got : Answer → Bool
is_got (answer.Word x) = false
is_got answer.Done = false
is_got answer.Got = true
is_got answer.Outside = false
is_got (answer.Code c) = false
is_got (answer.Turned t) = false
is_got answer.NoSuch = false

-- the program, run over a port's step and marking, leads from one state of the port to this result and another state
abbrev pub Gives : {P X : Type 0} → (P → AccessValue → Answer → List ℕ → List ℕ → P → Type 0) → (P → P → Type 0) → Program X → P → X → P → Type 0
Gives {P} {X} step marking (Do a rest) p x p2 =
    (answer : Answer) × (room : List ℕ) × (room2 : List ℕ) × (mid : P) × step p a answer room room2 mid × Gives step marking (rest answer (got answer room2)) mid x p2
Gives {P} {X} step marking (Mark rest) p x p2 = (mid : P) × marking p mid × Gives step marking rest mid x p2
Gives step marking (End y) p x p2 = (x ≡ y) × (p2 ≡ p)

-- one program, and then another by its result
abbrev pub and_then : {X Y : Type 0} → Program X → (X → Program Y) → Program Y
and_then (Do a rest) next = Do a (λ answer bytes. and_then (rest answer bytes) next)
and_then (Mark rest) next = Mark (and_then rest next)
and_then (End x) next = next x

-- accesses in order whose answers nobody looks at, and then a program
abbrev pub do_all : {X : Type 0} → List AccessValue → Program X → Program X
do_all [] next = next
do_all (a ∷ rest) next = Do a (λ _ _. do_all rest next)

-- the accesses, done in order over a port's step, lead from one state of the port to another
abbrev pub Does : {P : Type 0} → (P → AccessValue → Answer → List ℕ → List ℕ → P → Type 0) → (P → P → Type 0) → List AccessValue → P → P → Type 0
Does step marking accesses p p2 = Gives step marking (do_all {X = Unit {0}} accesses (End tt)) p tt p2

-- what accesses may cost together
abbrev pub cost_of_all : List AccessValue → ℕ
cost_of_all [] = 0
cost_of_all (a ∷ rest) = access_cost a + cost_of_all rest

-- the program, run over a table: a function from an access and a state to an answer, the bytes that come with it and a
-- state
abbrev pub run : {R X : Type 0} → (AccessValue → R → Answer × List ℕ × R) → (R → R) → Program X → R → X × R
run table mark (Do a rest) r = run table mark (rest (table a r).0 (table a r).1) (table a r).2
run table mark (Mark rest) r = run table mark rest (mark r)
run table mark (End x) r = (x, r)

-- whatever the answers are, what the accesses of a program count comes to at most so much
abbrev pub CountsAtMost : {X : Type 0} → (AccessValue → ℕ) → Program X → ℕ → Type 0
CountsAtMost counts (Do a rest) most =
    (counts a ≤ most) × ((answer : Answer) (bytes : List ℕ) → CountsAtMost counts (rest answer bytes) (most - counts a))
CountsAtMost counts (Mark rest) most = CountsAtMost counts rest most
CountsAtMost counts (End x) most = Unit {0}

-- what accesses count together
abbrev pub counts_of_all : (AccessValue → ℕ) → List AccessValue → ℕ
counts_of_all counts [] = 0
counts_of_all counts (a ∷ rest) = counts a + counts_of_all counts rest
