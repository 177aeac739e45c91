-- Positions of a packed ring.
use Rattle.std.proofs.Common.{◌≡◌, ℕ, zero, suc, ◌+◌, ◌-◌, ◌^◌, ◌<◌, ◌≤◌, Bool, true, false, not, inl, inr, refl, sym, ◌∙◌, ap, arith}
use Rattle.std.specs.Prelude.{◌%◌, ◌==◌, ◌&&◌, ◌||◌, nat_le, nat_lt, if◌then◌else◌}
use Rattle.std.proofs.lemmas.Bool.{cases_lt}
use Rattle.std.proofs.lemmas.Bool.Decides.{nat_tests}
use Rattle.std.specs.Bool.{beq}
use Rattle.vq_common.specs.declared.position.Position.{Position}
use Rattle.vq_common.specs.Position.{location_before, wrap_before, position_before, event_position, event_word, location_after, wrap_after, position_after, is_same_position, is_among}

-- a location so many slots on is one of the ring's
pub location_after-inside : (size location slots : ℕ) → location < size → slots ≤ size → location_after size location slots < size
location_after-inside size location slots inside few = grind (arith, nat_tests)

-- whether a location is one of so many in a row, by the wrap counters
abbrev pub is_in_row : ℕ → ℕ → ℕ → ℕ → Bool → Bool
is_in_row size slots first location same = if same then nat_le first location && nat_lt location size && nat_lt location (first + slots) else nat_lt (location + size) (first + slots)

in_no_row : (size first location : ℕ) (same : Bool) → first < size → is_in_row size 0 first location same ≡ false
in_no_row size first location true inside = grind (arith, nat_tests)
in_no_row size first location false inside = grind (arith, nat_tests)

in_row_first : (size slots first location : ℕ) (same : Bool) → first + 1 < size → slots ≤ size
    → ((location == first) && same || is_in_row size slots (first + 1) location same) ≡ is_in_row size (suc slots) first location same
in_row_first size slots first location true inside few = grind (arith, nat_tests)
in_row_first size slots first location false inside few = grind (arith, nat_tests)

in_row_turned : (size slots first location : ℕ) (same : Bool) → first + 1 ≡ size → slots < size
    → ((location == first) && same || is_in_row size slots 0 location (not same)) ≡ is_in_row size (suc slots) first location same
in_row_turned size slots first location true inside few = grind (arith, nat_tests)
in_row_turned size slots first location false inside few = grind (arith, nat_tests)

-- turned once, a wrap counter that was the same is another one
beq-not : (v w : Bool) → beq v (not w) ≡ not (beq v w)
beq-not true true = refl
beq-not true false = refl
beq-not false true = refl
beq-not false false = refl

next_inside : (size location : ℕ) (wrap : Bool) → location + 1 < size → (location_after size location 1 ≡ location + 1) × (wrap_after size location wrap 1 ≡ wrap)
next_inside size location wrap inside =
    let t : nat_lt (location + 1) size ≡ true = grind (arith, nat_tests) in
    (rw t refl, rw t refl)

next_turned : (size location : ℕ) (wrap : Bool) → location + 1 ≡ size → (location_after size location 1 ≡ 0) × (wrap_after size location wrap 1 ≡ not wrap)
next_turned size location wrap last =
    let t : nat_lt (location + 1) size ≡ false = grind (arith, nat_tests) in
    let none : location + 1 - size ≡ 0 = omega arith in
    (rw t none, rw t refl)

-- whether a position is one of so many in a row, by its location
pub is_among_by_location : (size slots : ℕ) (first p : Position) → first.location < size → slots ≤ size
    → is_among size slots first p ≡ is_in_row size slots first.location p.location (beq p.wrap first.wrap)
is_among_by_location size zero first p inside few = sym (in_no_row size first.location p.location (beq p.wrap first.wrap) inside)
is_among_by_location size (suc slots) first p inside few =
    let next : Position = position_after size first 1 in
    let same : Bool = beq p.wrap first.wrap in
    let rest : is_among size slots next p ≡ is_in_row size slots next.location p.location (beq p.wrap next.wrap)
    = is_among_by_location size slots next p (location_after-inside size first.location 1 inside (omega arith)) (omega arith) in
    ap (λ b. is_same_position p first || b) rest
    ∙ elim (cases_lt (first.location + 1) size) [
      | inl more ↦
          let (location, wrap) = next_inside size first.location first.wrap more in
          rw (location, wrap) (in_row_first size slots first.location p.location same more (omega arith))
      | inr last ↦
          let (location, wrap) = next_turned size first.location first.wrap (omega arith) in
          rw (location, wrap, beq-not p.wrap first.wrap) (in_row_turned size slots first.location p.location same (omega arith) (omega arith))
    ]

-- a position by its location and its wrap counter
same_position : (p q : Position) → p.location ≡ q.location → p.wrap ≡ q.wrap → p ≡ q
same_position p q location wrap =
    let at : ℕ → Position = λ n. record { location = n; wrap = p.wrap } in
    let turned : Bool → Position = λ w. record { location = q.location; wrap = w } in
    ap at location ∙ ap turned wrap

-- no slot further is the same position
location_after-zero : (size location : ℕ) → location < size → location_after size location 0 ≡ location
location_after-zero size location inside = grind (arith, nat_tests)

wrap_after-zero : (size location : ℕ) (wrap : Bool) → location < size → wrap_after size location wrap 0 ≡ wrap
wrap_after-zero size location wrap inside =
    let t : nat_lt (location + 0) size ≡ true = grind (arith, nat_tests) in
    rw t refl

pub position_after-zero : (size : ℕ) (p : Position) → p.location < size → position_after size p 0 ≡ p
position_after-zero size p inside = same_position (position_after size p 0) p (location_after-zero size p.location inside) (wrap_after-zero size p.location p.wrap inside)

-- some slots further, and then more, are as many together
location_after-add : (size location i j : ℕ) → location < size → i + j ≤ size → location_after size (location_after size location i) j ≡ location_after size location (i + j)
location_after-add size location i j inside few = grind (arith, nat_tests)

wrap_after-add : (size location : ℕ) (wrap : Bool) (i j : ℕ) → location < size → i + j ≤ size → wrap_after size (location_after size location i) (wrap_after size location wrap i) j ≡ wrap_after size location wrap (i + j)
wrap_after-add size location true i j inside few = grind (arith, nat_tests)
wrap_after-add size location false i j inside few = grind (arith, nat_tests)

pub position_after-add : (size : ℕ) (p : Position) (i j : ℕ) → p.location < size → i + j ≤ size → position_after size (position_after size p i) j ≡ position_after size p (i + j)
position_after-add size p i j inside few =
    same_position (position_after size (position_after size p i) j) (position_after size p (i + j))
    (location_after-add size p.location i j inside few) (wrap_after-add size p.location p.wrap i j inside few)

-- so many slots further and back is the same position
location_before-after : (size location slots : ℕ) → location < size → location_before size (location_after size location slots) slots ≡ location
location_before-after size location slots inside = grind (arith, nat_tests)

wrap_before-after : (size location : ℕ) (wrap : Bool) (slots : ℕ) → location < size → wrap_before (location_after size location slots) (wrap_after size location wrap slots) slots ≡ wrap
wrap_before-after size location true slots inside = grind (arith, nat_tests)
wrap_before-after size location false slots inside = grind (arith, nat_tests)

pub position_before-after : (size : ℕ) (p : Position) (slots : ℕ) → p.location < size → position_before size (position_after size p slots) slots ≡ p
position_before-after size p slots inside =
    same_position (position_before size (position_after size p slots) slots) p (location_before-after size p.location slots inside) (wrap_before-after size p.location p.wrap slots inside)

-- fewer slots than the ring has lead to different locations
pub location_after-differs : (size location i j : ℕ) → location < size → i < j → j < size → location_after size location i ≡ location_after size location j → ⊥
location_after-differs size location i j inside less few same = grind (arith, nat_tests)

-- the first of some positions is one of them
beq-same : (w : Bool) → beq w w ≡ true
beq-same true = refl
beq-same false = refl

pub is_among-first : (size slots : ℕ) (p : Position) → is_among size (suc slots) p p ≡ true
is_among-first size slots p =
    let same : (p.location == p.location) ≡ true = grind (arith, nat_tests) in
    rw (same, beq-same p.wrap) refl

-- the event word of a position names it
event_location : (location : ℕ) (wrap : Bool) → location < 2 ^ 15 → (location + (if wrap then 0x8000 else 0)) % 0x8000 ≡ location
event_location location true small = omega arith
event_location location false small = omega arith

event_wrap : (location : ℕ) (wrap : Bool) → location < 2 ^ 15 → nat_le 0x8000 (location + (if wrap then 0x8000 else 0)) ≡ wrap
event_wrap location true small = grind (arith, nat_tests)
event_wrap location false small = grind (arith, nat_tests)

pub event_position-event_word : (p : Position) → p.location < 2 ^ 15 → event_position (event_word p) ≡ p
event_position-event_word p small = same_position (event_position (event_word p)) p (event_location p.location p.wrap small) (event_wrap p.location p.wrap small)
