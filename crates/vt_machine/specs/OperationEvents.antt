use Rattle.std.specs.Prelude.{ℕ, nat_le, List, [], ◌∷◌, Bool, false}
use Rattle.vt_types.specs.declared.operation.EventAt.{EventAt}

-- the events of an operation: those that did not happen yet, and how many happened
pub record OperationEventsView : Type 0 where
  pub left : List EventAt
  pub happened : ℕ

-- the first of events happens before the access that comes after `count` others
abbrev pub is_due : ℕ → List EventAt → Bool
is_due count [] = false
is_due count (e ∷ es) = nat_le e.gap count
