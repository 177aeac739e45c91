-- The events of an operation as a list and a place in it.
use Rattle.std.proofs.Common.{◌≡◌, ℕ, ◌+◌, ◌≤◌, ◌<◌, List, length, drop, refl, arith, length-drop}
use Rattle.vt_types.specs.declared.operation.EventAt.{EventAt}
use Rattle.vt_types.proofs.EventLists.{drop-event_at}

-- where an event is left, it stands in the list
pub some_left : (events : List EventAt) (n : ℕ) → 1 ≤ length (drop n events) → n < length events
some_left events n h = omega (arith, length-drop n events)

-- what is left once the first of these has happened
pub next_left : (events : List EventAt) (n : ℕ) → n < length events → drop (n + 1) events ≡ drop 1 (drop n events)
next_left events n h = rw (drop-event_at events n h) refl
