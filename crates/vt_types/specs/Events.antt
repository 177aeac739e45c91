use Rattle.std.specs.Prelude.{ℕ, ◌≤◌, List, [], ◌∷◌, length, false, slice_index_or}
use Rattle.vt_types.specs.declared.operation.EventAt.{EventAt}
use Rattle.vt_types.specs.declared.operation.Event.TheVariants as event

-- no gap is below the one before it, nor the first below `low`
abbrev pub RisesFrom : ℕ → List EventAt → Type 0
RisesFrom low [] = Unit {0}
RisesFrom low (x ∷ rest) = (low ≤ x.gap) × RisesFrom x.gap rest

-- the gap of the last event, or `low` where there is none
abbrev pub last_gap_from : ℕ → List EventAt → ℕ
last_gap_from low [] = low
last_gap_from low (x ∷ rest) = last_gap_from x.gap rest

-- the gap of the last event, or 0 where there is none
abbrev pub last_gap : List EventAt → ℕ
last_gap events = last_gap_from 0 events

-- the most events of one operation (our own)
abbrev pub MOST_EVENTS : ℕ
MOST_EVENTS = 128

-- a list of events: not too many, and the gaps never fall
pub record AreEvents (events : List EventAt) : Type 0 where
  pub few : length events ≤ MOST_EVENTS
  pub rise : RisesFrom 0 events

-- what stands past the end of every list of events
abbrev pub past_the_end : EventAt
past_the_end = record { gap = 0; event = event.Link false }

-- the n-th event, counted from 0
abbrev pub event_at : List EventAt → ℕ → EventAt
event_at events n = slice_index_or events n past_the_end
