use Rattle.std.proofs.Common.{◌≡◌, ℕ, suc, ◌+◌, ◌-◌, ◌≤◌, ◌<◌, List, [], ◌∷◌, ◌++◌, Some, length, drop, refl, arith, add-one, length-append}
use Rattle.std.proofs.Math.Seq.{drop-cons}
use Rattle.std.specs.List.{slice_get}
use Rattle.vt_types.specs.declared.operation.EventAt.{EventAt}
use Rattle.vt_types.specs.Events.{RisesFrom, AreEvents, last_gap, last_gap_from, event_at, past_the_end}

-- one more event whose gap isn't below the last one
pub RisesFrom-push : (low : ℕ) (events : List EventAt) (more : EventAt) → RisesFrom low events → last_gap_from low events ≤ more.gap → RisesFrom low (events ++ more ∷ [])
RisesFrom-push low [] more h le = (le, tt)
RisesFrom-push low (x ∷ rest) more h le = (h.0, RisesFrom-push x.gap rest more h.1 le)

-- a list of fewer than 128 events, and one more event whose gap isn't below the last one
pub AreEvents-push : (events : List EventAt) (more : EventAt) → AreEvents events → length events < 128 → last_gap events ≤ more.gap → AreEvents (events ++ more ∷ [])
AreEvents-push events more h few le = record { few = rw length-append (omega arith); rise = RisesFrom-push 0 events more h.rise le }

-- the last gap after one more event
pub last_gap_from-push : (low : ℕ) (events : List EventAt) (more : EventAt) → last_gap_from low (events ++ more ∷ []) ≡ more.gap
last_gap_from-push low [] more = refl
last_gap_from-push low (x ∷ rest) more = last_gap_from-push x.gap rest more

-- the last gap is that of the last event
pub last_gap_from-last : (low : ℕ) (events : List EventAt) (x : EventAt) → Some x ≡ slice_get events (length events - 1) → x.gap ≡ last_gap_from low events
last_gap_from-last low [] x h = cc
last_gap_from-last low (y ∷ []) x h = let e : x ≡ y = cc in rw e
last_gap_from-last low (y ∷ z ∷ rest) x h =
    let e : length (y ∷ z ∷ rest) - 1 ≡ suc (length (z ∷ rest) - 1) = omega arith in last_gap_from-last y.gap (z ∷ rest) x (rw e at h)

-- the events from the n-th on are the n-th and those after it
pub drop-event_at : (events : List EventAt) (n : ℕ) → n < length events → drop n events ≡ event_at events n ∷ drop (n + 1) events
drop-event_at events n h = rw add-one (drop-cons events n past_the_end h)
