-- Events in two parts, and an operation that is placed among them.
use Rattle.std.proofs.Common.{◌≡◌, Bool, ℕ, ◌≤◌, List, [], ◌∷◌, ◌++◌, take, drop, length, true, false, refl, ap, arith}
use Rattle.std.specs.Prelude.{nat_le, if◌then◌else◌}
use Rattle.std.proofs.lemmas.Grind.{common_steps}
use Rattle.vt_types.specs.declared.device.BusKind.{BusKind}
use Rattle.vt_types.specs.declared.operation.EventAt.{EventAt}
use Rattle.vt_types.specs.Operation.{Operation}
use Rattle.abstract_devices.specs.World.{World}
use Rattle.abstract_devices.specs.Operate.{happen, happen_all, operate, with_later, placed_line}
use Rattle.vt_machine.specs.Trace.{due, later}

-- events, and then more
pub happen_all-append : (es fs : List EventAt) (w : World) → happen_all w (es ++ fs) ≡ happen_all (happen_all w es) fs
happen_all-append [] fs w = refl
happen_all-append (e ∷ es) fs w = happen_all-append es fs (happen w e.event)

due_cases : (b : Bool) (e : EventAt) (sooner others es : List EventAt) → sooner ++ others ≡ es
    → (if b then e ∷ sooner else []) ++ (if b then others else e ∷ es) ≡ e ∷ es
due_cases true e sooner others es all = ap (λ l. e ∷ l) all
due_cases false e sooner others es all = refl

-- those that are due and the later ones are all
pub due-append-later : (count : ℕ) (es : List EventAt) → due count es ++ later count es ≡ es
due-append-later count [] = refl
due-append-later count (e ∷ es) = due_cases (nat_le e.gap count) e (due count es) (later count es) es (due-append-later count es)

-- more events after a placed line
pub placed_line-append : (bus : BusKind) (w : World) (op : Operation) (earlier now : List EventAt) (place : ℕ) → place ≤ length earlier
    → placed_line bus w op (earlier ++ now) place ≡ with_later now (placed_line bus w op earlier place)
placed_line-append bus w op earlier now place le =
    let front : take place (earlier ++ now) ≡ take place earlier = grind (arith, common_steps) in
    let back : drop place (earlier ++ now) ≡ drop place earlier ++ now = grind (arith, common_steps) in
    rw (front, back, happen_all-append (drop place earlier) now) refl

-- an operation that comes last
pub placed_line-last : (bus : BusKind) (w : World) (op : Operation) (earlier : List EventAt) → placed_line bus w op earlier (length earlier) ≡ operate bus (happen_all w earlier) op
placed_line-last bus w op earlier =
    let front : take (length earlier) earlier ≡ earlier = grind (arith, common_steps) in
    let back : drop (length earlier) earlier ≡ [] = grind (arith, common_steps) in
    rw (front, back) refl
