-- What puts cost.
use Rattle.std.proofs.Common.{ℕ, zero, suc, ◌≡◌, ◌+◌, ◌≤◌, List, [], ◌∷◌, Bool, true, false, cond, eqb, length, arith}
use Rattle.std.proofs.lemmas.Bool.{ne_eqb}
use Rattle.vt_types.specs.Access.{AccessValue, Put, pages_touched}
use Rattle.vt_types.specs.Program.{cost_of_all}
use Rattle.port_access.specs.Accesses.{data_puts}

-- bytes touch few pages
pub pages-le : (addr count : ℕ) → count ≤ 8192 → pages_touched addr count ≤ 3
pages-le addr zero few = omega arith
pages-le addr (suc n) few = let some : eqb (suc n) 0 ≡ false = ne_eqb (suc n) 0 (λ e. absurd (omega arith)) in rw some (omega arith)

pub pages-le-two : (addr count : ℕ) → count ≤ 4096 → pages_touched addr count ≤ 2
pages-le-two addr zero few = omega arith
pages-le-two addr (suc n) few = let some : eqb (suc n) 0 ≡ false = ne_eqb (suc n) 0 (λ e. absurd (omega arith)) in rw some (omega arith)

-- the put of a buffer's data
pub cost_of_data : (location : ℕ) (bytes : List ℕ) → length bytes ≤ 8192 → cost_of_all (data_puts location bytes) ≤ 3
cost_of_data location [] few = omega arith
cost_of_data location (byte ∷ bytes) few = omega (arith, pages-le location (length (byte ∷ bytes)) few)

-- two short puts
pub cost_of_two : (a b : ℕ) (xs ys : List ℕ) → length xs ≤ 4096 → length ys ≤ 4096 → cost_of_all (Put a xs ∷ Put b ys ∷ []) ≤ 4
cost_of_two a b xs ys few few2 = omega (arith, pages-le-two a (length xs) few, pages-le-two b (length ys) few2)

-- accesses of either kind
pub cost_of_either : (c : Bool) (xs ys : List AccessValue) (n : ℕ) → cost_of_all xs ≤ n → cost_of_all ys ≤ n → cost_of_all (cond c xs ys) ≤ n
cost_of_either true xs ys n h k = h
cost_of_either false xs ys n h k = k
