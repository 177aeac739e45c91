use Rattle.std.proofs.Common.{ℕ, ◌+◌, ◌-◌, ◌≤◌, List, [], ◌∷◌, Bool, true, false, if◌then◌else◌, arith}
use Rattle.vt_types.specs.Access.{AccessValue}
use Rattle.vt_types.specs.Program.{Program, Do, Mark, End, and_then, do_all, CountsAtMost, counts_of_all}

module _ (counts : AccessValue → ℕ) where
  -- a bound may be greater
  pub counts_more : {X : Type 0} (prog : Program X) (most more : ℕ) → CountsAtMost counts prog most → most ≤ more → CountsAtMost counts prog more
  counts_more (Do a rest) most more (first, others) h =
      (omega arith, λ answer bytes. counts_more (rest answer bytes) (most - counts a) (more - counts a) (others answer bytes) (omega arith))
  counts_more (Mark rest) most more bound h = counts_more rest most more bound h
  counts_more (End x) most more bound h = tt

  -- one program, and then another, count what both do
  pub counts_and_then : {X Y : Type 0} (prog : Program X) (next : X → Program Y) (most more : ℕ)
      → CountsAtMost counts prog most → ((x : X) → CountsAtMost counts (next x) more) → CountsAtMost counts (and_then prog next) (most + more)
  counts_and_then (Do a rest) next most more (first, others) after = (
    omega arith,
    λ answer bytes. counts_more (and_then (rest answer bytes) next) (most - counts a + more) (most + more - counts a)
        (counts_and_then (rest answer bytes) next (most - counts a) more (others answer bytes) after)
        (omega arith),
  )
  counts_and_then (Mark rest) next most more bound after = counts_and_then rest next most more bound after
  counts_and_then (End x) next most more bound after = counts_more (next x) more (most + more) (after x) (omega arith)

  -- accesses in order, and then a program
  pub counts_do_all : {X : Type 0} (accesses : List AccessValue) (next : Program X) (most : ℕ)
      → CountsAtMost counts next most → CountsAtMost counts (do_all accesses next) (counts_of_all counts accesses + most)
  counts_do_all [] next most bound = counts_more next most (0 + most) bound (omega arith)
  counts_do_all (a ∷ rest) next most bound = (
    omega arith,
    λ _ _. counts_more (do_all rest next) (counts_of_all counts rest + most) (counts a + counts_of_all counts rest + most - counts a) (counts_do_all rest next most bound) (omega arith),
  )

  -- one of two programs
  pub counts_either : {X : Type 0} (b : Bool) (first second : Program X) (most : ℕ)
      → CountsAtMost counts first most → CountsAtMost counts second most → CountsAtMost counts (if b then first else second) most
  counts_either true first second most h k = h
  counts_either false first second most h k = k
