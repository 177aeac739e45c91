use Rattle.std.proofs.Common.{◌≤◌, inl, inr, arith}
use Rattle.vt_outside.specs.Tripped.{TrippedView, FailCause}
use Rattle.vt_outside.proofs.FaultsLaws.{rose_first, rose_last}

-- a cause among the first calls is one among all
pub cause_first : (a b c : TrippedView) → b.disk.faults ≤ c.disk.faults → c.trip ≤ b.trip → FailCause a b → FailCause a c
cause_first a b c later falls cause = elim cause [ inl rose ↦ inl (rose_first _ _ _ later rose) | inr reached ↦ inr (reached.0, omega (arith, reached.1)) ]

-- and so is one among the last calls
pub cause_last : (a b c : TrippedView) → a.disk.faults ≤ b.disk.faults → b.trip ≤ a.trip → FailCause b c → FailCause a c
cause_last a b c later falls cause = elim cause [ inl rose ↦ inl (rose_last _ _ _ later rose) | inr reached ↦ inr (omega (arith, reached.0), reached.1) ]
