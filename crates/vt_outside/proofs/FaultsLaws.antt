use Rattle.std.proofs.Common.{ℕ, ◌≤◌, inl, inr, arith}
use Rattle.vt_outside.specs.Faults.{Rose}

-- a count that rose still rose when it goes on
pub rose_first : (a b c : ℕ) → b ≤ c → Rose a b → Rose a c
rose_first a b c le rose = elim rose [ inl h ↦ inl (omega arith) | inr h ↦ inr (omega arith) ]

-- a count that rose later rose from any count before
pub rose_last : (a b c : ℕ) → a ≤ b → Rose b c → Rose a c
rose_last a b c le rose = elim rose [ inl h ↦ inl (omega arith) | inr h ↦ inr h ]
