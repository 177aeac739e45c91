-- Ranges that lie apart.
use Rattle.std.proofs.Common.{ℕ, ◌+◌, ◌≤◌, inl, inr, arith}
use Rattle.guest_mem.specs.Memory.{Apart}

-- two ranges lie apart in either order
pub Apart-swapped : (a n b k : ℕ) → Apart a n b k → Apart b k a n
Apart-swapped a n b k (inl before) = inr before
Apart-swapped a n b k (inr behind) = inl behind

-- a range inside the first of two that lie apart lies apart from the second
pub Apart-inside : (a n b k c j : ℕ) → a ≤ c → c + j ≤ a + n → Apart a n b k → Apart c j b k
Apart-inside a n b k c j low high (inl before) = inl (omega arith)
Apart-inside a n b k c j low high (inr behind) = inr (omega arith)
