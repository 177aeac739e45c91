use Rattle.std.specs.Prelude.{◌≡◌, ℕ, ◌*◌, ◌/◌, ◌%◌, ◌<◌, ◌≤◌, ◌==◌, List, filter, Bool, true, false, length, slice_index}
use Rattle.std.specs.Int.{bit_at}
use Rattle.vq_posted.specs.Free.{numbers}

-- whether a number is in a set that is kept as words of 64 bits: bit n % 64 of word n / 64
unfoldable pub is_member : List ℕ → ℕ → Bool
is_member words n = bit_at (slice_index words (n / 64)) (n % 64) == 1

-- the members, rising
abbrev pub members : List ℕ → List ℕ
members words = filter (is_member words) (numbers 0 (64 * length words))

-- the lowest member that isn't below `from`
pub record IsNext (words : List ℕ) (from n : ℕ) : Type 0 where
  pub low : from ≤ n
  pub inside : n < 64 * length words
  pub member : is_member words n ≡ true
  pub none_before : (k : ℕ) → from ≤ k → k < n → is_member words k ≡ false
