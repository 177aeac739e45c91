use Rattle.std.specs.Prelude.{ℕ, ◌+◌, ◌-◌, ◌==◌, ◌&&◌, nat_le, nat_lt, List, [], ◌∷◌, Bool, Option, Some, None, if◌then◌else◌}
use Rattle.vt_layout.specs.declared.layout.Row.{Row}

-- registers that rise from an offset on, do not overlap, and end inside a page of so many bytes
abbrev pub is_layout : ℕ → ℕ → List Row → Bool
is_layout from page [] = nat_le from page
is_layout from page (r ∷ rs) = nat_le from r.off && is_layout (r.off + r.width) page rs

-- the register has exactly this offset and width
abbrev pub is_at : ℕ → ℕ → Row → Bool
is_at off width r = r.off == off && r.width == width

-- the offset lies among the register's bytes
abbrev pub covers : ℕ → Row → Bool
covers off r = nat_le r.off off && nat_lt (off - r.off) r.width

-- the number of the register with exactly this offset and width, where the first one has the number n
abbrev pub find_from : ℕ → List Row → ℕ → ℕ → Option ℕ
find_from n [] off width = None
find_from n (r ∷ rs) off width = if is_at off width r then Some n else find_from (n + 1) rs off width

-- and of the one among whose bytes an offset lies
abbrev pub covering_from : ℕ → List Row → ℕ → Option ℕ
covering_from n [] off = None
covering_from n (r ∷ rs) off = if covers off r then Some n else covering_from (n + 1) rs off
