use Rattle.std.specs.Prelude.{ℕ, ◌*◌}
use Rattle.vt_types.specs.Limits.{MOST_PIECES}

-- how many pages of guest memory one call may make at most

-- writing at most a page of bytes, which touch at most two pages
abbrev pub PAGES_OF_PUT : ℕ
PAGES_OF_PUT = 2

-- writing over the pieces of a chain, none of which is longer than a page
abbrev pub PAGES_OF_SCATTER : ℕ
PAGES_OF_SCATTER = MOST_PIECES * PAGES_OF_PUT

-- giving a chain back: one write of what is used, and one of where the next stands
abbrev pub PAGES_OF_GIVE : ℕ
PAGES_OF_GIVE = 2 * PAGES_OF_PUT
