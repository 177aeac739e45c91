-- An arena hands out pages of guest memory by number, from 1 on. Its page 0 holds zeros and is never written.
use Rattle.std.specs.Prelude.{ℕ, ◌-◌, List, [], ◌∷◌, ◌++◌, replicate, get_or, slice_set}
use Rattle.vt_types.specs.Limits.{GUEST_PAGE}
use Rattle.guest_mem.specs.Memory.{put_at}

-- A page of zeros. Proofs open this by name alone, since the list would fill each goal.
unfoldable pub zero_page : List ℕ
zero_page = replicate GUEST_PAGE 0

-- the pages by number, and how many more there is room for
pub record ArenaView : Type 0 where
  pub pages : List (List ℕ)
  pub spare : ℕ

-- the bytes of a page
abbrev pub page : List (List ℕ) → ℕ → List ℕ
page pages number = get_or pages number []

-- an arena with one page of zeros more, for which it has room
abbrev pub with_page : ArenaView → ArenaView
with_page arena = record { pages = arena.pages ++ zero_page ∷ []; spare = arena.spare - 1 }

-- pages with bytes put into one of them
abbrev pub pages_with : List (List ℕ) → ℕ → ℕ → List ℕ → List (List ℕ)
pages_with pages number from bytes = slice_set pages number (put_at (page pages number) from bytes)
