-- How guest memory lies in an arena: for each of its pages, in order, the number that the arena knows it by.
use Rattle.std.specs.Prelude.{◌≡◌, ℕ, ◌+◌, ◌*◌, ◌/◌, ◌<◌, ◌≤◌, Bool, nat_lt, List, length, take, map, All, count_by, get_or}
use Rattle.std.specs.List.{flat_map}
use Rattle.vt_types.specs.Limits.{GUEST_PAGE, LONGEST_MEMORY}
use Rattle.guest_mem.specs.Memory.{IsByteList}
use Rattle.guest_mem.specs.Arena.{ArenaView, page, zero_page}
use Rattle.guest_mem.specs.Pages.{MemoryView}

-- the bytes of the pages with these numbers, one page after the other
abbrev pub joined : List (List ℕ) → List ℕ → List ℕ
joined pages numbers = flat_map (page pages) numbers

-- the pages that were made: each but those with number 0, which stands for zeros
abbrev pub made_by : List ℕ → List Bool
made_by numbers = map (nat_lt 0) numbers

-- a memory of this length in an arena
abbrev pub view_of : ArenaView → List ℕ → ℕ → MemoryView
view_of arena numbers len = record {
  bytes = take len (joined arena.pages numbers);
  made = made_by numbers;
  spare = arena.spare;
}

-- What holds of the pages of an arena, the numbers of a memory's pages and the memory's length: page 0 is zeros; pages
-- have the bytes of one each; each number is that of a page, and each page but page 0 is named once.
pub record IsMapped (pages : List (List ℕ)) (numbers : List ℕ) (len : ℕ) : Type 0 where
  pub zeros : page pages 0 ≡ zero_page
  pub whole : All (λ p. length p ≡ GUEST_PAGE) pages
  pub octets : All IsByteList pages
  pub known : All (λ n. n < length pages) numbers
  pub once : (i j : ℕ) → 0 < get_or numbers i 0 → get_or numbers j 0 ≡ get_or numbers i 0 → j ≡ i
  pub counted : length pages ≡ 1 + count_by (nat_lt 0) numbers
  pub covers : len ≤ length numbers * GUEST_PAGE
  pub few : length numbers ≤ LONGEST_MEMORY / GUEST_PAGE
