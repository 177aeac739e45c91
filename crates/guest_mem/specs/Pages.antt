-- Guest memory as its callers see it: bytes by address, in pages that are made when they are first written.
use Rattle.std.specs.Prelude.{◌≡◌, ℕ, ◌+◌, ◌-◌, ◌/◌, Bool, true, not, nat_le, if◌then◌else◌, List, length, replicate, count_by}
use Rattle.vt_types.specs.Access.{pages_touched}
use Rattle.vt_types.specs.Limits.{GUEST_PAGE}
use Rattle.guest_mem.specs.Memory.{part, put_at}

-- the bytes by address, for each page whether it was made, and how many pages are set aside for writes to come
pub record MemoryView : Type 0 where
  pub bytes : List ℕ
  pub made : List Bool
  pub spare : ℕ

-- the number of pages that were made
abbrev pub pages_made : List Bool → ℕ
pages_made made = count_by (λ was_made. was_made) made

-- the number of pages that were not made, of `count` pages from the first on
abbrev pub absent : List Bool → ℕ → ℕ → ℕ
absent made first count = count_by not (part made first count)

-- the number of pages that a write of this many bytes makes
abbrev pub missing : List Bool → ℕ → ℕ → ℕ
missing made addr count = absent made (addr / GUEST_PAGE) (pages_touched addr count)

-- the spare pages that a call takes: none where its range passes the end
abbrev pub needed : MemoryView → ℕ → ℕ → ℕ
needed m addr count = if nat_le (addr + count) (length m.bytes) then missing m.made addr count else 0

-- the pages that are there once each page that a range touches was made
abbrev pub with_pages : List Bool → ℕ → ℕ → List Bool
with_pages made addr count = put_at made (addr / GUEST_PAGE) (replicate (pages_touched addr count) true)

-- memory after a write: its bytes stand at the address, and what pages it missed were taken from the spare ones
abbrev pub written : MemoryView → ℕ → List ℕ → MemoryView
written m addr bytes = record {
  bytes = put_at m.bytes addr bytes;
  made = with_pages m.made addr (length bytes);
  spare = m.spare - missing m.made addr (length bytes);
}

-- each page that a range touches was made
abbrev pub AreThere : List Bool → ℕ → ℕ → Type 0
AreThere made addr count = part made (addr / GUEST_PAGE) (pages_touched addr count) ≡ replicate (pages_touched addr count) true
