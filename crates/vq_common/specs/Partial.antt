use Rattle.std.specs.Prelude.{ℕ, ◌+◌, ◌-◌, ◌≤◌, List, [], ◌∷◌, take, drop, Bool, if◌then◌else◌}
use Rattle.guest_mem.specs.Memory.{put_at}
use Rattle.guest_mem.specs.Pages.{MemoryView, missing}
use Rattle.vq_common.specs.declared.chain.Piece.{Piece}

-- the memory with bytes written over the writable pieces in order, from a writable byte on (counted from 0 over all of
-- them), as many as there are
abbrev pub scatter_from : ℕ → List ℕ → List Piece → List ℕ → List ℕ
scatter_from offset mem [] bytes = mem
scatter_from offset mem (p ∷ ps) bytes =
    if p.write then scatter_from (offset - p.len) (put_at mem (p.addr + offset) (take (p.len - offset) bytes)) ps (drop (p.len - offset) bytes)
    else scatter_from offset mem ps bytes

-- how many pages the writable pieces still lack, one by one: what writings over them may make at most, however many they
-- are. A page that two pieces lack counts twice
abbrev pub pages_short : List Bool → List Piece → ℕ
pages_short made [] = 0
pages_short made (p ∷ ps) = if p.write then missing made p.addr p.len + pages_short made ps else pages_short made ps

-- there are as many spare pages as the writable pieces lack, so any number of writings over them has its pages
abbrev pub HasPages : List Piece → MemoryView → Type 0
HasPages ps mem = pages_short mem.made ps ≤ mem.spare

-- no more pages were made than the writable pieces lack less: this adds up over any number of writings
abbrev pub MakesPagesOf : List Piece → MemoryView → MemoryView → Type 0
MakesPagesOf ps old new = old.spare + pages_short new.made ps ≤ new.spare + pages_short old.made ps
