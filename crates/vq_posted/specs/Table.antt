use Rattle.std.specs.Prelude.{◌≡◌, ℕ, ◌+◌, ◌*◌, ◌^◌, ◌<◌, ◌≤◌, ◌&&◌, not, List, [], ◌∷◌, length, Bool, nat_lt, Option, Some, None}
use Rattle.vq_common.specs.Queue.{Unreaped, slots_of_all, holds_tag}
use Rattle.vq_posted.specs.Free.{descriptors_in_use, head_of, is_in}
use Rattle.vq_posted.specs.Members.{is_member}
use Rattle.vq_posted.specs.Order.{IsInOrder}
use Rattle.vq_posted.specs.declared.entry.Posted.{Posted}
use Rattle.vq_posted.specs.declared.entry.Found.{Found}

-- what contracts see of posted buffers: the ring's size, the greatest that it may have, and the unreaped buffers by rising id
pub record PostedView : Type 0 where
  pub size : ℕ
  pub greatest : ℕ
  pub unreaped : List Unreaped

-- a posted buffer with this id
abbrev pub entry_at : ℕ → Posted → Unreaped
entry_at id p = record { tag = p.tag; id = id; descriptors = p.descriptors.items; slots = p.slots; readable = p.readable }

-- a posted buffer as the list has it: its id is its head
abbrev pub unreaped_of : Posted → Unreaped
unreaped_of p = entry_at (head_of p.descriptors.items) p

-- what is told of a buffer that was found
abbrev pub found_of : Option Unreaped → Option Found
found_of None = None
found_of (Some u) = Some (record { tag = u.tag; slots = u.slots; readable = u.readable })

-- the buffers of a table in which each has the location of its id, the first of them at `from`
abbrev pub entries : ℕ → List (Option Posted) → List Unreaped
entries from [] = []
entries from (None ∷ locations) = entries (from + 1) locations
entries from (Some p ∷ locations) = entry_at from p ∷ entries (from + 1) locations

-- a descriptor of the ring that no buffer uses
abbrev pub is_free : ℕ → List Unreaped → ℕ → Bool
is_free size us n = nat_lt n size && not (is_in n (descriptors_in_use us))

-- what the fields keep: the number of free slots, the set of free descriptors and that of the tags in use, as words
pub record IsKept (size free_slots : ℕ) (free_words tag_words : List ℕ) (locations : List (Option Posted)) : Type 0 where
  pub order : IsInOrder size (entries 0 locations)
  pub fits : size ≤ length locations
  pub bound : length locations < 2 ^ 16
  pub free : free_slots + slots_of_all (entries 0 locations) ≡ size
  pub room : length locations ≤ 64 * length free_words
  pub room_for_tags : length tag_words ≡ 1024
  pub descriptors : (n : ℕ) → is_member free_words n ≡ is_free size (entries 0 locations) n
  pub tags : (tag : ℕ) → tag < 2 ^ 16 → is_member tag_words tag ≡ holds_tag tag (entries 0 locations)
