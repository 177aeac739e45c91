use Rattle.std.specs.Prelude.{◌≡◌, ℕ, ◌<◌, ◌≤◌, ◌&&◌, List, [], ◌∷◌, length, map, All, Bool, true, IsTrue, nat_lt}
use Rattle.std.specs.List.{list_all}
use Rattle.vt_types.specs.Limits.{LONGEST_BUFFER, MOST_PIECES}
use Rattle.vq_common.specs.Queue.{Unreaped, slots_of_all}
use Rattle.vq_posted.specs.Free.{descriptors_in_use, head_of, is_distinct}

-- an unreaped buffer: some descriptors, not too many and no more than its slots, the head of which is its id
pub record IsBuffer (u : Unreaped) : Type 0 where
  pub some : 1 ≤ length u.descriptors
  pub few : length u.descriptors ≤ MOST_PIECES
  pub id : u.id ≡ head_of u.descriptors
  pub slots : length u.descriptors ≤ u.slots
  pub readable : u.readable ≤ LONGEST_BUFFER

-- each id is below those of the buffers that follow
abbrev pub ids_rise : List Unreaped → Bool
ids_rise [] = true
ids_rise (u ∷ us) = list_all (λ v. nat_lt u.id v.id) us && ids_rise us

abbrev pub tags_of : List Unreaped → List ℕ
tags_of us = map (λ u. u.tag) us

-- the unreaped buffers of a ring of `size`: they take no more slots than it has, no descriptor is used twice, and each has
-- a tag and an id of its own
pub record IsInOrder (size : ℕ) (us : List Unreaped) : Type 0 where
  pub each : All IsBuffer us
  pub below : All (λ n. n < size) (descriptors_in_use us)
  pub distinct : IsTrue (is_distinct (descriptors_in_use us))
  pub slots : slots_of_all us ≤ size
  pub ids : IsTrue (ids_rise us)
  pub tags : IsTrue (is_distinct (tags_of us))
