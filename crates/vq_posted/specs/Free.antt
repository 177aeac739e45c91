use Rattle.std.specs.Prelude.{ℕ, zero, suc, ◌+◌, ◌==◌, ◌&&◌, not, List, [], ◌∷◌, ◌++◌, filter, Bool, true}
use Rattle.std.specs.List.{list_any}
use Rattle.vq_common.specs.Queue.{Unreaped}

-- the first of a buffer's descriptors, the head
abbrev pub head_of : List ℕ → ℕ
head_of [] = 0
head_of (n ∷ ns) = n

-- the descriptors of all unreaped buffers
abbrev pub descriptors_in_use : List Unreaped → List ℕ
descriptors_in_use [] = []
descriptors_in_use (u ∷ us) = u.descriptors ++ descriptors_in_use us

abbrev pub is_in : ℕ → List ℕ → Bool
is_in n xs = list_any (λ x. x == n) xs

-- no number comes twice
abbrev pub is_distinct : List ℕ → Bool
is_distinct [] = true
is_distinct (n ∷ ns) = not (is_in n ns) && is_distinct ns

-- the numbers from `from` on, so many of them
abbrev pub numbers : ℕ → ℕ → List ℕ
numbers from zero = []
numbers from (suc count) = from ∷ numbers (from + 1) count

-- the free descriptors of a ring of `size`, rising
abbrev pub free_descriptors : ℕ → List Unreaped → List ℕ
free_descriptors size us = filter (λ n. not (is_in n (descriptors_in_use us))) (numbers 0 size)
