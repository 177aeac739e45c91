use Rattle.std.specs.Prelude.{◌≡◌, ℕ, ◌+◌, ◌-◌, ◌*◌, ◌%◌, ◌^◌, ◌==◌, ◌&&◌, not, nat_le, nat_lt, List, [], ◌∷◌, length, Bool, Option, Some, None, option_map, true, if◌then◌else◌}
use Rattle.guest_mem.specs.Memory.{le16_at}
use Rattle.vq_common.specs.declared.chain.Piece.{Piece}
use Rattle.vq_common.specs.declared.chain.RingCfg.{RingCfg}
use Rattle.vq_common.specs.declared.descriptor.Descriptor.{Descriptor}
use Rattle.vq_common.specs.Chain.{ChainValue, Walked, Empty, Bad, chain_if_valid}
use Rattle.vq_common.specs.Descriptor.{chain_from, has_next, is_indirect, piece_of}
use Rattle.vq_common.specs.Queue.{DeviceQueue}
use Rattle.vq_common.specs.Table.{table_pieces}

-- the three areas of a split ring lie inside a memory of this length (VIRTIO 1.2, 2.7)
abbrev pub split_areas_inside : ℕ → RingCfg → Bool
split_areas_inside memory c =
    nat_le (c.desc + 16 * c.size) memory && nat_le (c.driver + (6 + 2 * c.size)) memory && nat_le (c.device + (6 + 8 * c.size)) memory

-- the pieces that the descriptors of a chain name: a last one may name a table, whose pieces follow
abbrev pub chain_pieces : List ℕ → RingCfg → List Descriptor → Option (List Piece)
chain_pieces mem c [] = Some []
chain_pieces mem c (d ∷ ds) =
    if is_indirect d.flags
    then (if c.indirect && not (has_next d.flags) then table_pieces mem d.addr d.len c.size true else None)
    else option_map (λ ps. piece_of d ∷ ps) (chain_pieces mem c ds)

-- the chain that these descriptors make
abbrev pub chain_of : List ℕ → RingCfg → ℕ → Option (List Descriptor) → Walked
chain_of mem c head None = Bad
chain_of mem c head (Some ds) = chain_if_valid (length mem) head (length ds) (chain_pieces mem c ds)

-- what the ring shows at a head: the chain that begins there
abbrev pub chain_shown : List ℕ → RingCfg → ℕ → Walked
chain_shown mem c head = chain_of mem c head (chain_from c.size mem c.desc c.size head)

-- a walk from a head comes to so many descriptors with these pieces, or to something malformed
abbrev pub WalksTo : List ℕ → RingCfg → ℕ → Option ℕ → List Piece → Type 0
WalksTo mem c head None ps = chain_shown mem c head ≡ Bad
WalksTo mem c head (Some slots) ps = chain_shown mem c head ≡ chain_if_valid (length mem) head slots (Some ps)

-- the heads in the available ring that were not taken yet
abbrev pub waiting_heads : List ℕ → DeviceQueue → ℕ
waiting_heads mem q = (le16_at mem (q.cfg.driver + 2) + 2 ^ 16 - q.taken) % 2 ^ 16

-- the entry of the available ring that is taken next
abbrev pub next_head : List ℕ → DeviceQueue → ℕ
next_head mem q = le16_at mem (q.cfg.driver + (4 + 2 * (q.taken % q.cfg.size)))

-- what a split ring shows next (VIRTIO 1.2, 2.7.5 and 2.7.13; what is malformed is our own)
abbrev pub split_walk : List ℕ → DeviceQueue → Walked
split_walk mem q =
    if split_areas_inside (length mem) q.cfg
    then (if waiting_heads mem q == 0
    then Empty
    else (if nat_lt q.cfg.size (waiting_heads mem q)
    then Bad
    else chain_shown mem q.cfg (next_head mem q)))
    else Bad

-- once a chain is taken
abbrev pub split_taken : DeviceQueue → ChainValue → DeviceQueue
split_taken q c = record q { taken = (q.taken + 1) % 2 ^ 16 }
