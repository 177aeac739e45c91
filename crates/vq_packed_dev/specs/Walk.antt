use Rattle.std.specs.Prelude.{ℕ, zero, suc, ◌+◌, ◌*◌, ◌&&◌, not, nat_le, false, List, [], ◌∷◌, length, Bool, Option, Some, None, option_map, if◌then◌else◌}
use Rattle.vq_common.specs.declared.chain.Piece.{Piece}
use Rattle.vq_common.specs.declared.chain.RingCfg.{RingCfg}
use Rattle.vq_common.specs.declared.packed_descriptor.PackedDescriptor.{PackedDescriptor}
use Rattle.vq_packed_dev.specs.declared.walk.ChainEnd.{ChainEnd}
use Rattle.vq_common.specs.Chain.{ChainValue, Walked, Empty, Bad, chain_if_valid}
use Rattle.vq_common.specs.Descriptor.{has_next, is_indirect}
use Rattle.vq_common.specs.PackedDescriptor.{packed_descriptor_at, packed_piece_of, is_available}
use Rattle.vq_common.specs.Position.{location_after, wrap_after}
use Rattle.vq_common.specs.Queue.{DeviceQueue}
use Rattle.vq_common.specs.Table.{table_pieces}

-- the three areas of a packed ring lie inside a memory of this length: the descriptor ring, and the event suppression
-- structures of the driver and of the device (VIRTIO 1.2, 2.8)
abbrev pub packed_areas_inside : ℕ → RingCfg → Bool
packed_areas_inside memory c = nat_le (c.desc + 16 * c.size) memory && nat_le (c.driver + 4) memory && nat_le (c.device + 4) memory

-- the locations of a packed ring
abbrev pub packed_positions : RingCfg → ℕ
packed_positions c = c.size

-- a descriptor, and then the others where it has NEXT
abbrev pub and_others : PackedDescriptor → Option (List PackedDescriptor) → Option (List PackedDescriptor)
and_others d others = if has_next d.flags then option_map (λ ds. d ∷ ds) others else Some (d ∷ [])

-- the descriptors of a chain from a location of the ring on, where they are at most `left` (VIRTIO 1.2, 2.8.6)
abbrev pub packed_chain_from : ℕ → List ℕ → RingCfg → ℕ → Option (List PackedDescriptor)
packed_chain_from zero mem c location = None
packed_chain_from (suc left) mem c location = and_others (packed_descriptor_at mem c.desc location) (packed_chain_from left mem c (location_after c.size location 1))

-- the pieces of descriptors none of which names a table
abbrev pub direct_pieces : List PackedDescriptor → Option (List Piece)
direct_pieces [] = Some []
direct_pieces (d ∷ ds) = if is_indirect d.flags then None else option_map (λ ps. packed_piece_of d ∷ ps) (direct_pieces ds)

-- the pieces of the table that a descriptor names, which has to be alone (VIRTIO 1.2, 2.8.7)
abbrev pub pieces_of_table : List ℕ → RingCfg → PackedDescriptor → Option (List Piece)
pieces_of_table mem c d = if c.indirect && not (has_next d.flags) then table_pieces mem d.addr d.len c.size false else None

-- the pieces that the descriptors of a chain name: the first one may name a table, no other does
abbrev pub packed_pieces : List ℕ → RingCfg → List PackedDescriptor → Option (List Piece)
packed_pieces mem c [] = None
packed_pieces mem c (d ∷ ds) = if is_indirect d.flags then pieces_of_table mem c d else direct_pieces (d ∷ ds)

-- the id of the last descriptor, which is that of the chain (VIRTIO 1.2, 2.8.6)
abbrev pub last_id : List PackedDescriptor → ℕ
last_id [] = 0
last_id (d ∷ []) = d.id
last_id (d ∷ e ∷ ds) = last_id (e ∷ ds)

-- the chain that these descriptors make
abbrev pub packed_chain_of : List ℕ → RingCfg → Option (List PackedDescriptor) → Walked
packed_chain_of mem c None = Bad
packed_chain_of mem c (Some ds) = chain_if_valid (length mem) (last_id ds) (length ds) (packed_pieces mem c ds)

-- what the ring shows at a location: the chain that begins there
abbrev pub packed_chain_shown : List ℕ → RingCfg → ℕ → Walked
packed_chain_shown mem c location = packed_chain_of mem c (packed_chain_from c.size mem c location)

-- what is shown of a chain with this end and these pieces
abbrev pub chain_with : ℕ → Option ChainEnd → List Piece → Walked
chain_with memory None ps = Bad
chain_with memory (Some end) ps = chain_if_valid memory end.id end.slots (Some ps)

-- the descriptor at the position where the device takes next is available to it
abbrev pub is_next_available : List ℕ → DeviceQueue → Bool
is_next_available mem q = is_available q.taken_wrap (packed_descriptor_at mem q.cfg.desc q.taken).flags

-- what a packed ring shows next (VIRTIO 1.2, 2.8.1 and 2.8.6; what is malformed is our own)
abbrev pub packed_walk : List ℕ → DeviceQueue → Walked
packed_walk mem q =
    if packed_areas_inside (length mem) q.cfg
    then (if is_next_available mem q then packed_chain_shown mem q.cfg q.taken else Empty)
    else Bad

-- once a chain is taken
abbrev pub packed_taken : DeviceQueue → ChainValue → DeviceQueue
packed_taken q c = record q { taken = location_after q.cfg.size q.taken c.slots; taken_wrap = wrap_after q.cfg.size q.taken q.taken_wrap c.slots }
