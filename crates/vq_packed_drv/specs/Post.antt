use Rattle.std.specs.Prelude.{ℕ, ◌+◌, ◌*◌, List, [], ◌∷◌, ◌++◌, length, Bool, true, false, if◌then◌else◌}
use Rattle.vt_types.specs.Access.{AccessValue, Put}
use Rattle.vt_types.specs.Operation.{PostedBuffer}
use Rattle.port_access.specs.Accesses.{data_puts}
use Rattle.vq_common.specs.declared.chain.Piece.{Piece}
use Rattle.vq_common.specs.declared.packed_descriptor.PackedDescriptor.{PackedDescriptor}
use Rattle.vq_common.specs.declared.position.Position.{Position}
use Rattle.vq_common.specs.Descriptor.{flags_of}
use Rattle.vt_layout.specs.QueueBlock.{table_address, data_address}
use Rattle.vq_common.specs.PackedDescriptor.{available_flags, packed_descriptor_bytes}
use Rattle.vq_common.specs.Piece.{pieces_from}
use Rattle.vq_common.specs.Position.{position_after}
use Rattle.vq_common.specs.Queue.{DriverQueue, Unreaped, slots_of, with_buffer}
use Rattle.vq_posted.specs.Free.{free_descriptors, head_of}

-- the position of the next available descriptor
abbrev pub available_position : DriverQueue → Position
available_position q = record { location = q.available; wrap = q.available_wrap }

-- the id that a buffer gets: the lowest free one
abbrev pub id_for : DriverQueue → ℕ
id_for q = head_of (free_descriptors q.cfg.size q.unreaped)

-- the pieces of a buffer, one after the other in its data
abbrev pub pieces_of : ℕ → PostedBuffer → ℕ → List Piece
pieces_of base b id = pieces_from (data_address base id) b.readable_pieces b.lengths

-- more pieces follow
abbrev pub has_more : List Piece → Bool
has_more [] = false
has_more (p ∷ ps) = true

-- the descriptor of a piece in the ring: the id of its buffer, NEXT where another follows, WRITE where the device writes,
-- and AVAIL and USED by the wrap counter (VIRTIO 1.2, 2.8.6 and 2.8.1)
abbrev pub ring_descriptor : ℕ → Bool → Bool → Piece → PackedDescriptor
ring_descriptor id wrap follows p = record { addr = p.addr; len = p.len; id = id; flags = flags_of follows p.write + available_flags wrap }

-- the descriptor of a piece in a table: no id, and no flag but WRITE (VIRTIO 1.2, 2.8.7)
abbrev pub table_descriptor : Piece → PackedDescriptor
table_descriptor p = record { addr = p.addr; len = p.len; id = 0; flags = flags_of false p.write }

-- the descriptors of pieces as the bytes of a table
abbrev pub packed_table_bytes : List Piece → List ℕ
packed_table_bytes [] = []
packed_table_bytes (p ∷ ps) = packed_descriptor_bytes (table_descriptor p) ++ packed_table_bytes ps

-- a put of the descriptor of each piece, at positions one after the other
abbrev pub ring_puts : ℕ → ℕ → ℕ → Position → List Piece → List AccessValue
ring_puts base size id position [] = []
ring_puts base size id position (p ∷ ps) =
    Put (base + 16 * position.location) (packed_descriptor_bytes (ring_descriptor id position.wrap (has_more ps) p)) ∷ ring_puts base size id (position_after size position 1) ps

-- the head comes after the others
abbrev pub head_last : List AccessValue → List AccessValue
head_last [] = []
head_last (head ∷ others) = others ++ head ∷ []

-- the puts of a buffer's own descriptors: those after the head in order, and then the head (VIRTIO 1.2, 2.8.21)
abbrev pub direct_puts : DriverQueue → PostedBuffer → ℕ → List AccessValue
direct_puts q b id = head_last (ring_puts q.base q.cfg.size id (available_position q) (pieces_of q.base b id))

-- the descriptor that names the table of a buffer of so many pieces (VIRTIO 1.2, 2.8.7)
abbrev pub naming_descriptor : ℕ → ℕ → ℕ → Bool → PackedDescriptor
naming_descriptor base id count wrap = record { addr = table_address base id; len = 16 * count; id = id; flags = 4 + available_flags wrap }

-- the puts of a buffer's table, and of the descriptor that names it
abbrev pub indirect_puts : DriverQueue → PostedBuffer → ℕ → List AccessValue
indirect_puts q b id =
    Put (table_address q.base id) (packed_table_bytes (pieces_of q.base b id))
    ∷ Put (q.base + 16 * q.available) (packed_descriptor_bytes (naming_descriptor q.base id (length b.lengths) q.available_wrap))
    ∷ []

-- the puts of a buffer's descriptors
abbrev pub chain_puts : DriverQueue → PostedBuffer → ℕ → List AccessValue
chain_puts q b id = if b.indirect then indirect_puts q b id else direct_puts q b id

-- the accesses of a post with this id: the data, then the descriptors, the head last
abbrev pub post_puts : DriverQueue → PostedBuffer → ℕ → List AccessValue
post_puts q b id = data_puts (data_address q.base id) b.readable ++ chain_puts q b id

abbrev pub packed_post_accesses : DriverQueue → PostedBuffer → List AccessValue
packed_post_accesses q b = post_puts q b (id_for q)

-- an unreaped buffer with this id, which stands for its descriptors
abbrev pub packed_buffer : PostedBuffer → ℕ → Unreaped
packed_buffer b id = record { tag = b.tag; id = id; descriptors = id ∷ []; slots = slots_of b; readable = length b.readable }

-- the record once a buffer is posted
abbrev pub packed_posted : DriverQueue → PostedBuffer → DriverQueue
packed_posted q b =
    let after = position_after q.cfg.size (available_position q) (slots_of b) in
    record q { available = after.location; available_wrap = after.wrap; unreaped = with_buffer (packed_buffer b (id_for q)) q.unreaped }
