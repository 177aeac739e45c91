use Rattle.std.specs.Prelude.{ℕ, ◌+◌, ◌*◌, ◌==◌, ◌&&◌, ◌++◌, not, List, Bool, drop, if◌then◌else◌}
use Rattle.std.specs.Int.RustNames.{bit_and}
use Rattle.byteorder.specs.Endian.{little_number, little_bytes}
use Rattle.guest_mem.specs.Memory.{part}
use Rattle.vq_common.specs.declared.chain.Piece.{Piece}
use Rattle.vq_common.specs.declared.packed_descriptor.PackedDescriptor.{PackedDescriptor}
use Rattle.vq_common.specs.Descriptor.{is_write}

-- the packed descriptor in 16 bytes: address, length, id and flags (VIRTIO 1.2, 2.8.13)
abbrev pub packed_descriptor_in : List ℕ → PackedDescriptor
packed_descriptor_in bytes =
    record {
      addr = little_number 8 bytes;
      len = little_number 4 (drop 8 bytes);
      id = little_number 2 (drop 12 bytes);
      flags = little_number 2 (drop 14 bytes);
    }

-- and a packed descriptor as 16 bytes
abbrev pub packed_descriptor_bytes : PackedDescriptor → List ℕ
packed_descriptor_bytes d = little_bytes 8 d.addr ++ (little_bytes 4 d.len ++ (little_bytes 2 d.id ++ little_bytes 2 d.flags))

-- the descriptor at a location of a ring or a table
abbrev pub packed_descriptor_at : List ℕ → ℕ → ℕ → PackedDescriptor
packed_descriptor_at mem table n = packed_descriptor_in (part mem (table + 16 * n) 16)

-- the flag AVAIL stands
abbrev pub has_avail : ℕ → Bool
has_avail flags = bit_and flags 0x80 == 0x80

-- the flag USED stands
abbrev pub has_used : ℕ → Bool
has_used flags = bit_and flags 0x8000 == 0x8000

-- available to a device with this wrap counter: AVAIL equals it and USED differs (VIRTIO 1.2, 2.8.1)
abbrev pub is_available : Bool → ℕ → Bool
is_available wrap flags = if wrap then has_avail flags && not (has_used flags) else not (has_avail flags) && has_used flags

-- the flags by which a driver with this wrap counter makes a descriptor available: AVAIL equals it and USED differs
abbrev pub available_flags : Bool → ℕ
available_flags wrap = if wrap then 0x80 else 0x8000

-- used for a driver with this wrap counter: AVAIL and USED equal it (VIRTIO 1.2, 2.8.1)
abbrev pub is_used : Bool → ℕ → Bool
is_used wrap flags = if wrap then has_avail flags && has_used flags else not (has_avail flags) && not (has_used flags)

-- the piece that a packed descriptor names
abbrev pub packed_piece_of : PackedDescriptor → Piece
packed_piece_of d = record { addr = d.addr; len = d.len; write = is_write d.flags }
