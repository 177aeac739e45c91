use Rattle.std.specs.Prelude.{ℕ, ◌+◌, ◌*◌, ◌==◌, ◌++◌, List, Bool, Option, Some, None, [], ◌∷◌, zero, suc, option_map, nat_lt, drop, if◌then◌else◌}
use Rattle.std.specs.Int.RustNames.{bit_and}
use Rattle.byteorder.specs.Endian.{little_number, little_bytes}
use Rattle.guest_mem.specs.Memory.{part}
use Rattle.vq_common.specs.declared.descriptor.Descriptor.{Descriptor}
use Rattle.vq_common.specs.declared.chain.Piece.{Piece}

-- the descriptor in 16 bytes: address, length, flags and next (VIRTIO 1.2, 2.7.5)
abbrev pub descriptor_in : List ℕ → Descriptor
descriptor_in bytes =
    record {
      addr = little_number 8 bytes;
      len = little_number 4 (drop 8 bytes);
      flags = little_number 2 (drop 12 bytes);
      next = little_number 2 (drop 14 bytes);
    }

-- and a descriptor as 16 bytes
abbrev pub descriptor_bytes : Descriptor → List ℕ
descriptor_bytes d = little_bytes 8 d.addr ++ (little_bytes 4 d.len ++ (little_bytes 2 d.flags ++ little_bytes 2 d.next))

-- the descriptor at a location of a table
abbrev pub descriptor_at : List ℕ → ℕ → ℕ → Descriptor
descriptor_at mem table n = descriptor_in (part mem (table + 16 * n) 16)

-- the chain goes on at `next`
abbrev pub has_next : ℕ → Bool
has_next flags = bit_and flags 1 == 1

-- the device writes here
abbrev pub is_write : ℕ → Bool
is_write flags = bit_and flags 2 == 2

-- the descriptor names a table of descriptors
abbrev pub is_indirect : ℕ → Bool
is_indirect flags = bit_and flags 4 == 4

-- the flags that a driver gives a descriptor: NEXT where another one follows, WRITE where the device writes
abbrev pub flags_of : Bool → Bool → ℕ
flags_of follows write = (if follows then 1 else 0) + (if write then 2 else 0)

-- the piece that a descriptor names
abbrev pub piece_of : Descriptor → Piece
piece_of d = record { addr = d.addr; len = d.len; write = is_write d.flags }

-- a descriptor, and then the others where it has NEXT
abbrev pub and_following : Descriptor → (ℕ → Option (List Descriptor)) → Option (List Descriptor)
and_following d follow = if has_next d.flags then option_map (λ ds. d ∷ ds) (follow d.next) else Some (d ∷ [])

-- the descriptors of a chain in a table of `count` locations, from a location on, where they are at most `left` and each
-- location is in the table
abbrev pub chain_from : ℕ → List ℕ → ℕ → ℕ → ℕ → Option (List Descriptor)
chain_from zero mem table count n = None
chain_from (suc left) mem table count n =
    if nat_lt n count then and_following (descriptor_at mem table n) (λ next. chain_from left mem table count next) else None
