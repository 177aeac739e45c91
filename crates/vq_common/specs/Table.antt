use Rattle.std.specs.Prelude.{ℕ, zero, suc, ◌+◌, ◌/◌, ◌%◌, ◌==◌, ◌&&◌, ◌++◌, not, nat_le, nat_lt, List, [], ◌∷◌, map, length, Bool, Option, Some, None, if◌then◌else◌}
use Rattle.std.specs.List.{list_all}
use Rattle.vt_types.specs.Limits.{MOST_PIECES}
use Rattle.guest_mem.specs.Memory.{part}
use Rattle.vq_common.specs.declared.descriptor.Descriptor.{Descriptor}
use Rattle.vq_common.specs.declared.chain.Piece.{Piece}
use Rattle.vq_common.specs.Descriptor.{chain_from, is_indirect, piece_of}
use Rattle.vq_common.specs.PackedDescriptor.{packed_descriptor_in, packed_piece_of}

-- an indirect table has whole descriptors, at least one, no more than a buffer's pieces and no more than the queue has,
-- and lies inside memory (VIRTIO 1.2, 2.7.5.3; the limit of a buffer's pieces is our own)
abbrev pub is_table : ℕ → ℕ → ℕ → ℕ → Bool
is_table memory addr len size =
    nat_lt 0 len && (len % 16 == 0) && nat_le (addr + len) memory && nat_le (len / 16) MOST_PIECES && nat_le (len / 16) size

-- the pieces of descriptors none of which names a table
abbrev pub pieces_if_direct : Option (List Descriptor) → Option (List Piece)
pieces_if_direct None = None
pieces_if_direct (Some ds) = if list_all (λ (d : Descriptor). not (is_indirect d.flags)) ds then Some (map piece_of ds) else None

-- a split table is a chain that begins at its first descriptor
abbrev pub split_table : List ℕ → ℕ → ℕ → Option (List Piece)
split_table mem addr len = pieces_if_direct (chain_from (len / 16) mem addr (len / 16) 0)

-- a packed table has its pieces in order; no flag but WRITE is looked at (VIRTIO 1.2, 2.8.7)
abbrev pub packed_table : ℕ → List ℕ → ℕ → List Piece
packed_table zero mem addr = []
packed_table (suc count) mem addr = packed_piece_of (packed_descriptor_in (part mem addr 16)) ∷ packed_table count mem (addr + 16)

-- the pieces of an indirect table
abbrev pub table_pieces : List ℕ → ℕ → ℕ → ℕ → Bool → Option (List Piece)
table_pieces mem addr len size split =
    if is_table (length mem) addr len size then (if split then split_table mem addr len else Some (packed_table (len / 16) mem addr)) else None

-- pieces, and behind them those of a table, where these are not too many together
abbrev pub pieces_with : List Piece → Option (List Piece) → Option (List Piece)
pieces_with found None = None
pieces_with found (Some more) = if nat_le (length found + length more) MOST_PIECES then Some (found ++ more) else None

-- the pieces, where they were added
abbrev pub pieces_if : Bool → List Piece → Option (List Piece)
pieces_if added ps = if added then Some ps else None
