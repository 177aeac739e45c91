use Rattle.std.specs.Prelude.{◌≡◌, ℕ, zero, suc, ◌+◌, ◌-◌, ◌==◌, ◌&&◌, nat_le, List, [], ◌∷◌, ◌++◌, length, take, drop, Bool, true, if◌then◌else◌}
use Rattle.std.specs.List.{list_all}
use Rattle.vt_types.specs.Limits.{LONGEST_BUFFER, LONGEST_PIECE, MOST_PIECES}
use Rattle.guest_mem.specs.Memory.{part, put_at}
use Rattle.vq_common.specs.declared.chain.Piece.{Piece}

-- a piece has some bytes, at most the longest one's, and lies inside a memory of this length
abbrev pub is_piece : ℕ → Piece → Bool
is_piece memory p = nat_le 1 p.len && nat_le p.len LONGEST_PIECE && nat_le (p.addr + p.len) memory

-- the first of pieces that begin at an address, `readable` of which are readable; it has `len` bytes
abbrev pub piece_at : ℕ → ℕ → ℕ → Piece
piece_at addr readable len = record { addr = addr; len = len; write = readable == 0 }

-- pieces of these lengths, one after the other from an address on, the first `readable` of them readable
abbrev pub pieces_from : ℕ → ℕ → List ℕ → List Piece
pieces_from addr readable [] = []
pieces_from addr readable (len ∷ rest) = piece_at addr readable len ∷ pieces_from (addr + len) (readable - 1) rest

-- no readable piece follows a writable one
abbrev pub is_readable_first : List Piece → Bool
is_readable_first [] = true
is_readable_first (p ∷ ps) = if p.write then list_all (λ q. q.write) ps else is_readable_first ps

-- the bytes of all pieces together
abbrev pub length_of_all : List Piece → ℕ
length_of_all [] = 0
length_of_all (p ∷ ps) = p.len + length_of_all ps

-- the rules on the pieces of a chain: some, not too many, each a piece inside memory, not too many bytes together, no
-- readable one after a writable one
abbrev pub keeps_rules : ℕ → List Piece → Bool
keeps_rules memory ps =
    nat_le 1 (length ps) && nat_le (length ps) MOST_PIECES && list_all (is_piece memory) ps && nat_le (length_of_all ps) LONGEST_BUFFER && is_readable_first ps

-- the readable bytes of a chain: those of its readable pieces, one after the other
abbrev pub readable : List ℕ → List Piece → List ℕ
readable mem [] = []
readable mem (p ∷ ps) = if p.write then readable mem ps else part mem p.addr p.len ++ readable mem ps

-- how many these are
abbrev pub readable_len : List Piece → ℕ
readable_len [] = 0
readable_len (p ∷ ps) = if p.write then readable_len ps else p.len + readable_len ps

-- the writable room of a chain: the bytes of its writable pieces
abbrev pub room : List Piece → ℕ
room [] = 0
room (p ∷ ps) = if p.write then p.len + room ps else room ps

-- the memory with bytes written over the writable pieces in order, as many as there are
abbrev pub scatter : List ℕ → List Piece → List ℕ → List ℕ
scatter mem [] bytes = mem
scatter mem (p ∷ ps) bytes = if p.write then scatter (put_at mem p.addr (take p.len bytes)) ps (drop p.len bytes) else scatter mem ps bytes

-- the bytes from an address on, each by its address and by whether the device writes it
abbrev pub bytes_from : ℕ → ℕ → Bool → List (ℕ × Bool)
bytes_from addr zero write = []
bytes_from addr (suc n) write = (addr, write) ∷ bytes_from (addr + 1) n write

-- the bytes of pieces, in order
abbrev pub bytes_of : List Piece → List (ℕ × Bool)
bytes_of [] = []
bytes_of (p ∷ ps) = bytes_from p.addr p.len p.write ++ bytes_of ps

-- the pieces of both lists are the same bytes in the same order, however they are cut
pub record SameBytes (ps qs : List Piece) : Type 0 where
  pub bytes : bytes_of ps ≡ bytes_of qs
