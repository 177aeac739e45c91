use Rattle.std.specs.Prelude.{ℕ, ◌&&◌, nat_le, List, [], ◌∷◌, ◌++◌, length, take, drop, map, count_by, Bool, true, false, Option, Some, None, if◌then◌else◌, codes}
use Rattle.std.specs.Str.{bytes_eq}
use Rattle.std.specs.List.{flat_map, list_all}
use Rattle.vt_types.specs.Operation.{PostedBuffer}
use Rattle.vt_types.specs.Limits.{MOST_PIECES, LONGEST_PIECE}
use Rattle.script_text.specs.Words.{begins_with}
use Rattle.script_text.specs.Reading.{Reading, gives_if, ◌>>=◌, optional_word}
use Rattle.script_text.specs.Fields.{number16, bytes_in, decimal_in}

-- a piece of a buffer: bytes that the device reads, or so many bytes for it to write
pub data Piece : Type 0 where
  Readable : List ℕ → Piece
  Writable : ℕ → Piece

abbrev pub is_readable : Piece → Bool
is_readable (Readable bytes) = true
is_readable (Writable count) = false

abbrev pub is_writable : Piece → Bool
is_writable (Readable bytes) = false
is_writable (Writable count) = true

abbrev pub readable_bytes : Piece → List ℕ
readable_bytes (Readable bytes) = bytes
readable_bytes (Writable count) = []

abbrev pub piece_length : Piece → ℕ
piece_length (Readable bytes) = length bytes
piece_length (Writable count) = count

abbrev pub readable_if : Option (List ℕ) → Option Piece
readable_if None = None
readable_if (Some bytes) = Some (Readable bytes)

abbrev pub writable_if : Option ℕ → Option Piece
writable_if None = None
writable_if (Some count) = Some (Writable count)

-- `r:` and 1 to 4,096 bytes in hexadecimal, or `w:` and a number from 1 to 4096
abbrev pub piece_in : List ℕ → Option Piece
piece_in word =
    if bytes_eq (take 2 word) (codes "r:") then readable_if (bytes_in LONGEST_PIECE (drop 2 word))
    else if bytes_eq (take 2 word) (codes "w:") then writable_if (decimal_in 1 LONGEST_PIECE (drop 2 word))
    else None

-- a piece before others
abbrev pub and_pieces : Option Piece → Option (List Piece × List (List ℕ)) → Option (List Piece × List (List ℕ))
and_pieces None others = None
and_pieces (Some piece) None = None
and_pieces (Some piece) (Some (others, words)) = Some (piece ∷ others, words)

-- all the pieces in front of the events
abbrev pub pieces : Reading (List Piece)
pieces [] = Some ([], [])
pieces (word ∷ words) = if begins_with 64 word then Some ([], word ∷ words) else and_pieces (piece_in word) (pieces words)

-- no readable piece comes after a writable one
abbrev pub readable_first : List Piece → Bool
readable_first [] = true
readable_first (Readable bytes ∷ others) = readable_first others
readable_first (Writable count ∷ others) = list_all is_writable others

-- the buffer of 1 to 8 pieces
abbrev pub buffer_of : ℕ → Bool → List Piece → PostedBuffer
buffer_of tag indirect pieces =
    record { tag = tag; indirect = indirect; readable = flat_map readable_bytes pieces; lengths = map piece_length pieces; readable_pieces = count_by is_readable pieces }

abbrev pub buffer_in : ℕ → Bool → List Piece → Option PostedBuffer
buffer_in tag indirect pieces =
    if nat_le 1 (length pieces) && nat_le (length pieces) MOST_PIECES && readable_first pieces then Some (buffer_of tag indirect pieces) else None

-- the buffer of some pieces and of all that come in front of the events
abbrev pub posted_after : List Piece → ℕ → Bool → Reading PostedBuffer
posted_after seen tag indirect = do
  others ← pieces
  gives_if (buffer_in tag indirect (seen ++ others))

abbrev pub posted : ℕ → Bool → Reading PostedBuffer
posted tag indirect = posted_after [] tag indirect

-- the buffer of a line: its tag, whether it asks for an indirect table, and its pieces
abbrev pub buffer : Reading PostedBuffer
buffer = do
  tag ← number16
  indirect ← optional_word (codes "ind")
  posted tag indirect
