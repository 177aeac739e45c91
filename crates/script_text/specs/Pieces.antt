use Rattle.std.specs.Prelude.{◌≡◌, ◌+◌, ◌≤◌, ◌==◌, ◌&&◌, ◌||◌, not, true, false, List, [], ◌∷◌, ◌++◌, length, Bool, Result, Ok, Err, if◌then◌else◌}
use Rattle.vt_types.specs.Operation.{PostedBuffer}
use Rattle.script_text.specs.declared.fault.LineFault.{LineFault}
use Rattle.script_text.specs.declared.fault.LineFault.TheVariants.{Bad, Memory}
use Rattle.vt_types.specs.Limits.{MOST_PIECES}
use Rattle.script_text.specs.declared.post.Piece.{Piece}
use Rattle.script_text.specs.declared.post.Piece.TheVariants as code
use Rattle.script_text.specs.Post as spec

-- a piece of the code, as contracts see it
abbrev pub piece_value : Piece → spec.Piece
piece_value (code.Readable bytes) = spec.Readable bytes
piece_value (code.Writable count) = spec.Writable count

-- the buffer has these pieces so far
pub record Has (seen : List spec.Piece) (buffer : PostedBuffer) : Type 0 where
  pub is : buffer ≡ spec.buffer_of buffer.tag buffer.indirect seen
  pub first : spec.readable_first seen ≡ true
  pub few : length seen ≤ MOST_PIECES

-- a buffer with one more piece
abbrev pub with_piece : spec.Piece → PostedBuffer → PostedBuffer
with_piece piece buffer =
    record buffer {
      readable = buffer.readable ++ spec.readable_bytes piece;
      lengths = buffer.lengths ++ spec.piece_length piece ∷ [];
      readable_pieces = if spec.is_readable piece then buffer.readable_pieces + 1 else buffer.readable_pieces;
    }

-- what refuses a further piece: there are as many as may be, or it is readable and not all of them are
abbrev pub refuses : spec.Piece → PostedBuffer → Bool
refuses piece buffer = length buffer.lengths == MOST_PIECES || (spec.is_readable piece && not (buffer.readable_pieces == length buffer.lengths))

-- a piece is added to a buffer
abbrev pub Adds : spec.Piece → Result Unit LineFault → PostedBuffer → PostedBuffer → Type 0
Adds piece (Ok u) old new = (refuses piece old ≡ false) × (new ≡ with_piece piece old)
Adds piece (Err Bad) old new = refuses piece old ≡ true
Adds piece (Err Memory) old new = Unit {0}
