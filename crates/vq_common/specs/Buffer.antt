use Rattle.std.specs.Prelude.{◌≡◌, ℕ, ◌≤◌, All, length, take, sum}
use Rattle.vt_types.specs.Limits.{LONGEST_BUFFER, MOST_PIECES}
use Rattle.vt_types.specs.Operation.{PostedBuffer}
use Rattle.vt_types.specs.Within.{IsPieceWithin}

-- a buffer that may be posted: some pieces, not too many, each with some bytes and none too long, not too many bytes
-- together, and the bytes of the readable pieces
pub record IsPostable (b : PostedBuffer) : Type 0 where
  pub some : 1 ≤ length b.lengths
  pub few : length b.lengths ≤ MOST_PIECES
  pub each : All IsPieceWithin b.lengths
  pub total : sum b.lengths ≤ LONGEST_BUFFER
  pub split : b.readable_pieces ≤ length b.lengths
  pub readable : length b.readable ≡ sum (take b.readable_pieces b.lengths)
