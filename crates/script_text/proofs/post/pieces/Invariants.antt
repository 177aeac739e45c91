use Rattle.std.proofs.Common.{length}
use Rattle.std.specs.Prelude.{All}
use Rattle.vt_types.specs.Operation.{posted_buffer}
use Rattle.vt_types.specs.Within.{IsPieceWithin}
use Rattle.script_text.proofs.PostLaws.{Seen}
use Rattle.script_text.proofs.post.pieces.Given as goal

abbrev pub invariant-pieces : goal.invariant-pieces
invariant-pieces l = record {
  seen : Seen l.tag l.indirect l.fn.words l.words (posted_buffer l.posted);
  each : All IsPieceWithin (posted_buffer l.posted).lengths;
}

abbrev pub decreases-pieces : goal.decreases-pieces
decreases-pieces l = length l.words
