use Rattle.std.proofs.Common.{length, sym, ◌∙◌, arith}
use Rattle.std.proofs.lemmas.Bool.{eqb-false}
use Rattle.std.proofs.lemmas.Result.{err_from_is_err_and}
use Rattle.script_text.proofs.PostLaws.{seen_more, seen_fault}
use Rattle.vt_types.specs.Operation.{posted_buffer}
use Rattle.script_text.specs.Pieces.{piece_value}
use Rattle.script_text.proofs.BoundLaws.{each_more, buffer_within}
use Rattle.script_text.proofs.post.pieces.Goals as goal

pub pieces-preserved : goal.pieces-preserved
pieces-preserved c =
    let (is, other) = c.in-Some.ensures in
    let added = c.in_ok-add.ensures in
    record {
      seen = seen_more c.args.tag c.args.indirect c.args.words.now c.pieces.words _ c.next_unless.new.self _ _ _ c.pieces.invariant.seen is other (c.in_ok-piece.ensures).value added;
      each = each_more (piece_value c.in_ok-piece.piece) (posted_buffer c.pieces.posted) (posted_buffer c.add.new.posted) added c.pieces.invariant.each (c.in_ok-piece.ensures).within;
    }

pub returns-in_err-add-clause-value : goal.returns-in_err-add-clause-value
returns-in_err-add-clause-value c =
    let (is, other) = c.in-Some.ensures in
    let p = err_from_is_err_and c.from_residual-in_err-add.result c.from_residual-in_err-add.ensures.1 in
    rw (p.1, p.2) (seen_fault c.in_err-add.field-0.0 c.args.tag c.args.indirect c.args.words.now c.pieces.words _ c.next_unless.new.self _ _ _ c.pieces.invariant.seen is other (c.in_ok-piece.ensures).value c.in_err-add.ensures)

pub returns-clause-within : goal.returns-clause-within
returns-clause-within c =
    let seen = c.pieces.invariant.seen in
    let some = eqb-false (length c.pieces.posted.cuts.items) 0 (sym c.is_empty.ensures ∙ c.if-is_empty.false) in
    buffer_within seen.seen (posted_buffer c.pieces.posted) seen.has c.pieces.invariant.each (omega (arith, some))
