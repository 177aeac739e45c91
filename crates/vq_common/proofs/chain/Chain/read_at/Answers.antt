use Rattle.std.proofs.Common.{ap, arith, length}
use Rattle.vq_common.proofs.RuleFacts.{rules_inside}
use Rattle.vq_common.proofs.PartialLaws.{reads_past, reads_more, reads_all}
use Rattle.vq_common.proofs.chain.Chain.read_at.Goals as goal
use Rattle.vq_common.proofs.chain.Chain.read_at.Goals.{then-not-piece, else-not-piece}

pub readable-preserved : goal.readable-preserved
readable-preserved c =
    elim c.if-not-piece.branch [
      | then-not-piece w ↦
          rw (w.room-is, w.left-is, w.done-is)
          (reads_more _ _ _ _ _ _ _ _ _ _ _ _ c.as_slice-piece-items.ensures.value c.readable-test.true w.if-not-piece.true w.min-skipped.ensures w.read_from-done.ensures.count w.read_from-done.ensures.bytes c.readable.invariant)
      | else-not-piece w ↦
          rw (w.room-is, w.left-is, w.done-is)
          (reads_past _ _ _ _ _ _ _ _ _ c.as_slice-piece-items.ensures.value c.readable-test.true w.if-not-piece.false c.readable.invariant)
    ]

pub returns : goal.returns
returns c =
    let same = c.as_slice-piece-items.ensures.value in
    let size = c.readable.auto.room in
    rw (← size)
    (reads_all _ _ _ _ _ _ c.readable.piece-index (omega (arith, ap length same)) (rules_inside _ _ c.requires.rules) (omega arith) c.readable.invariant)
