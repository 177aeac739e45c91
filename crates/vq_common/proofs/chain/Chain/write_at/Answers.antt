use Rattle.std.proofs.Common.{arith, refl}
use Rattle.vq_common.proofs.PartialLaws.{pages_enough, writes_past, writes_over}
use Rattle.vq_common.proofs.chain.Chain.write_at.Goals as goal
use Rattle.vq_common.proofs.chain.Chain.write_at.Goals.{then-piece, else-piece}

pub write_from-done-requires-clause-pages : goal.write_from-done-requires-clause-pages
write_from-done-requires-clause-pages c =
    pages_enough _ _ _ _ _ _ _ _ _ _ _ _ c.as_slice-piece-items.ensures.value c.writable-test.true c.if-piece.true c.requires.pages c.min-skipped.ensures (omega arith) c.writable.invariant

pub writable-preserved : goal.writable-preserved
writable-preserved c =
    elim c.if-piece.branch [
      | then-piece w ↦
          rw (w.mem-is, w.left-is, w.done-is)
          (writes_over _ _ _ _ _ _ _ _ _ _ _ _ _ _ c.as_slice-piece-items.ensures.value c.writable-test.true w.if-piece.true c.requires.pages refl w.min-skipped.ensures w.write_from-done.ensures.count w.write_from-done.ensures.memory w.write_from-done.ensures.paged c.writable.invariant)
      | else-piece w ↦
          rw (w.mem-is, w.left-is, w.done-is)
          (writes_past _ _ _ _ _ _ _ _ _ _ c.as_slice-piece-items.ensures.value c.writable-test.true w.if-piece.false c.writable.invariant)
    ]
