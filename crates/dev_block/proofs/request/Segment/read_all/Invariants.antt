use Rattle.std.proofs.Common.{◌≡◌, ◌+◌, ◌-◌, ◌*◌, ◌++◌, length}
use Rattle.vq_common.specs.Piece.{readable}
use Rattle.dev_block.specs.Request.{segments_at}
use Rattle.dev_block.proofs.request.Segment.read_all.Given as goal

abbrev pub invariant-segments : goal.invariant-segments
invariant-segments l = record {
  few : length l.segments.items ≡ l.i;
  rest : l.segments.items ++ segments_at (l.count - l.i) (readable l.mem.bytes l.chain.pieces.items) (16 + 16 * l.i)
      ≡ segments_at l.count (readable l.mem.bytes l.chain.pieces.items) 16;
}
