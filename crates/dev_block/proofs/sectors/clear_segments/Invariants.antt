use Rattle.std.proofs.Common.{◌≡◌, Bool, drop}
use Rattle.vt_outside.specs.Tripped.{TrippedView}
use Rattle.dev_block.specs.Calls.{Calls}
use Rattle.dev_block.specs.Sectors.{clear_segments}
use Rattle.dev_block.proofs.sectors.clear_segments.Given as goal

abbrev pub invariant-segments : goal.invariant-segments
invariant-segments g l = record {
  rest : (new : TrippedView) (ok : Bool) → Calls (clear_segments (drop l.segment-index l.segments)) l.disk ok new ok → Calls (clear_segments l.segments) l.fn.disk ok new ok;
  count : l.disk.disk.count ≡ l.fn.disk.disk.count;
}
