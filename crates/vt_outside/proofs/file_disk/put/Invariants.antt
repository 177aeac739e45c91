use Rattle.std.proofs.Common.{◌≤◌, ◌-◌, length, take}
use Rattle.std.specs.Io.KnownBytes.{Appends}
use Rattle.vt_outside.proofs.file_disk.put.Given as goal

abbrev pub invariant-putting : goal.invariant-putting
invariant-putting g l = record {
  within : l.written ≤ length l.bytes;
  appended : Appends (g.W.Write.contents l.fn.writer) (g.W.Write.contents l.writer) (take l.written l.bytes);
}

abbrev pub decreases-putting : goal.decreases-putting
decreases-putting g l = length l.bytes - l.written
