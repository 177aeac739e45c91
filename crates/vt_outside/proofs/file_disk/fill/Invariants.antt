use Rattle.std.proofs.Common.{◌≤◌, ◌-◌, length, take}
use Rattle.std.specs.Io.KnownBytes.{Consumes}
use Rattle.vt_outside.proofs.file_disk.fill.Given as goal

abbrev pub invariant-filling : goal.invariant-filling
invariant-filling g l = record {
  within : l.filled ≤ length l.room;
  consumed : Consumes (g.R.Read.remaining l.fn.reader) (g.R.Read.remaining l.reader) (take l.filled l.room);
}

abbrev pub decreases-filling : goal.decreases-filling
decreases-filling g l = length l.room - l.filled
