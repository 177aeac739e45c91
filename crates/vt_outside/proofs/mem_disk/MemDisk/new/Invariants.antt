use Rattle.std.proofs.Common.{◌≡◌, replicate}
use Rattle.vt_outside.proofs.mem_disk.MemDisk.new.Given as goal

abbrev pub invariant-sectors : goal.invariant-sectors
invariant-sectors l = l.all.items ≡ replicate l._made (replicate 512 0)
