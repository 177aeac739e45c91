use Rattle.std.proofs.Common.{◌≡◌, ◌-◌, ◌≤◌, replicate}
use Rattle.guest_mem.specs.Memory.{put_at}
use Rattle.guest_mem.proofs.guest.GuestMem.clear.Given as goal

abbrev pub invariant-pages : goal.invariant-pages
invariant-pages l = record {
  inside : l.done ≤ l.count;
  memory : l.self ≡ record l.fn.self { bytes = put_at l.fn.self.bytes l.at (replicate l.done 0) };
}

abbrev pub decreases-pages : goal.decreases-pages
decreases-pages l = l.count - l.done
