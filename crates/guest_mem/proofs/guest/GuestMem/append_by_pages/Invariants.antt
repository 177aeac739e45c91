use Rattle.std.proofs.Common.{◌≡◌, ◌-◌, ◌≤◌, ◌++◌}
use Rattle.guest_mem.specs.Memory.{part}
use Rattle.guest_mem.proofs.guest.GuestMem.append_by_pages.Given as goal

abbrev pub invariant-pages : goal.invariant-pages
invariant-pages l = record {
  inside : l.done ≤ l.count;
  added : l.room.items ≡ l.fn.room.items ++ part l.self.bytes l.at l.done;
}

abbrev pub decreases-pages : goal.decreases-pages
decreases-pages l = l.count - l.done
