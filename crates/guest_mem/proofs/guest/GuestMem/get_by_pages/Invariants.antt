use Rattle.std.proofs.Common.{◌≡◌, ◌-◌, ◌≤◌, length, take}
use Rattle.guest_mem.specs.Memory.{part}
use Rattle.guest_mem.proofs.guest.GuestMem.get_by_pages.Given as goal

abbrev pub invariant-pages : goal.invariant-pages
invariant-pages l = record {
  inside : l.done ≤ length l.initial.room;
  filled : take l.done l.room ≡ part l.self.bytes l.at l.done;
}

abbrev pub decreases-pages : goal.decreases-pages
decreases-pages l = length l.initial.room - l.done
