use Rattle.std.proofs.Common.{◌≡◌, ◌-◌, ◌≤◌, length, take}
use Rattle.guest_mem.specs.Memory.{put_at}
use Rattle.guest_mem.proofs.guest.GuestMem.put_by_pages.Given as goal

abbrev pub invariant-pages : goal.invariant-pages
invariant-pages l = record {
  inside : l.done ≤ length l.bytes;
  memory : l.self ≡ record l.fn.self { bytes = put_at l.fn.self.bytes l.at (take l.done l.bytes) };
}

abbrev pub decreases-pages : goal.decreases-pages
decreases-pages l = length l.bytes - l.done
