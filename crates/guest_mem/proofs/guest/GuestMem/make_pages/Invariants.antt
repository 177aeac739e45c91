use Rattle.std.proofs.Common.{◌≡◌, ◌+◌, true, replicate}
use Rattle.guest_mem.specs.Memory.{put_at}
use Rattle.guest_mem.specs.Pages.{absent}
use Rattle.guest_mem.proofs.guest.GuestMem.make_pages.Given as goal

abbrev pub invariant-pages : goal.invariant-pages
invariant-pages l = record {
  bytes : l.self.bytes ≡ l.fn.self.bytes;
  made : l.self.made ≡ put_at l.fn.self.made l.first (replicate l.i true);
  spare : l.self.spare + absent l.fn.self.made l.first l.i ≡ l.fn.self.spare;
}
