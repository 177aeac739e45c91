use Rattle.std.proofs.Common.{length, subst, sym, ◌∙◌, ap}
use Rattle.guest_mem.specs.Memory.{IsByteList}
use Rattle.guest_mem.specs.Pages.{MemoryView}
use Rattle.guest_mem.proofs.Mapped.{length-seen, IsByteList-seen}
use Rattle.guest_mem.proofs.guest.GuestMem.len.Goals as goal

pub returns-clause-value : goal.returns-clause-value
returns-clause-value c =
    let m = c.self.inside in
    sym (length-seen m.arena.pages m.page_numbers.items m.len c.self.invariant) ∙ ap (λ (v : MemoryView). length v.bytes) c.self.view_is

pub returns-clause-bytes : goal.returns-clause-bytes
returns-clause-bytes c =
    let m = c.self.inside in
    subst (λ (v : MemoryView). IsByteList v.bytes) c.self.view_is (IsByteList-seen m.arena.pages m.page_numbers.items m.len c.self.invariant)
