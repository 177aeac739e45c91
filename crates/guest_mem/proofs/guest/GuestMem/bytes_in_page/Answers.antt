use Rattle.std.proofs.Common.{◌≡◌, ◌+◌, ◌-◌, ◌%◌, ℕ, ◌∙◌, ap, arith}
use Rattle.guest_mem.specs.Memory.{part}
use Rattle.guest_mem.proofs.Views.{view-part}
use Rattle.guest_mem.proofs.guest.GuestMem.bytes_in_page.Goals as goal

pub returns : goal.returns
returns c =
    let m = c.self.inside in
    let from : ℕ = c.args.at % 4096 in
    let count : from + c.args.count - from ≡ c.args.count = omega arith in
    ap (λ (k : ℕ). part c.page-page.result.now from k) count
    ∙ ap (λ w. part w from c.args.count) c.page-page.ensures
    ∙ view-part m.arena m.page_numbers.items m.len c.self.invariant c.args.self.now c.self.view_is c.args.at c.args.count c.index-number.result.now
    c.requires.some c.requires.inside c.requires.within c.index-number.ensures
