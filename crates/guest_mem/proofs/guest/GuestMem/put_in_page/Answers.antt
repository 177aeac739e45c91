use Rattle.std.proofs.Common.{List, ℕ, ◌∙◌, ap, arith}
use Rattle.guest_mem.specs.Arena.{ArenaView}
use Rattle.guest_mem.specs.PageMap.{view_of}
use Rattle.guest_mem.proofs.Views.{view-put, view-put-holds, IsByteList-fits}
use Rattle.guest_mem.proofs.guest.GuestMem.put_in_page.Goals as goal

pub invariant_of-self : goal.invariant_of-self
invariant_of-self c =
    let m = c.self.inside in
    let xs : List ℕ = c.args.bytes.now in
    rw c.put.ensures (view-put-holds m.arena m.page_numbers.items m.len c.self.invariant c.args.self.now c.self.view_is c.args.at c.index-number.result.now xs
    c.requires.within c.requires.made c.index-number.ensures (IsByteList-fits xs (λ i. omega (arith, c.type_inv.bytes i))))

pub returns : goal.returns
returns c =
    let m = c.self.inside in
    ap (λ (a : ArenaView). view_of a m.page_numbers.items m.len) c.put.ensures
    ∙ view-put m.arena m.page_numbers.items m.len c.self.invariant c.args.self.now c.self.view_is c.args.at c.index-number.result.now c.args.bytes.now
    c.requires.inside c.requires.within c.requires.made c.index-number.ensures
