use Rattle.std.proofs.Common.{◌≡◌, ℕ, length, replicate, ◌∙◌, ap, arith}
use Rattle.std.proofs.lemmas.List.{length-replicate}
use Rattle.guest_mem.specs.Arena.{ArenaView}
use Rattle.guest_mem.specs.PageMap.{view_of}
use Rattle.guest_mem.proofs.ByteLists.{IsByteList-replicate}
use Rattle.guest_mem.proofs.Views.{view-put, view-put-holds}
use Rattle.guest_mem.proofs.guest.GuestMem.clear_in_page.Goals as goal

pub invariant_of-self : goal.invariant_of-self
invariant_of-self c =
    let m = c.self.inside in
    let count : ℕ = c.args.count in
    let long : length (replicate {A = ℕ} count 0) ≡ count = length-replicate {A = ℕ} count 0 in
    rw c.clear.ensures (view-put-holds m.arena m.page_numbers.items m.len c.self.invariant c.args.self.now c.self.view_is c.args.at c.index-number.result.now (replicate count 0)
    (omega (arith, long, c.requires.within)) c.requires.made c.index-number.ensures (IsByteList-replicate count))

pub returns : goal.returns
returns c =
    let m = c.self.inside in
    let count : ℕ = c.args.count in
    let long : length (replicate {A = ℕ} count 0) ≡ count = length-replicate {A = ℕ} count 0 in
    ap (λ (a : ArenaView). view_of a m.page_numbers.items m.len) c.clear.ensures
    ∙ view-put m.arena m.page_numbers.items m.len c.self.invariant c.args.self.now c.self.view_is c.args.at c.index-number.result.now (replicate count 0)
    (omega (arith, long, c.requires.inside)) (omega (arith, long, c.requires.within)) c.requires.made c.index-number.ensures
