use Rattle.std.proofs.Common.{◌≡◌, ◌-◌, ℕ, [], ◌∷◌, true, refl, ◌∙◌, ap, arith}
use Rattle.guest_mem.specs.Arena.{ArenaView, with_page}
use Rattle.guest_mem.specs.Memory.{put_at}
use Rattle.guest_mem.specs.Pages.{MemoryView, absent}
use Rattle.guest_mem.specs.PageMap.{view_of}
use Rattle.std.proofs.Math.ListN.{set}
use Rattle.guest_mem.proofs.Views.{view-wants, view-make, view-make-holds, view-made}
use Rattle.guest_mem.proofs.guest.GuestMem.make_page.Goals as goal

pub make-requires-clause-spare : goal.make-requires-clause-spare
make-requires-clause-spare c =
    let m = c.self.inside in
    view-wants m.arena m.page_numbers.items m.len c.self.invariant c.args.self.now c.self.view_is c.args.page c.index.result.now c.requires.inside c.index.ensures c.if-index-eq0.true c.requires.spare

pub invariant_of-self : goal.invariant_of-self
invariant_of-self c =
    let m = c.self.inside in
    rw (c.make.ensures.made, c.make.ensures.number)
    (view-make-holds m.arena m.page_numbers.items m.len c.self.invariant c.args.self.now c.self.view_is c.args.page c.index.result.now c.requires.inside c.index.ensures c.if-index-eq0.true)

pub returns-then-index-eq0 : goal.returns-then-index-eq0
returns-then-index-eq0 c =
    let m = c.self.inside in
    let made : view_of c.make.new.self (set m.page_numbers.items c.args.page c.make.result) m.len ≡ record { bytes = c.args.self.now.bytes; made = put_at c.args.self.now.made c.args.page (true ∷ []); spare = c.args.self.now.spare - absent c.args.self.now.made c.args.page 1 } =
    ap (λ (a : ArenaView). view_of a (set m.page_numbers.items c.args.page c.make.result) m.len) c.make.ensures.made
    ∙ ap (λ (n : ℕ). view_of (with_page m.arena) (set m.page_numbers.items c.args.page n) m.len) c.make.ensures.number
    ∙ view-make m.arena m.page_numbers.items m.len c.self.invariant c.args.self.now c.self.view_is c.args.page c.index.result.now c.requires.inside c.index.ensures c.if-index-eq0.true c.requires.spare in
    record {
      bytes = ap (λ (v : MemoryView). v.bytes) made;
      made = ap (λ (v : MemoryView). v.made) made;
      spare = omega (arith, ap (λ (v : MemoryView). v.spare) made, c.requires.spare);
    }

pub returns-else-index-eq0 : goal.returns-else-index-eq0
returns-else-index-eq0 c =
    let m = c.self.inside in
    let before = view-made m.arena m.page_numbers.items m.len c.self.invariant c.args.self.now c.self.view_is c.args.page c.index.result.now c.requires.inside c.index.ensures (omega (arith, c.if-index-eq0.false)) in
    record {
      bytes = refl;
      made = before.0;
      spare = omega (arith, before.1);
    }
