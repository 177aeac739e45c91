use Rattle.std.proofs.Common.{◌≡◌, ◌+◌, ℕ, Bool, true, List, [], ◌∷◌, ◌∙◌, ap, arith}
use Rattle.guest_mem.specs.Memory.{put_at}
use Rattle.guest_mem.specs.Pages.{absent}
use Rattle.guest_mem.proofs.Makes.{absent-split, absent-grows, absent-behind}
use Rattle.guest_mem.proofs.Puts.{put_at-replicate_next}
use Rattle.guest_mem.proofs.guest.GuestMem.make_pages.Goals as goal

pub make_page-requires-clause-spare : goal.make_page-requires-clause-spare
make_page-requires-clause-spare c =
    let old : List Bool = c.args.self.now.made in
    let first : ℕ = c.args.first in
    let n : ℕ = c.pages.i in
    let next : absent c.pages.self.made (first + n) 1 ≡ absent old (first + n) 1 = ap (λ (w : List Bool). absent w (first + n) 1) c.pages.invariant.made ∙ absent-behind old first n 1 (omega (arith, c.requires.inside)) in
    omega (arith, next, absent-split old first n 1, absent-grows old first (n + 1) c.args.count (omega arith), c.pages.invariant.spare, c.requires.spare)

pub pages-preserved : goal.pages-preserved
pages-preserved c =
    let old : List Bool = c.args.self.now.made in
    let first : ℕ = c.args.first in
    let n : ℕ = c.pages.i in
    let next : absent c.pages.self.made (first + n) 1 ≡ absent old (first + n) 1 = ap (λ (w : List Bool). absent w (first + n) 1) c.pages.invariant.made ∙ absent-behind old first n 1 (omega (arith, c.requires.inside)) in
    record {
      bytes = c.make_page.ensures.bytes ∙ c.pages.invariant.bytes;
      made = c.make_page.ensures.made ∙ ap (λ (w : List Bool). put_at w (first + n) (true ∷ [])) c.pages.invariant.made ∙ put_at-replicate_next old first n 1 true (omega (arith, c.requires.inside));
      spare = omega (arith, next, absent-split old first n 1, c.make_page.ensures.spare, c.pages.invariant.spare);
    }
