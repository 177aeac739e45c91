use Rattle.std.proofs.Common.{◌+◌, ◌++◌, ℕ, List, length, ◌∙◌, ap, arith, append_assoc, length-append}
use Rattle.guest_mem.specs.Memory.{part}
use Rattle.guest_mem.proofs.Parts.{length-part, part-append-part}
use Rattle.guest_mem.proofs.guest.GuestMem.append_by_pages.Goals as goal

pub append_in_page-requires-clause-space : goal.append_in_page-requires-clause-space
append_in_page-requires-clause-space c =
    let before : List ℕ = c.args.room.now.items in
    let held = ap length c.pages.invariant.added ∙ length-append before (part c.args.self.now.bytes c.args.at c.pages.done) in
    omega (arith, held, length-part c.args.self.now.bytes c.args.at c.pages.done (omega (arith, c.requires.inside)), c.first_piece-piece.ensures, c.requires.space)

pub pages-preserved : goal.pages-preserved
pages-preserved c =
    let at : ℕ = c.args.at in
    let n : ℕ = c.pages.done in
    let k : ℕ = c.first_piece-piece.result in
    let bytes : List ℕ = c.args.self.now.bytes in
    let before : List ℕ = c.args.room.now.items in
    record {
      inside = omega (arith, c.first_piece-piece.ensures);
      added = c.append_in_page.ensures
          ∙ ap (λ (w : List ℕ). w ++ part bytes (at + n) k) c.pages.invariant.added
          ∙ append_assoc before (part bytes at n) (part bytes (at + n) k)
          ∙ ap (λ (w : List ℕ). before ++ w) (part-append-part bytes at n k);
    }
