use Rattle.std.proofs.Common.{◌+◌, ◌/◌, ℕ, List, false, replicate, get_or, ◌∙◌, ap, arith}
use Rattle.guest_mem.specs.Memory.{put_at}
use Rattle.guest_mem.specs.Pages.{MemoryView}
use Rattle.guest_mem.proofs.Makes.{there_at}
use Rattle.guest_mem.proofs.Puts.{put_at-replicate_next}
use Rattle.guest_mem.proofs.guest.GuestMem.clear.Goals as goal

pub clear_in_page-requires-clause-made : goal.clear_in_page-requires-clause-made
clear_in_page-requires-clause-made c =
    ap (λ (v : MemoryView). get_or v.made ((c.args.at + c.pages.done) / 4096) false) c.pages.invariant.memory
    ∙ there_at c.args.self.now.made c.args.at c.args.count c.pages.done c.requires.made (omega arith)

pub pages-preserved : goal.pages-preserved
pages-preserved c =
    let old = c.args.self.now in
    let at : ℕ = c.args.at in
    let n : ℕ = c.pages.done in
    let k : ℕ = c.first_piece-piece.result in
    let after : MemoryView → MemoryView = λ v. record { bytes = put_at v.bytes (at + n) (replicate k 0); made = v.made; spare = v.spare } in
    record {
      inside = omega (arith, c.first_piece-piece.ensures);
      memory = c.clear_in_page.ensures
          ∙ ap after c.pages.invariant.memory
          ∙ ap (λ (b : List ℕ). let v : MemoryView = record { bytes = b; made = old.made; spare = old.spare } in v) (put_at-replicate_next old.bytes at n k 0 (omega (arith, c.requires.inside)));
    }
