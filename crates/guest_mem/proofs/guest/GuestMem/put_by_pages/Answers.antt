use Rattle.std.proofs.Common.{◌≡◌, ◌+◌, ◌-◌, ◌/◌, ℕ, List, false, length, take, drop, get_or, ◌∙◌, ap, arith}
use Rattle.guest_mem.specs.Memory.{put_at}
use Rattle.guest_mem.specs.Pages.{MemoryView}
use Rattle.guest_mem.proofs.Makes.{there_at}
use Rattle.guest_mem.proofs.Puts.{put_at-take}
use Rattle.guest_mem.proofs.guest.GuestMem.put_by_pages.Goals as goal

pub put_in_page-requires-clause-made : goal.put_in_page-requires-clause-made
put_in_page-requires-clause-made c =
    ap (λ (v : MemoryView). get_or v.made ((c.args.at + c.pages.done) / 4096) false) c.pages.invariant.memory
    ∙ there_at c.args.self.now.made c.args.at (length c.args.bytes.now) c.pages.done c.requires.made (omega arith)

pub pages-preserved : goal.pages-preserved
pages-preserved c =
    let old = c.args.self.now in
    let at : ℕ = c.args.at in
    let n : ℕ = c.pages.done in
    let k : ℕ = c.first_piece-count.result in
    let xs : List ℕ = c.args.bytes.now in
    let width : n + k - n ≡ k = omega arith in
    let after : MemoryView → ℕ → MemoryView = λ v j. record { bytes = put_at v.bytes (at + n) (take j (drop n xs)); made = v.made; spare = v.spare } in
    record {
      inside = omega (arith, c.first_piece-count.ensures);
      memory = c.put_in_page.ensures
          ∙ ap (λ (v : MemoryView). after v (n + k - n)) c.pages.invariant.memory
          ∙ ap (after (record { bytes = put_at old.bytes at (take n xs); made = old.made; spare = old.spare })) width
          ∙ ap (λ (b : List ℕ). let v : MemoryView = record { bytes = b; made = old.made; spare = old.spare } in v) (put_at-take old.bytes at n k xs (omega (arith, c.requires.inside)) c.pages.invariant.inside);
    }
