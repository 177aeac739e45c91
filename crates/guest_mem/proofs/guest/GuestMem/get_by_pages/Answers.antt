use Rattle.std.proofs.Common.{◌≡◌, ◌+◌, ◌-◌, ◌≤◌, ℕ, List, ◌++◌, length, take, ◌∙◌, ap, arith}
use Rattle.std.proofs.lemmas.Slice.{take-put_mid}
use borrow.Rule.Slice.PartMut.{put_mid}
use Rattle.guest_mem.specs.Memory.{part}
use Rattle.guest_mem.proofs.Parts.{length-part, part-append-part}
use Rattle.guest_mem.proofs.guest.GuestMem.get_by_pages.Goals as goal

-- a room that holds n items has n + k once the next k were written into it
filled_more : (m room new : List ℕ) (at n k width : ℕ) → n ≤ length room → at + (n + k) ≤ length m → take n room ≡ part m at n → new ≡ part m (at + n) k
    → take (n + k) (put_mid n width room new) ≡ part m at (n + k)
filled_more m room new at n k width inside whole before read =
    take-put_mid n width room new (n + k) (omega (arith, ap length read, length-part m (at + n) k)) inside
    ∙ ap (λ (w : List ℕ). w ++ new) before ∙ ap (λ (w : List ℕ). part m at n ++ w) read ∙ part-append-part m at n k

pub pages-preserved : goal.pages-preserved
pages-preserved c =
    let n : ℕ = c.pages.done in
    let k : ℕ = c.first_piece-count.result in
    let bytes : List ℕ = c.args.self.now.bytes in
    let inside : n + k ≤ length c.args.room.now = omega (arith, c.first_piece-count.ensures, c.pages.auto.room) in
    let taken : c.copy_from_slice.new.self ≡ part bytes (c.args.at + n) k = c.copy_from_slice.ensures.after ∙ c.bytes_in_page-bytes.ensures in
    record {
      inside = inside;
      filled = filled_more bytes c.pages.room c.copy_from_slice.new.self c.args.at n k (n + k - n) (omega (arith, c.pages.auto.room)) (omega (arith, inside, c.requires.inside)) c.pages.invariant.filled taken;
    }
