-- Descriptors that lie one after the other are read one after the other.
use Rattle.std.proofs.Common.{◌≡◌, ℕ, zero, suc, ◌+◌, ◌*◌, ◌≤◌, List, [], ◌∷◌, ◌++◌, length, sym, ◌∙◌, ap, arith}
use Rattle.std.specs.Prelude.{All}
use Rattle.std.proofs.lemmas.List.Elements.{All-head, All-tail}
use Rattle.guest_mem.specs.Memory.{part}
use Rattle.guest_mem.proofs.Parts.{part-part, part-append_left, part-append_right, part_all}
use Rattle.vq_common.specs.declared.descriptor.Descriptor.{Descriptor}
use Rattle.vq_common.specs.Descriptor.{descriptor_bytes, descriptor_in}
use Rattle.vq_common.proofs.DescriptorLaws.{Fits, length-descriptor_bytes, descriptor_in-descriptor_bytes}
use Rattle.vq_split_drv.specs.Cost.{length-table_bytes}
use Rattle.vq_split_drv.specs.Post.{table_bytes}
use Rattle.vq_split_pair.proofs.Located.{AreAt}
use Rattle.vq_posted.specs.Free.{numbers}

-- where a part of memory is joined bytes, its front is the first of them
part_front : (m : List ℕ) (a j k : ℕ) (xs ys : List ℕ) → length xs ≡ j → part m a (j + k) ≡ xs ++ ys → part m a j ≡ xs
part_front m a j k xs ys long is =
    let same : a + 0 ≡ a = omega arith in
    let whole : part (part m a (j + k)) 0 j ≡ part m (a + 0) j = part-part m a (j + k) 0 j (omega arith) in
    sym (whole ∙ ap (λ (b : ℕ). part m b j) same) ∙ ap (λ (w : List ℕ). part w 0 j) is ∙ part-append_left xs ys 0 j (omega arith) ∙ part_all xs j long

-- and its back the second
part_back : (m : List ℕ) (a j k : ℕ) (xs ys : List ℕ) → length xs ≡ j → length ys ≡ k → part m a (j + k) ≡ xs ++ ys → part m (a + j) k ≡ ys
part_back m a j k xs ys long long2 is =
    let same : j + 0 ≡ j = omega arith in
    sym (part-part m a (j + k) j k (omega arith))
    ∙ ap (λ (w : List ℕ). part w j k) is
    ∙ ap (λ (i : ℕ). part (xs ++ ys) i k) (sym same)
    ∙ part-append_right xs ys j 0 k long
    ∙ part_all ys k long2

-- the descriptors of a table are read at its locations in order
pub table_reads : (mem : List ℕ) (table from count : ℕ) (ds : List Descriptor) → length ds ≤ count → All Fits ds → part mem (table + 16 * from) (16 * length ds) ≡ table_bytes ds
    → AreAt mem table (numbers from count) ds
table_reads mem table from count [] few fits is = tt
table_reads mem table from zero (d ∷ ds) few fits is = absurd (omega arith)
table_reads mem table from (suc count) (d ∷ ds) few fits is =
    let long : length (descriptor_bytes d) ≡ 16 = length-descriptor_bytes d in
    let count2 : 16 * length (d ∷ ds) ≡ 16 + 16 * length ds = omega arith in
    let location : table + 16 * from + 16 ≡ table + 16 * (from + 1) = omega arith in
    let whole : part mem (table + 16 * from) (16 + 16 * length ds) ≡ descriptor_bytes d ++ table_bytes ds = ap (λ (n : ℕ). part mem (table + 16 * from) n) (sym count2) ∙ is in
    let front : part mem (table + 16 * from) 16 ≡ descriptor_bytes d = part_front mem (table + 16 * from) 16 (16 * length ds) (descriptor_bytes d) (table_bytes ds) long whole in
    let back : part mem (table + 16 * from + 16) (16 * length ds) ≡ table_bytes ds = part_back mem (table + 16 * from) 16 (16 * length ds) (descriptor_bytes d) (table_bytes ds) long (length-table_bytes ds) whole in (
      ap descriptor_in front ∙ descriptor_in-descriptor_bytes d (All-head Fits d ds fits),
      table_reads mem table (from + 1) count ds (omega arith) (All-tail Fits d ds fits) (ap (λ (a : ℕ). part mem a (16 * length ds)) (sym location) ∙ back),
    )
