use Rattle.std.proofs.Common.{◌≡◌, ℕ, ◌+◌, ◌-◌, List, ◌++◌, length, get_or, drop, ap, ◌∙◌, sym, append_assoc, arith, length-append}
use Rattle.std.specs.Prelude.{IsOk}
use Rattle.std.proofs.lemmas.Grind.{common_steps}
use Rattle.vq_common.specs.Descriptor.{descriptor_bytes}
use Rattle.vq_common.proofs.Results.{on_ok_at}
use Rattle.vq_posted.specs.Free.{numbers}
use Rattle.vq_split_drv.specs.Post.{descriptor_of, descriptors_of, location_after, table_bytes}
use Rattle.vq_split_drv.proofs.Described.{table_next}
use Rattle.vq_split_drv.proofs.pieces.add_table.Goals as goal

pub pieces-preserved : goal.pieces-preserved
pieces-preserved c =
    let old : List ℕ = c.pieces.table.items in
    let lengths : List ℕ = c.args.lengths.now in
    let i : ℕ = c.pieces.i in
    let addr : ℕ = c.pieces.pieces.addr in
    let readable : ℕ = c.pieces.pieces.readable in
    let after : ℕ → ℕ → List ℕ = λ a r. table_bytes (descriptors_of a r (drop (i + 1) lengths) (numbers (i + 1 + 1) (length lengths - (i + 1)))) in
    let rest : List ℕ = after (addr + get_or lengths i 0) (readable - 1) in
    let sixteen : length c.to_bytes.result ≡ 16 = ap length c.to_bytes.ensures in
    let ok : IsOk c.try_extend_from_slice-fits.result = c.try_extend_from_slice-fits.ensures.variant.1 (omega arith) in
    let items : c.try_extend_from_slice-fits.new.self.items ≡ old ++ c.to_bytes.result = on_ok_at c.try_extend_from_slice-fits.result ok c.try_extend_from_slice-fits.ensures.ok in
    let bytes : c.to_bytes.result ≡ descriptor_bytes (descriptor_of addr readable (get_or lengths i 0) (location_after i (length lengths)))
    = c.to_bytes.ensures ∙ ap descriptor_bytes (c.describe-descriptor.ensures.descriptor ∙ ap (descriptor_of addr readable (get_or lengths i 0)) c.next_location.ensures)
    in
    record {
      long = ap length items ∙ length-append old c.to_bytes.result ∙ omega arith;
      fits = grind (arith, common_steps, c.pieces.invariant.fits);
      whole =
          ap (λ (a : ℕ). c.try_extend_from_slice-fits.new.self.items ++ after a c.describe-descriptor.new.pieces.readable) c.describe-descriptor.ensures.addr
          ∙ ap (λ (r : ℕ). c.try_extend_from_slice-fits.new.self.items ++ after (addr + get_or lengths i 0) r) c.describe-descriptor.ensures.readable
          ∙ ap (λ (w : List ℕ). w ++ rest) items
          ∙ append_assoc old c.to_bytes.result rest
          ∙ ap (λ (w : List ℕ). old ++ (w ++ rest)) bytes
          ∙ ap (λ (w : List ℕ). old ++ w) (sym (table_next addr readable lengths i c.pieces-test.true))
          ∙ c.pieces.invariant.whole;
    }
