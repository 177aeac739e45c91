use Rattle.std.proofs.Common.{◌∷◌, [], ◌++◌, ◌-◌, ◌+◌, ◌*◌, sym, ◌∙◌, ap, arith, rules}
use Rattle.vq_common.specs.PackedDescriptor.{packed_piece_of}
use Rattle.vq_common.specs.Table.{packed_table}
use Rattle.vq_common.proofs.TableLaws.{length-packed_table, packed_step, pieces_with_many}
use Rattle.vq_common.proofs.indirect.add_packed_table.Goals as goal

pub returns-then-count-remaining_capacity : goal.returns-then-count-remaining_capacity
returns-then-count-remaining_capacity c =
    sym (pieces_with_many c.args.pieces.now.items (packed_table c.args.count c.args.mem.now.bytes c.args.addr)
    (omega (arith, length-packed_table c.args.count c.args.mem.now.bytes c.args.addr, c.remaining_capacity.ensures, c.if-count-remaining_capacity.true)))

pub packed-preserved : goal.packed-preserved
packed-preserved c = record {
  room = search rules;
  rest = c.packed.invariant.rest
      ∙ packed_step c.packed.pieces.items c.args.count c.packed.location c.args.addr c.args.mem.now.bytes c.packed-test.true
      ∙ ap (λ w. w ++ packed_table (c.args.count - (c.packed.location + 1)) c.args.mem.now.bytes (c.args.addr + 16 * (c.packed.location + 1)))
      (ap (λ d. c.packed.pieces.items ++ packed_piece_of d ∷ []) (sym c.in-Some.ensures.value) ∙ ap (λ p. c.packed.pieces.items ++ p ∷ []) (sym c.piece.ensures) ∙ sym c.push.ensures.items);
}
