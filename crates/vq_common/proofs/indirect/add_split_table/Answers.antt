use Rattle.std.proofs.Common.{inl, inr, ◌-◌, ◌+◌, sym, ◌∙◌, ap, Some}
use Rattle.vq_common.specs.Descriptor.{chain_from, descriptor_at}
use Rattle.vq_common.specs.Table.{pieces_if_direct, pieces_with}
use Rattle.vq_common.proofs.TableLaws.{table_indirect, table_last, table_more, table_fails}
use Rattle.vq_common.proofs.indirect.add_split_table.Goals as goal

pub returns-in-End : goal.returns-in-End
returns-in-End c =
    let (adds, last) = c.in-End.ensures in
    sym (c.walk.invariant
    ∙ table_last c.walk.pieces.items c.args.count c.walk._walked c.walk.location c.args.addr c.args.count c.args.mem.now.bytes c.walk-test.true adds.within adds.direct last adds.room
    ∙ ap Some (sym adds.pieces))

pub returns-in-Table : goal.returns-in-Table
returns-in-Table c =
    let (names, named) = c.in-Table.ensures in
    sym (c.walk.invariant
    ∙ table_indirect c.walk.pieces.items c.args.count c.walk._walked c.walk.location c.args.addr c.args.count c.args.mem.now.bytes c.walk-test.true names.within names.indirect)

pub returns-in-Bad : goal.returns-in-Bad
returns-in-Bad c =
    let (cause, same) = c.in-Bad.ensures in
    sym (c.walk.invariant
    ∙ elim cause [
      | inl past ↦ table_fails c.walk.pieces.items (c.args.count - c.walk._walked) c.walk.location c.args.addr c.args.count c.args.mem.now.bytes (inl past)
      | inr full ↦ table_fails c.walk.pieces.items (c.args.count - c.walk._walked) c.walk.location c.args.addr c.args.count c.args.mem.now.bytes (inr full.1)
    ])

pub walk-preserved : goal.walk-preserved
walk-preserved c =
    let (adds, more, next) = c.in-Next.ensures in
    c.walk.invariant
    ∙ table_more c.walk.pieces.items c.args.count c.walk._walked c.walk.location c.args.addr c.args.count c.args.mem.now.bytes c.walk-test.true adds.within adds.direct more
    ∙ ap (λ ps. pieces_with ps (pieces_if_direct (chain_from (c.args.count - (c.walk._walked + 1)) c.args.mem.now.bytes c.args.addr c.args.count (descriptor_at c.args.mem.now.bytes c.args.addr c.walk.location).next)))
    (sym adds.pieces)
    ∙ ap (λ n. pieces_with c.take.new.pieces.items (pieces_if_direct (chain_from (c.args.count - (c.walk._walked + 1)) c.args.mem.now.bytes c.args.addr c.args.count n))) (sym next)
