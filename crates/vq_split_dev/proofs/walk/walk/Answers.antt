use Rattle.std.proofs.Common.{◌≡◌, ◌+◌, ◌-◌, [], ◌∷◌, length, true, false, Some, sym, ◌∙◌, ap}
use Rattle.vq_common.specs.Descriptor.{chain_from, descriptor_at}
use Rattle.vq_common.specs.Table.{pieces_if, pieces_with}
use Rattle.vq_common.specs.Chain.{chain_if_valid}
use Rattle.vq_split_dev.specs.Walk.{chain_pieces}
use Rattle.vq_split_dev.proofs.ChainLaws.{joined, ends_with_piece, ends_with_table, fails_here, goes_on}
use Rattle.vq_split_dev.proofs.walk.walk.Goals as goal

pub returns-in-End : goal.returns-in-End
returns-in-End c =
    let (adds, last) = c.in-End.ensures in
    c.descriptors.invariant
    ∙ ends_with_piece c.args.mem.now.bytes c.args.cfg.now c.args.head c.descriptors.index c.descriptors.pieces.items c.descriptors.location c.descriptors-test.true adds.within adds.direct last
    ∙ ap (λ ps. chain_if_valid (length c.args.mem.now.bytes) c.args.head (c.descriptors.index + 1) (Some ps)) (sym adds.pieces)

pub returns-then-added : goal.returns-then-added
returns-then-added c =
    let (names, named) = c.in-Table.ensures in
    let added : pieces_if true c.add_last_table-added.new.pieces.items ≡ pieces_with c.descriptors.pieces.items (chain_pieces c.args.mem.now.bytes c.args.cfg.now (descriptor_at c.args.mem.now.bytes c.args.cfg.now.desc c.descriptors.location ∷ [])) =
    ap (λ b. pieces_if b c.add_last_table-added.new.pieces.items) (sym c.if-added.true)
    ∙ c.add_last_table-added.ensures
    ∙ ap (λ ps. pieces_with ps (chain_pieces c.args.mem.now.bytes c.args.cfg.now (c.in-Table.last ∷ []))) names.pieces
    ∙ ap (λ d. pieces_with c.descriptors.pieces.items (chain_pieces c.args.mem.now.bytes c.args.cfg.now (d ∷ []))) named in
    c.descriptors.invariant
    ∙ ends_with_table c.args.mem.now.bytes c.args.cfg.now c.args.head c.descriptors.index c.descriptors.pieces.items c.add_last_table-added.new.pieces.items c.descriptors.location true
    c.descriptors-test.true names.within names.indirect added

pub returns-else-added : goal.returns-else-added
returns-else-added c =
    let (names, named) = c.in-Table.ensures in
    let added : pieces_if false c.add_last_table-added.new.pieces.items ≡ pieces_with c.descriptors.pieces.items (chain_pieces c.args.mem.now.bytes c.args.cfg.now (descriptor_at c.args.mem.now.bytes c.args.cfg.now.desc c.descriptors.location ∷ [])) =
    ap (λ b. pieces_if b c.add_last_table-added.new.pieces.items) (sym c.if-added.false)
    ∙ c.add_last_table-added.ensures
    ∙ ap (λ ps. pieces_with ps (chain_pieces c.args.mem.now.bytes c.args.cfg.now (c.in-Table.last ∷ []))) names.pieces
    ∙ ap (λ d. pieces_with c.descriptors.pieces.items (chain_pieces c.args.mem.now.bytes c.args.cfg.now (d ∷ []))) named in
    c.descriptors.invariant
    ∙ ends_with_table c.args.mem.now.bytes c.args.cfg.now c.args.head c.descriptors.index c.descriptors.pieces.items c.add_last_table-added.new.pieces.items c.descriptors.location false
    c.descriptors-test.true names.within names.indirect added

pub returns-in-Bad : goal.returns-in-Bad
returns-in-Bad c =
    let (cause, same) = c.in-Bad.ensures in
    c.descriptors.invariant
    ∙ fails_here c.args.mem.now.bytes c.args.cfg.now c.args.head c.descriptors.index c.descriptors.pieces.items c.descriptors.location c.descriptors-test.true cause

pub descriptors-preserved : goal.descriptors-preserved
descriptors-preserved c =
    let (adds, more, next) = c.in-Next.ensures in
    c.descriptors.invariant
    ∙ goes_on c.args.mem.now.bytes c.args.cfg.now c.args.head c.descriptors.index c.descriptors.pieces.items c.descriptors.location c.descriptors-test.true adds.within adds.direct more
    ∙ ap (λ ps. joined c.args.mem.now.bytes c.args.cfg.now c.args.head (c.descriptors.index + 1) ps
    (chain_from (c.args.cfg.now.size - (c.descriptors.index + 1)) c.args.mem.now.bytes c.args.cfg.now.desc c.args.cfg.now.size (descriptor_at c.args.mem.now.bytes c.args.cfg.now.desc c.descriptors.location).next))
    (sym adds.pieces)
    ∙ ap (λ n. joined c.args.mem.now.bytes c.args.cfg.now c.args.head (c.descriptors.index + 1) c.take.new.pieces.items
    (chain_from (c.args.cfg.now.size - (c.descriptors.index + 1)) c.args.mem.now.bytes c.args.cfg.now.desc c.args.cfg.now.size n))
    (sym next)
