use Rattle.std.proofs.Common.{◌≡◌, ℕ, Some, ◌+◌, ◌++◌, ◌-◌, [], ◌∷◌, length, true, false, sym, ◌∙◌, ap, arith, rules}
use Rattle.std.proofs.lemmas.Grind.{common_steps}
use Rattle.vq_common.specs.declared.position.Position.{Position}
use Rattle.vq_common.specs.Chain.{chain_if_valid}
use Rattle.vq_common.specs.Descriptor.{has_next, is_indirect}
use Rattle.vq_common.specs.PackedDescriptor.{packed_piece_of}
use Rattle.vq_common.specs.Position.{location_after}
use Rattle.vq_common.proofs.PositionLaws.{location_after-inside}
use Rattle.vq_packed_dev.specs.Walk.{packed_chain_from}
use Rattle.vq_packed_dev.proofs.ChainLaws.{joined, joined_start, joined_indirect, joined_last, joined_next, joined_full, joined_past}
use Rattle.vq_packed_dev.proofs.walk.add_pieces_from.Goals as goal

pub descriptors-init : goal.descriptors-init
descriptors-init c =
    let none : c.args.pieces.now.items ≡ [] = c.requires.none in
    record {
      count = ap length none;
      location = c.requires.location;
      next = c.requires.first;
      whole = joined_start c.args.mem.now.bytes c.args.cfg.now c.args.first_position.location c.args.first (omega arith) c.requires.first c.requires.direct
          ∙ ap (λ ps. joined c.args.mem.now.bytes c.args.cfg.now 0 ps (packed_chain_from (c.args.cfg.now.size - 0) c.args.mem.now.bytes c.args.cfg.now c.args.first_position.location)) (sym none);
    }

pub returns-then-is_indirect : goal.returns-then-is_indirect
returns-then-is_indirect c =
    sym (c.descriptors.invariant.whole
    ∙ joined_indirect c.args.mem.now.bytes c.args.cfg.now c.descriptors.index c.descriptors.pieces.items c.descriptors.position.location c.descriptors.next
    c.descriptors-test.true c.descriptors.invariant.next (search rules))

pub returns-then-is_err : goal.returns-then-is_err
returns-then-is_err c =
    let direct : is_indirect c.descriptors.next.flags ≡ false = cc in
    sym (c.descriptors.invariant.whole
    ∙ joined_full c.args.mem.now.bytes c.args.cfg.now c.descriptors.index c.descriptors.pieces.items c.descriptors.position.location c.descriptors.next
    c.descriptors-test.true c.descriptors.invariant.next direct (search (rules, common_steps)))

pub returns-then-not-has_next : goal.returns-then-not-has_next
returns-then-not-has_next c =
    let direct : is_indirect c.descriptors.next.flags ≡ false = cc in
    let last : has_next c.descriptors.next.flags ≡ false = search rules in
    let items : c.try_push.new.self.items ≡ c.descriptors.pieces.items ++ packed_piece_of c.descriptors.next ∷ [] = search rules in
    ap (λ ps. chain_if_valid (length c.args.mem.now.bytes) c.descriptors.next.id (c.descriptors.index + 1) (Some ps)) items
    ∙ sym (c.descriptors.invariant.whole
    ∙ joined_last c.args.mem.now.bytes c.args.cfg.now c.descriptors.index c.descriptors.pieces.items c.descriptors.position.location c.descriptors.next
    c.descriptors-test.true c.descriptors.invariant.next direct last)

pub descriptors-preserved : goal.descriptors-preserved
descriptors-preserved c =
    let size : ℕ = c.args.cfg.now.size in
    let direct : is_indirect c.descriptors.next.flags ≡ false = cc in
    let more : has_next c.descriptors.next.flags ≡ true = search rules in
    let items : c.try_push.new.self.items ≡ c.descriptors.pieces.items ++ packed_piece_of c.descriptors.next ∷ [] = search rules in
    let location : c.advance-position.result.location ≡ location_after size c.descriptors.position.location 1 = ap (λ (p : Position). p.location) c.advance-position.ensures in
    record {
      count = search rules;
      location = rw location (location_after-inside size c.descriptors.position.location 1 c.descriptors.invariant.location (omega arith));
      next = c.descriptor_at-next.ensures;
      whole = c.descriptors.invariant.whole
          ∙ joined_next c.args.mem.now.bytes c.args.cfg.now c.descriptors.index c.descriptors.pieces.items c.descriptors.position.location c.descriptors.next
          c.descriptors-test.true c.descriptors.invariant.next direct more
          ∙ ap (λ ps. joined c.args.mem.now.bytes c.args.cfg.now (c.descriptors.index + 1) ps
          (packed_chain_from (size - (c.descriptors.index + 1)) c.args.mem.now.bytes c.args.cfg.now (location_after size c.descriptors.position.location 1))) (sym items)
          ∙ ap (λ n. joined c.args.mem.now.bytes c.args.cfg.now (c.descriptors.index + 1) c.try_push.new.self.items
          (packed_chain_from (size - (c.descriptors.index + 1)) c.args.mem.now.bytes c.args.cfg.now n)) (sym location);
    }

pub returns : goal.returns
returns c =
    sym (c.descriptors.invariant.whole
    ∙ joined_past c.args.mem.now.bytes c.args.cfg.now c.descriptors.index c.descriptors.pieces.items c.descriptors.position.location c.descriptors-test.false)
