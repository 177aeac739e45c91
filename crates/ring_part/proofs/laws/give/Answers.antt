use Rattle.std.proofs.Common.{◌≡◌, ℕ, length, IsTrue, sym, ◌∙◌, ap, subst}
use Rattle.vq_common.specs.Chain.{chain_value}
use Rattle.vq_common.proofs.PieceLaws.{length-scatter}
use Rattle.vq_common.proofs.RuleFacts.{rules_inside}
use Rattle.vq_split_dev.specs.Give.{split_given}
use Rattle.vq_split_dev.specs.Walk.{split_areas_inside}
use Rattle.ring_part.proofs.CallLaws.{give_keeps}
use Rattle.ring_part.proofs.laws.give.Goals as goal

pub give-requires-clause-areas : goal.give-requires-clause-areas
give-requires-clause-areas c =
    let long : length c.scatter.new.mem.bytes ≡ length c.args.mem.now.bytes
    = ap length c.scatter.ensures.bytes ∙ length-scatter c.args.mem.now.bytes c.args.chain.now.pieces.items c.args.bytes.now (rules_inside (length c.args.mem.now.bytes) c.args.chain.now.pieces.items c.requires.rules)
    in
    subst (λ (n : ℕ). IsTrue (split_areas_inside n c.args.device.now.cfg)) (sym long) c.requires.areas

pub returns : goal.returns
returns c =
    give_keeps c.args.mem.now.bytes c.args.device.now (chain_value c.args.chain.now) c.args.bytes.now c.give.result c.give.new.self c.give.new.mem.bytes
    (ap (λ mem. split_given mem c.args.device.now (chain_value c.args.chain.now) (length c.args.bytes.now)) (sym c.scatter.ensures.bytes) ∙ c.give.ensures.gives)
