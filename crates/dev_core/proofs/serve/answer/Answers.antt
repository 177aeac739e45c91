use Rattle.std.proofs.Common.{arith, ◌≤◌, ◌≡◌, ◌∙◌, length, ap, List, ℕ}
use Rattle.vq_common.specs.Piece.{readable}
use Rattle.vq_common.proofs.PieceLaws.{length-scatter}
use Rattle.vq_common.proofs.RuleFacts.{rules_inside}
use Rattle.dev_console.proofs.ConsoleLaws.{readable_fits}
use Rattle.dev_core.proofs.ServeLaws.{serves-spare}
use Rattle.dev_core.proofs.serve.answer.Goals as goal

pub serve_chain-len-requires-clause-spare : goal.serve_chain-len-requires-clause-spare
serve_chain-len-requires-clause-spare c =
    let few : length (readable c.args.mem.now.bytes c.args.chain.now.pieces.items) ≤ 8192 = readable_fits c.args.mem.now.bytes c.args.chain.now.pieces.items c.requires.chain.rules in
    λ _. omega arith

pub give-requires-clause-areas : goal.give-requires-clause-areas
give-requires-clause-areas c =
    let long : length c.serve_chain-len.new.mem.bytes ≡ length c.args.mem.now.bytes =
    ap (λ (m : List ℕ). length m) c.serve_chain-len.ensures.serves.memory ∙ length-scatter c.args.mem.now.bytes c.args.chain.now.pieces.items _ (rules_inside (length c.args.mem.now.bytes) c.args.chain.now.pieces.items c.requires.chain.rules) in
    rw long c.requires.chain.areas

pub returns-then-give-clause-console : goal.returns-then-give-clause-console
returns-then-give-clause-console c = serves-spare c.args.number c.args.mem.now.bytes c.serve_chain-len.new.mem.bytes c.args.chain.now.pieces.items c.args.state.now c.serve_chain-len.new.state c.serve_chain-len.result c.requires.chain.rules c.serve_chain-len.ensures.serves

pub returns-else-give-clause-console : goal.returns-else-give-clause-console
returns-else-give-clause-console c = serves-spare c.args.number c.args.mem.now.bytes c.serve_chain-len.new.mem.bytes c.args.chain.now.pieces.items c.args.state.now c.serve_chain-len.new.state c.serve_chain-len.result c.requires.chain.rules c.serve_chain-len.ensures.serves
