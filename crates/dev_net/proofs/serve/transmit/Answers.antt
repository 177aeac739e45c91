use Rattle.std.proofs.Common.{◌≡◌, ◌∙◌, ℕ, List, IsTrue, length, ap, arith}
use Rattle.vq_common.specs.declared.chain.Piece.{Piece}
use Rattle.vq_common.specs.Piece.{keeps_rules, readable, readable_len}
use Rattle.vq_common.proofs.RuleFacts.{readable_len-le, rules_inside}
use Rattle.vq_common.proofs.PieceLaws.{length-readable}
use Rattle.dev_net.specs.Network.{NetworkState}
use Rattle.dev_net.proofs.FrameLaws.{with_sent-frame, with_sent-short}
use Rattle.dev_net.proofs.serve.transmit.Goals as goal

-- there are as many readable bytes as the pieces say
readable_size : (mem : List ℕ) (ps : List Piece) → IsTrue (keeps_rules (length mem) ps) → length (readable mem ps) ≡ readable_len ps
readable_size mem ps rules = length-readable mem ps (rules_inside (length mem) ps rules)

pub readable_len-size-requires : goal.readable_len-size-requires
readable_len-size-requires c = omega (arith, readable_len-le (length c.args.mem.now.bytes) c.args.chain.now.pieces.items c.requires.rules)

pub send-requires-clause-few : goal.send-requires-clause-few
send-requires-clause-few c = omega (arith, readable_len-le (length c.args.mem.now.bytes) c.args.chain.now.pieces.items c.requires.rules, c.readable_len-size.ensures)

pub returns-then-size-ge-HEADER_SIZE-clause-sent : goal.returns-then-size-ge-HEADER_SIZE-clause-sent
returns-then-size-ge-HEADER_SIZE-clause-sent c =
    ap (λ (s : NetworkState). s.sent) c.send.ensures
    ∙ with_sent-frame _ _ _ (omega (arith, readable_size c.args.mem.now.bytes c.args.chain.now.pieces.items c.requires.rules, c.readable_len-size.ensures, c.if-size-ge-HEADER_SIZE.true))

pub returns-else-size-ge-HEADER_SIZE-clause-sent : goal.returns-else-size-ge-HEADER_SIZE-clause-sent
returns-else-size-ge-HEADER_SIZE-clause-sent c =
    with_sent-short _ _ (omega (arith, readable_size c.args.mem.now.bytes c.args.chain.now.pieces.items c.requires.rules, c.readable_len-size.ensures, c.if-size-ge-HEADER_SIZE.false))
