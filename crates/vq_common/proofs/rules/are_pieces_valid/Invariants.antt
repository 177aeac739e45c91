use Rattle.std.proofs.Common.{◌≡◌, ◌*◌, ◌≤◌, drop}
use Rattle.vq_common.specs.Piece.{keeps_rules}
use Rattle.vq_common.proofs.RuleFacts.{rules_left}
use Rattle.vq_common.proofs.rules.are_pieces_valid.Given as goal

abbrev pub invariant-pieces : goal.invariant-pieces
invariant-pieces l = record {
  bound : l.total ≤ 4096 * l.piece-index;
  rest : keeps_rules l.memory l.pieces ≡ rules_left l.memory l.total l.writable (drop l.piece-index l.pieces);
}
