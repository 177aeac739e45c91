-- The pieces of a posted buffer.
use Rattle.std.proofs.Common.{ℕ, ◌+◌, ◌^◌, ◌<◌, ◌≤◌, List, arith}
use Rattle.std.specs.Prelude.{All, sum}
use Rattle.std.proofs.lemmas.List.Elements.{All-weaker}
use Rattle.vt_types.specs.Operation.{PostedBuffer}
use Rattle.vq_common.specs.declared.chain.Piece.{Piece}
use Rattle.vq_common.specs.Buffer.{IsPostable}
use Rattle.vq_common.specs.Piece.{pieces_from}
use Rattle.vq_common.proofs.RuleFacts.{IsPiece, rules_facts}
use Rattle.vq_split_pair.proofs.Pieces.{pieces_keep_rules}

-- address and length of a piece fit their widths in a descriptor
pub record FitsDescriptor (p : Piece) : Type 0 where
  pub addr : p.addr < 2 ^ 64
  pub len : p.len < 2 ^ 32

-- each piece of a posted buffer fits a descriptor
pub posted_fit : (addr : ℕ) (b : PostedBuffer) → IsPostable b → addr + sum b.lengths < 2 ^ 64 → All FitsDescriptor (pieces_from addr b.readable_pieces b.lengths)
posted_fit addr b postable low =
    let end : ℕ = addr + sum b.lengths in
    let ps : List Piece = pieces_from addr b.readable_pieces b.lengths in
    All-weaker (IsPiece end) FitsDescriptor (λ p is.
    let few : p.len ≤ 4096 = is.few in
    let inside : p.addr + p.len ≤ end = is.inside in
    let some : 1 ≤ p.len = is.some in
    record { addr = omega arith; len = omega arith }) ps (rules_facts end ps (pieces_keep_rules end addr b postable (omega arith))).each
