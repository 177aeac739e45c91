-- What is read of a request.
use Rattle.std.proofs.Common.{◌≡◌, ℕ, suc, ◌+◌, ◌-◌, ◌*◌, ◌≤◌, ◌<◌, List, [], ◌∷◌, ◌++◌, length, IsTrue, arith, append_assoc}
use Rattle.guest_mem.specs.Memory.{part}
use Rattle.vq_common.specs.declared.chain.Piece.{Piece}
use Rattle.vq_common.specs.Piece.{keeps_rules, readable, readable_len}
use Rattle.vq_common.proofs.RuleFacts.{rules_inside, readable_len-le}
use Rattle.vq_common.proofs.PieceLaws.{length-readable}
use Rattle.dev_block.specs.declared.request.Segment.{Segment}
use Rattle.dev_block.specs.Request.{segment_in, segments_at}

-- a chain that keeps the rules has all its readable bytes
pub readable_size : (mem : List ℕ) (ps : List Piece) → IsTrue (keeps_rules (length mem) ps) → length (readable mem ps) ≡ readable_len ps
readable_size mem ps rules = length-readable mem ps (rules_inside (length mem) ps rules)

-- which are at most 8,192
pub readable_few : (mem : List ℕ) (ps : List Piece) → IsTrue (keeps_rules (length mem) ps) → readable_len ps ≤ 8192
readable_few mem ps rules = readable_len-le (length mem) ps rules

-- one segment more is read
pub segments_step : (xs ys : List Segment) (count i : ℕ) (bytes : List ℕ) → i < count → ys ≡ xs ++ segment_in (part bytes (16 + 16 * i) 16) ∷ []
    → ys ++ segments_at (count - (i + 1)) bytes (16 + 16 * (i + 1)) ≡ xs ++ segments_at (count - i) bytes (16 + 16 * i)
segments_step xs ys count i bytes within more =
    let left : count - i ≡ suc (count - (i + 1)) = omega arith in
    let location : 16 + 16 * (i + 1) ≡ 16 + 16 * i + 16 = omega arith in
    rw (more, left, location) (append_assoc xs (segment_in (part bytes (16 + 16 * i) 16) ∷ []) (segments_at (count - (i + 1)) bytes (16 + 16 * i + 16)))
