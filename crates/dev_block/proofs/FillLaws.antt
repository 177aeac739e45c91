-- Zeros and a status over the writable bytes of a chain.
use Rattle.std.proofs.Common.{◌≡◌, ℕ, ◌+◌, ◌-◌, ◌≤◌, List, ◌++◌, length, take, replicate, IsTrue, sym, ◌∙◌, ap, arith}
use Rattle.std.proofs.lemmas.List.{take-replicate, replicate-append-replicate, length-replicate}
use Rattle.vq_common.specs.declared.chain.Piece.{Piece}
use Rattle.vq_common.specs.Piece.{keeps_rules}
use Rattle.vq_common.specs.Partial.{scatter_from}
use Rattle.dev_block.specs.Sectors.{zero_sector}
use Rattle.vq_common.proofs.RuleFacts.{rules_inside}
use Rattle.vq_common.proofs.PartialLaws.{scatter_from-nil, scatter_from-append}

-- the zeros of a sector
pub zero_part : (n : ℕ) → n ≤ 512 → take n zero_sector ≡ replicate n 0
unfolding zero_sector
zero_part n few = take-replicate n 512 0 few

-- no zeros yet
pub zeros_none : (from : ℕ) (mem : List ℕ) (ps : List Piece) → mem ≡ scatter_from from mem ps (replicate (from - from) 0)
zeros_none from mem ps =
    let none : from - from ≡ 0 = omega arith in
    rw none (sym (scatter_from-nil from mem ps))

-- bytes behind zeros
pub zeros_then : (from at : ℕ) (mem : List ℕ) (ps : List Piece) (bytes : List ℕ) → IsTrue (keeps_rules (length mem) ps) → from ≤ at
    → scatter_from at (scatter_from from mem ps (replicate (at - from) 0)) ps bytes ≡ scatter_from from mem ps (replicate (at - from) 0 ++ bytes)
zeros_then from at mem ps bytes rules le =
    let row : List ℕ = replicate (at - from) 0 in
    let size : length row ≡ at - from = length-replicate {A = ℕ} (at - from) 0 in
    let location : at ≡ from + length row = omega arith in
    ap (λ (k : ℕ). scatter_from k (scatter_from from mem ps row) ps bytes) location ∙ scatter_from-append from mem ps row bytes (rules_inside (length mem) ps rules)

-- more zeros
pub zeros_more : (from at count : ℕ) (mem : List ℕ) (ps : List Piece) → IsTrue (keeps_rules (length mem) ps) → from ≤ at
    → scatter_from at (scatter_from from mem ps (replicate (at - from) 0)) ps (replicate count 0) ≡ scatter_from from mem ps (replicate (at + count - from) 0)
zeros_more from at count mem ps rules le =
    let all : (at - from) + count ≡ at + count - from = omega arith in
    zeros_then from at mem ps (replicate count 0) rules le
    ∙ ap (scatter_from from mem ps) (replicate-append-replicate (at - from) count 0 ∙ ap (λ (k : ℕ). replicate {A = ℕ} k 0) all)
