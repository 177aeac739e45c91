-- Bytes that are written over the pieces of a buffer stand in one range.
use Rattle.std.proofs.Common.{◌≡◌, ℕ, zero, suc, ◌+◌, ◌≤◌, List, [], ◌∷◌, length, take, drop, inl, inr, sym, ◌∙◌, ap, arith, length-take}
use Rattle.std.specs.Prelude.{sum}
use Rattle.std.proofs.lemmas.Bool.{cases_lt}
use Rattle.std.proofs.lemmas.Grind.{common_steps}
use Rattle.std.proofs.lemmas.List.{take-append-drop}
use Rattle.std.proofs.lemmas.List.Sums.{sum_by-cons}
use Rattle.guest_mem.specs.Memory.{put_at}
use Rattle.guest_mem.proofs.Parts.{length-put_at}
use Rattle.guest_mem.proofs.Puts.{put_at-nil, put_at-put_at_next_at}
use Rattle.vq_common.specs.Piece.{scatter, pieces_from}
use Rattle.vq_split_pair.proofs.Pieces.{first_readable}

-- a short front that is written leaves nothing for what follows, a long one fills its piece
two_puts : (mem : List ℕ) (addr len : ℕ) (bytes : List ℕ) → addr ≤ length mem → put_at (put_at mem addr (take len bytes)) (addr + len) (drop len bytes) ≡ put_at mem addr bytes
two_puts mem addr len bytes inside =
    elim (cases_lt (length bytes) len) [
      | inl short ↦
          let none : drop len bytes ≡ [] = grind (arith, common_steps) in
          let all : take len bytes ≡ bytes = grind (arith, common_steps) in
          ap (λ w. put_at (put_at mem addr (take len bytes)) (addr + len) w) none ∙ put_at-nil (put_at mem addr (take len bytes)) (addr + len) ∙ ap (put_at mem addr) all
      | inr long ↦
          put_at-put_at_next_at mem addr (take len bytes) (drop len bytes) (addr + len) (omega (arith, length-take len bytes)) inside ∙ ap (put_at mem addr) (take-append-drop len bytes)
    ]

pub scatter_is_put : (mem : List ℕ) (addr count : ℕ) (lengths bytes : List ℕ) → length bytes ≤ sum (drop count lengths) → addr + sum lengths ≤ length mem
    → scatter mem (pieces_from addr count lengths) bytes ≡ put_at mem (addr + sum (take count lengths)) bytes
scatter_is_put mem addr zero [] [] few inside = sym (put_at-nil mem (addr + 0))
scatter_is_put mem addr zero [] (byte ∷ bytes) few inside = absurd (omega arith)
scatter_is_put mem addr (suc count) [] [] few inside = sym (put_at-nil mem (addr + 0))
scatter_is_put mem addr (suc count) [] (byte ∷ bytes) few inside = absurd (omega arith)
scatter_is_put mem addr zero (len ∷ lens) bytes few inside =
    let total : sum (len ∷ lens) ≡ len + sum lens = sum_by-cons (λ x. x) len lens in
    let first : List ℕ = put_at mem addr (take len bytes) in
    let long : length first ≡ length mem = length-put_at mem addr (take len bytes) (omega (arith, length-take len bytes)) in
    let left : length (drop len bytes) ≤ sum lens = grind (arith, common_steps) in
    let same : addr + len + 0 ≡ addr + len = omega arith in
    let same2 : addr ≡ addr + 0 = omega arith in
    scatter_is_put first (addr + len) zero lens (drop len bytes) left (omega arith)
    ∙ ap (λ (a : ℕ). put_at first a (drop len bytes)) same
    ∙ two_puts mem addr len bytes (omega arith)
    ∙ ap (λ (a : ℕ). put_at mem a bytes) same2
scatter_is_put mem addr (suc count) (len ∷ lens) bytes few inside =
    let total : sum (len ∷ lens) ≡ len + sum lens = sum_by-cons (λ x. x) len lens in
    let same : addr + len + sum (take count lens) ≡ addr + sum (len ∷ take count lens) = omega (arith, sum_by-cons (λ (x : ℕ). x) len (take count lens)) in
    ap (λ ps. scatter mem ps bytes) (first_readable addr count len lens)
    ∙ scatter_is_put mem (addr + len) count lens bytes few (omega arith)
    ∙ ap (λ (a : ℕ). put_at mem a bytes) same
