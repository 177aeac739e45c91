-- Memory that is all zeros.
use Rattle.std.proofs.Common.{◌≡◌, ℕ, ◌+◌, ◌-◌, ◌≤◌, List, ◌++◌, take, drop, replicate, ◌∙◌, ap, arith}
use Rattle.std.proofs.lemmas.List.{take-replicate, drop-replicate, replicate-append-replicate, length-replicate}
use Rattle.guest_mem.specs.Memory.{part, put_at}

-- a part of zeros is zeros
pub part-replicate : (k a n : ℕ) → a + n ≤ k → part {A = ℕ} (replicate k 0) a n ≡ replicate n 0
part-replicate k a n inside = ap (take n) (drop-replicate a k 0) ∙ take-replicate n (k - a) 0 (omega arith)

-- zeros put among zeros change nothing
pub put_at-replicate : (k a n : ℕ) → a + n ≤ k → put_at {A = ℕ} (replicate k 0) a (replicate n 0) ≡ replicate k 0
put_at-replicate k a n inside =
    let rest : ℕ = k - (a + n) in
    ap (λ (j : ℕ). take a (replicate k 0) ++ replicate n 0 ++ drop (a + j) (replicate k 0)) (length-replicate n 0)
    ∙ ap (λ (w : List ℕ). w ++ replicate n 0 ++ drop (a + n) (replicate k 0)) (take-replicate a k 0 (omega arith))
    ∙ ap (λ (w : List ℕ). replicate a 0 ++ replicate n 0 ++ w) (drop-replicate (a + n) k 0)
    ∙ ap (λ (w : List ℕ). w ++ replicate rest 0) (replicate-append-replicate a n 0)
    ∙ replicate-append-replicate (a + n) rest 0
    ∙ ap (λ (j : ℕ). replicate j 0) (omega arith)
