-- Bytes of a configuration from a location on.
use Rattle.std.proofs.Common.{◌≡◌, ℕ, zero, suc, ◌+◌, List, [], ◌∷◌, ◌++◌, get_or, refl, ap, arith}
use Rattle.dev_core.specs.Config.{bytes_at}

-- one more byte is the next one
pub bytes_at-more : (bytes : List ℕ) (at n : ℕ) → bytes_at bytes at (n + 1) ≡ bytes_at bytes at n ++ get_or bytes (at + n) 0 ∷ []
bytes_at-more bytes at zero =
    let here : at + 0 ≡ at = omega arith in
    rw here refl
bytes_at-more bytes at (suc n) =
    let there : at + suc n ≡ at + 1 + n = omega arith in
    let more : suc n + 1 ≡ suc (n + 1) = omega arith in
    rw (more, there) (ap (λ (rest : List ℕ). get_or bytes at 0 ∷ rest) (bytes_at-more bytes (at + 1) n))
