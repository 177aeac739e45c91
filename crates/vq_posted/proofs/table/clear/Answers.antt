use Rattle.std.proofs.Common.{◌≡◌, ◌+◌, ◌<◌, ◌∷◌, ◌++◌, [], ℕ, List, suc, zero, Option, None, replicate, drop, length, refl, ap, ◌∙◌, sym, arith}
use Rattle.std.specs.Prelude.{slice_set}
use Rattle.vq_posted.specs.declared.entry.Posted.{Posted}
use Rattle.vq_posted.proofs.table.clear.Goals as goal

-- one more location is cleared
one_more : {X : Type 0} (xs : List X) (x : X) (i : ℕ) → i < length xs → slice_set (replicate i x ++ drop i xs) i x ≡ replicate (i + 1) x ++ drop (i + 1) xs
one_more [] x i inside = absurd (omega arith)
one_more (y ∷ xs) x zero inside = refl
one_more (y ∷ xs) x (suc i) inside =
    let e : suc i + 1 ≡ suc (i + 1) = omega arith in
    ap (λ zs. x ∷ zs) (one_more xs x i (omega arith)) ∙ ap (λ (k : ℕ). replicate k x ++ drop k (y ∷ xs)) (sym e)

pub locations-preserved : goal.locations-preserved
locations-preserved c =
    ap (λ (ps : List (Option Posted)). slice_set ps c.locations.location-index None) c.locations.invariant
    ∙ one_more c.args.locations.now None c.locations.location-index (omega arith)
