use Rattle.std.proofs.Common.{◌≡◌, ℕ, ◌*◌, ◌≤◌, List, Bool, length, replicate, sum, sym, ◌∙◌, ap, subst, arith, lit≤}
use Rattle.std.proofs.lemmas.Grind.{common_steps}
use Rattle.std.proofs.lemmas.List.{length-replicate, take-replicate}
use Rattle.std.proofs.lemmas.List.Elements.{All-replicate}
use Rattle.vt_types.specs.Within.{IsPieceWithin}
use Rattle.vq_common.specs.Buffer.{IsPostable}
use Rattle.tests_rings.proofs.ends.buffer.Goals as goal

sum_of_twos : (n : ℕ) → sum (replicate n 2) ≡ 2 * n
sum_of_twos n = grind (arith, common_steps)

-- pieces of two bytes, the first of them readable, may be posted
pieces_of_two : (tag : ℕ) (indirect : Bool) (bytes cuts : List ℕ) (pieces readable : ℕ) → 1 ≤ pieces → pieces ≤ 8 → readable ≤ pieces → cuts ≡ replicate pieces 2 → length bytes ≡ 2 * readable
    → IsPostable (record { tag = tag; indirect = indirect; readable = bytes; lengths = cuts; readable_pieces = readable })
pieces_of_two tag indirect bytes cuts pieces readable some few inside e long =
    subst (λ (ls : List ℕ). IsPostable (record { tag = tag; indirect = indirect; readable = bytes; lengths = ls; readable_pieces = readable })) (sym e)
    (record {
      some = omega (arith, length-replicate {A = ℕ} pieces 2);
      few = omega (arith, length-replicate {A = ℕ} pieces 2);
      each = All-replicate {X = ℕ} IsPieceWithin pieces 2 (record { low = lit≤ tt; high = lit≤ tt });
      total = omega (arith, sum_of_twos pieces);
      split = omega (arith, length-replicate {A = ℕ} pieces 2);
      readable = long ∙ sym (ap sum (take-replicate readable pieces 2 inside) ∙ sum_of_twos readable);
    })

pub returns-clause-postable : goal.returns-clause-postable
returns-clause-postable c =
    let all : c.pieces._piece ≡ c.args.pieces = omega (arith, c.pieces-test.false, c.pieces.auto._piece-end) in
    pieces_of_two _ _ _ _ c.args.pieces _ c.requires.some c.requires.few c.requires.readable (c.pieces.invariant ∙ ap (λ (n : ℕ). replicate n 2) all) c.in_ok-bytes.ensures
