-- Chains that a ring shows.
use Rattle.std.proofs.Common.{◌≡◌, ℕ, ◌<◌, List, [], ◌∷◌, ◌++◌, length, Option, Some, None, Bool, true, false, IsTrue, refl, sym, ap, subst, arith, append_assoc, length-append}
use Rattle.std.specs.Prelude.{◌&&◌, nat_le, option_map, if◌then◌else◌}
use Rattle.std.specs.List.{list_all}
use Rattle.std.proofs.lemmas.Bool.{and_left, and_right}
use Rattle.std.proofs.lemmas.Bool.Decides.{nat_tests}
use Rattle.vq_common.specs.declared.chain.Piece.{Piece}
use Rattle.vq_common.specs.Chain.{ChainValue, Walked, Empty, Bad, Front, chain_if_valid}
use Rattle.vq_common.specs.Piece.{keeps_rules, is_piece, length_of_all, is_readable_first}

-- a chain shown under a condition is shown, and the condition holds
pub shown_if : (b : Bool) (w : Walked) (c : ChainValue) → (if b then w else Bad) ≡ Front c → IsTrue b × (w ≡ Front c)
shown_if true w c is = (refl, is)
shown_if false w c is = absurd (cc)

-- a chain shown where the ring would be empty under a condition
pub shown_unless_empty : (b : Bool) (w : Walked) (c : ChainValue) → (if b then Empty else w) ≡ Front c → w ≡ Front c
shown_unless_empty true w c is = absurd (cc)
shown_unless_empty false w c is = is

-- the same where it is empty otherwise
pub shown_else_empty : (b : Bool) (w : Walked) (c : ChainValue) → (if b then w else Empty) ≡ Front c → w ≡ Front c
shown_else_empty true w c is = is
shown_else_empty false w c is = absurd (cc)

-- the same where it is malformed
pub shown_unless_bad : (b : Bool) (w : Walked) (c : ChainValue) → (if b then Bad else w) ≡ Front c → w ≡ Front c
shown_unless_bad true w c is = absurd (cc)
shown_unless_bad false w c is = is

-- a chain that is shown keeps the rules, and has the locations that it was given
pub valid_is_shown : (memory id slots : ℕ) (o : Option (List Piece)) (c : ChainValue) → chain_if_valid memory id slots o ≡ Front c
    → IsTrue (keeps_rules memory c.pieces) × (c.slots ≡ slots)
valid_is_shown memory id slots None c is = absurd (cc)
valid_is_shown memory id slots (Some ps) c is =
    let v : ChainValue = record { id = id; slots = slots; pieces = ps } in
    let (rules, front) = shown_if (keeps_rules memory ps) (Front v) c is in
    let same : v ≡ c = cc in
    subst (λ (x : ChainValue). IsTrue (keeps_rules memory x.pieces) × (x.slots ≡ slots)) same (rules, refl)

and_second : (a b x y z : Bool) → b ≡ false → (a && b && x && y && z) ≡ false
and_second a b x y z no_second = and_left (a && b && x && y) z (and_left (a && b && x) y (and_left (a && b) x (and_right a b no_second)))

-- more than eight pieces keep no rules
pub too_many : (memory id slots : ℕ) (ps : List Piece) → 8 < length ps → chain_if_valid memory id slots (Some ps) ≡ Bad
too_many memory id slots ps many =
    let few : nat_le (length ps) 8 ≡ false = grind (arith, nat_tests) in
    let rules : keeps_rules memory ps ≡ false = and_second (nat_le 1 (length ps)) (nat_le (length ps) 8) (list_all (is_piece memory) ps) (nat_le (length_of_all ps) 8192) (is_readable_first ps) few in
    rw rules refl

-- nor do more pieces behind them help
pub too_many_before : (memory id slots : ℕ) (ps : List Piece) (o : Option (List Piece)) → 8 < length ps → chain_if_valid memory id slots (option_map (λ more. ps ++ more) o) ≡ Bad
too_many_before memory id slots ps None many = refl
too_many_before memory id slots ps (Some more) many = too_many memory id slots (ps ++ more) (omega (arith, length-append ps more))

-- no pieces before others
pub mapped_nil : (o : Option (List Piece)) → option_map (λ more. [] ++ more) o ≡ o
mapped_nil None = refl
mapped_nil (Some ps) = refl

-- pieces before a piece and others
pub mapped_cons : (ps : List Piece) (p : Piece) (o : Option (List Piece)) → option_map (λ more. ps ++ more) (option_map (λ more. p ∷ more) o) ≡ option_map (λ more. (ps ++ p ∷ []) ++ more) o
mapped_cons ps p None = refl
mapped_cons ps p (Some more) = ap Some (sym (append_assoc ps (p ∷ []) more))
