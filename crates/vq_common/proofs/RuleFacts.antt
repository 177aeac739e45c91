-- The rules on pieces as plain facts.
use Rattle.std.proofs.Common.{◌≡◌, ℕ, ◌+◌, ◌≤◌, List, [], ◌∷◌, ◌++◌, length, Bool, true, false, IsTrue, refl, ap, arith}
use Rattle.std.specs.Prelude.{◌&&◌, nat_le, if◌then◌else◌}
use Rattle.std.specs.List.{All, list_all}
use Rattle.std.proofs.lemmas.Bool.{and_parts, le-leb, leb-true}
use Rattle.std.proofs.lemmas.List.Elements.{All-nil, All-cons, All-head, All-tail, All-weaker}
use Rattle.vq_common.specs.declared.chain.Piece.{Piece}
use Rattle.vq_common.specs.Piece.{is_piece, is_readable_first, keeps_rules, length_of_all, readable_len, room}

-- a piece lies inside a memory of this length
abbrev pub IsInside : ℕ → Piece → Type 0
IsInside memory p = p.addr + p.len ≤ memory

-- a piece that the rules allow in a memory of this length
pub record IsPiece (memory : ℕ) (p : Piece) : Type 0 where
  pub some : 1 ≤ p.len
  pub few : p.len ≤ 4096
  pub inside : p.addr + p.len ≤ memory

-- pieces that keep the rules of a chain
pub record KeepsRules (memory : ℕ) (ps : List Piece) : Type 0 where
  pub some : 1 ≤ length ps
  pub few : length ps ≤ 8
  pub each : All (IsPiece memory) ps
  pub total : length_of_all ps ≤ 8192
  pub order : IsTrue (is_readable_first ps)

-- the rules on the pieces that are left, behind pieces of `total` bytes of which the last one was writable or not
abbrev pub rules_left : ℕ → ℕ → Bool → List Piece → Bool
rules_left memory total writable ps =
    list_all (is_piece memory) ps && nat_le (total + length_of_all ps) 8192 && (if writable then list_all (λ q. q.write) ps else is_readable_first ps)

-- both tests hold where each does
both_parts : (a b : Bool) → IsTrue a → IsTrue b → IsTrue (a && b)
both_parts true b one two = two
both_parts false b one two = one

-- the test on one piece
pub piece_facts : (memory : ℕ) (p : Piece) → IsTrue (is_piece memory p) → IsPiece memory p
piece_facts memory p test =
    let (sizes, inside) = and_parts (nat_le 1 p.len && nat_le p.len 4096) (nat_le (p.addr + p.len) memory) test in
    let (some, few) = and_parts (nat_le 1 p.len) (nat_le p.len 4096) sizes in
    record { some = leb-true 1 p.len some; few = leb-true p.len 4096 few; inside = leb-true (p.addr + p.len) memory inside }

pub piece_test : (memory : ℕ) (p : Piece) → IsPiece memory p → IsTrue (is_piece memory p)
piece_test memory p facts =
    both_parts (nat_le 1 p.len && nat_le p.len 4096) (nat_le (p.addr + p.len) memory)
    (both_parts (nat_le 1 p.len) (nat_le p.len 4096) (le-leb 1 p.len facts.some) (le-leb p.len 4096 facts.few))
    (le-leb (p.addr + p.len) memory facts.inside)

-- the test on each piece
pub pieces_facts : (memory : ℕ) (ps : List Piece) → IsTrue (list_all (is_piece memory) ps) → All (IsPiece memory) ps
pieces_facts memory [] test = All-nil (IsPiece memory)
pieces_facts memory (p ∷ ps) test =
    let (first, rest) = and_parts (is_piece memory p) (list_all (is_piece memory) ps) test in
    All-cons (IsPiece memory) p ps (piece_facts memory p first) (pieces_facts memory ps rest)

pub pieces_test : (memory : ℕ) (ps : List Piece) → All (IsPiece memory) ps → IsTrue (list_all (is_piece memory) ps)
pieces_test memory [] facts = refl
pieces_test memory (p ∷ ps) facts =
    both_parts (is_piece memory p) (list_all (is_piece memory) ps)
    (piece_test memory p (All-head (IsPiece memory) p ps facts))
    (pieces_test memory ps (All-tail (IsPiece memory) p ps facts))

-- the rules, from their test
pub rules_facts : (memory : ℕ) (ps : List Piece) → IsTrue (keeps_rules memory ps) → KeepsRules memory ps
rules_facts memory ps test =
    let (four, order) = and_parts (nat_le 1 (length ps) && nat_le (length ps) 8 && list_all (is_piece memory) ps && nat_le (length_of_all ps) 8192) (is_readable_first ps) test in
    let (three, total) = and_parts (nat_le 1 (length ps) && nat_le (length ps) 8 && list_all (is_piece memory) ps) (nat_le (length_of_all ps) 8192) four in
    let (two, each) = and_parts (nat_le 1 (length ps) && nat_le (length ps) 8) (list_all (is_piece memory) ps) three in
    let (some, few) = and_parts (nat_le 1 (length ps)) (nat_le (length ps) 8) two in
    record {
      some = leb-true 1 (length ps) some;
      few = leb-true (length ps) 8 few;
      each = pieces_facts memory ps each;
      total = leb-true (length_of_all ps) 8192 total;
      order = order;
    }

-- and back
pub rules_test : (memory : ℕ) (ps : List Piece) → KeepsRules memory ps → IsTrue (keeps_rules memory ps)
rules_test memory ps facts =
    let two : IsTrue (nat_le 1 (length ps) && nat_le (length ps) 8) = both_parts (nat_le 1 (length ps)) (nat_le (length ps) 8) (le-leb 1 (length ps) facts.some) (le-leb (length ps) 8 facts.few) in
    let three : IsTrue (nat_le 1 (length ps) && nat_le (length ps) 8 && list_all (is_piece memory) ps) = both_parts (nat_le 1 (length ps) && nat_le (length ps) 8) (list_all (is_piece memory) ps) two (pieces_test memory ps facts.each) in
    both_parts (nat_le 1 (length ps) && nat_le (length ps) 8 && list_all (is_piece memory) ps && nat_le (length_of_all ps) 8192) (is_readable_first ps)
    (both_parts (nat_le 1 (length ps) && nat_le (length ps) 8 && list_all (is_piece memory) ps) (nat_le (length_of_all ps) 8192) three (le-leb (length_of_all ps) 8192 facts.total))
    facts.order

-- pieces that keep the rules lie inside memory
pub rules_inside : (memory : ℕ) (ps : List Piece) → IsTrue (keeps_rules memory ps) → All (IsInside memory) ps
rules_inside memory ps test = All-weaker (IsPiece memory) (IsInside memory) (λ p facts. facts.inside) ps (rules_facts memory ps test).each

all_written : (ps : List Piece) → IsTrue (list_all (λ q. q.write) ps) → All (λ p. p.write ≡ true) ps
all_written [] test = All-nil (λ p. p.write ≡ true)
all_written (p ∷ ps) test =
    let (first, rest) = and_parts p.write (list_all (λ q. q.write) ps) test in
    All-cons (λ p. p.write ≡ true) p ps first (all_written ps rest)

readable_first_by : (p : Piece) (ps : List Piece) (w : Bool) → p.write ≡ w → IsTrue (if w then list_all (λ q. q.write) ps else is_readable_first ps)
    → (IsTrue (is_readable_first ps) → (read : List Piece) × (written : List Piece) × (ps ≡ read ++ written) × All (λ p. p.write ≡ false) read × All (λ p. p.write ≡ true) written)
    → (read : List Piece) × (written : List Piece) × (p ∷ ps ≡ read ++ written) × All (λ p. p.write ≡ false) read × All (λ p. p.write ≡ true) written
readable_first_by p ps true is order rest =
    ([], p ∷ ps, refl, All-nil (λ p. p.write ≡ false), All-cons (λ p. p.write ≡ true) p ps is (all_written ps order))
readable_first_by p ps false is order rest =
    let (read, written, parts, before, after) = rest order in
    (p ∷ read, written, ap (λ qs. p ∷ qs) parts, All-cons (λ p. p.write ≡ false) p read is before, after)

-- pieces in the order of the rules are readable ones, and then writable ones
pub readable_first : (ps : List Piece) → IsTrue (is_readable_first ps)
    → (read : List Piece) × (written : List Piece) × (ps ≡ read ++ written) × All (λ p. p.write ≡ false) read × All (λ p. p.write ≡ true) written
readable_first [] order = ([], [], refl, All-nil (λ p. p.write ≡ false), All-nil (λ p. p.write ≡ true))
readable_first (p ∷ ps) order = readable_first_by p ps p.write refl order (readable_first ps)

-- the readable and the writable bytes together are all
pub readable_len-plus-room : (ps : List Piece) → readable_len ps + room ps ≡ length_of_all ps
readable_len-plus-room [] = refl
readable_len-plus-room (p ∷ ps) =
    elim p.write as (λ w. (if w then readable_len ps else p.len + readable_len ps) + (if w then p.len + room ps else room ps) ≡ p.len + length_of_all ps)
    [ true ↦ omega (arith, readable_len-plus-room ps) | false ↦ omega (arith, readable_len-plus-room ps) ]

-- so neither is more than 8,192
pub room-le : (memory : ℕ) (ps : List Piece) → IsTrue (keeps_rules memory ps) → room ps ≤ 8192
room-le memory ps test =
    let facts : KeepsRules memory ps = rules_facts memory ps test in
    omega (arith, readable_len-plus-room ps)

pub readable_len-le : (memory : ℕ) (ps : List Piece) → IsTrue (keeps_rules memory ps) → readable_len ps ≤ 8192
readable_len-le memory ps test =
    let facts : KeepsRules memory ps = rules_facts memory ps test in
    omega (arith, readable_len-plus-room ps)
