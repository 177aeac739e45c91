-- Chains step by step: what the pieces so far and the rest of a chain give together.
use Rattle.std.proofs.Common.{◌≡◌, ℕ, zero, suc, ◌+◌, ◌-◌, ◌<◌, ◌≤◌, List, [], ◌∷◌, ◌++◌, length, Option, Some, None, Bool, true, false, inl, inr, refl, sym, ◌∙◌, ap, arith, length-append}
use Rattle.std.specs.Prelude.{option_map, if◌then◌else◌}
use Rattle.std.proofs.lemmas.Bool.{and_right, cases_Bool}
use Rattle.vq_common.specs.declared.chain.Piece.{Piece}
use Rattle.vq_common.specs.declared.chain.RingCfg.{RingCfg}
use Rattle.vq_common.specs.declared.packed_descriptor.PackedDescriptor.{PackedDescriptor}
use Rattle.vq_common.specs.Chain.{Walked, Bad, chain_if_valid}
use Rattle.vq_common.specs.Descriptor.{has_next, is_indirect}
use Rattle.vq_common.specs.PackedDescriptor.{packed_descriptor_at, packed_piece_of}
use Rattle.vq_common.specs.Position.{location_after}
use Rattle.vq_common.proofs.WalkedLaws.{mapped_nil, mapped_cons, too_many, too_many_before}
use Rattle.vq_packed_dev.specs.Walk.{and_others, packed_chain_from, packed_chain_of, packed_chain_shown, packed_pieces, pieces_of_table, direct_pieces, last_id}

-- what the ring shows where the pieces of so many descriptors stand before the rest of a chain
abbrev pub joined : List ℕ → RingCfg → ℕ → List Piece → Option (List PackedDescriptor) → Walked
joined mem c slots ps None = Bad
joined mem c slots ps (Some ds) = chain_if_valid (length mem) (last_id ds) (slots + length ds) (option_map (λ more. ps ++ more) (direct_pieces ds))

-- one step along the ring
chain_step : (mem : List ℕ) (c : RingCfg) (i location : ℕ) (d : PackedDescriptor) → i < c.size → d ≡ packed_descriptor_at mem c.desc location
    → packed_chain_from (c.size - i) mem c location ≡ and_others d (packed_chain_from (c.size - (i + 1)) mem c (location_after c.size location 1))
chain_step mem c i location d left is =
    let e : c.size - i ≡ suc (c.size - (i + 1)) = omega arith in
    rw (e, is) refl

chain_begin : (mem : List ℕ) (c : RingCfg) (location : ℕ) → packed_chain_from c.size mem c location ≡ packed_chain_from (c.size - 0) mem c location
chain_begin mem c location =
    let e : c.size ≡ c.size - 0 = omega arith in
    ap (λ (n : ℕ). packed_chain_from n mem c location) e

others_last : (d : PackedDescriptor) (o : Option (List PackedDescriptor)) → has_next d.flags ≡ false → and_others d o ≡ Some (d ∷ [])
others_last d o last = rw last refl

others_next : (d : PackedDescriptor) (o : Option (List PackedDescriptor)) → has_next d.flags ≡ true → and_others d o ≡ option_map (λ ds. d ∷ ds) o
others_next d o next = rw next refl

-- a chain whose first descriptor names a table has the pieces of that table
no_table : (mem : List ℕ) (c : RingCfg) (d : PackedDescriptor) → has_next d.flags ≡ true → pieces_of_table mem c d ≡ None
no_table mem c d next = rw (next, and_right c.indirect false refl) refl

first_names_table : (mem : List ℕ) (c : RingCfg) (d : PackedDescriptor) (ds : List PackedDescriptor) → is_indirect d.flags ≡ true → packed_pieces mem c (d ∷ ds) ≡ pieces_of_table mem c d
first_names_table mem c d ds indirect = rw indirect refl

table_and_others : (mem : List ℕ) (c : RingCfg) (d : PackedDescriptor) (o : Option (List PackedDescriptor)) → is_indirect d.flags ≡ true → pieces_of_table mem c d ≡ None
    → packed_chain_of mem c (option_map (λ ds. d ∷ ds) o) ≡ Bad
table_and_others mem c d None indirect none = refl
table_and_others mem c d (Some ds) indirect none = ap (chain_if_valid (length mem) (last_id (d ∷ ds)) (length (d ∷ ds))) (first_names_table mem c d ds indirect ∙ none)

table_by : (mem : List ℕ) (c : RingCfg) (d : PackedDescriptor) (o : Option (List PackedDescriptor)) → is_indirect d.flags ≡ true
    → packed_chain_of mem c (and_others d o) ≡ chain_if_valid (length mem) d.id 1 (pieces_of_table mem c d)
table_by mem c d o indirect =
    elim (cases_Bool (has_next d.flags)) [
      | inl next ↦
          let none : pieces_of_table mem c d ≡ None = no_table mem c d next in
          ap (packed_chain_of mem c) (others_next d o next) ∙ table_and_others mem c d o indirect none ∙ sym (ap (chain_if_valid (length mem) d.id 1) none)
      | inr last ↦ ap (packed_chain_of mem c) (others_last d o last) ∙ ap (chain_if_valid (length mem) d.id 1) (first_names_table mem c d [] indirect)
    ]

pub chain_of_table : (mem : List ℕ) (c : RingCfg) (location : ℕ) (d : PackedDescriptor) → 0 < c.size → d ≡ packed_descriptor_at mem c.desc location → is_indirect d.flags ≡ true
    → packed_chain_shown mem c location ≡ chain_if_valid (length mem) d.id 1 (pieces_of_table mem c d)
chain_of_table mem c location d some is indirect =
    ap (packed_chain_of mem c) (chain_begin mem c location ∙ chain_step mem c 0 location d some is) ∙ table_by mem c d (packed_chain_from (c.size - (0 + 1)) mem c (location_after c.size location 1)) indirect

-- where nothing stands before it, a chain whose first descriptor names no table is the whole
start_by : (mem : List ℕ) (c : RingCfg) (d : PackedDescriptor) (b : Bool) (o : Option (List PackedDescriptor)) → is_indirect d.flags ≡ false
    → packed_chain_of mem c (if b then option_map (λ ds. d ∷ ds) o else Some (d ∷ [])) ≡ joined mem c 0 [] (if b then option_map (λ ds. d ∷ ds) o else Some (d ∷ []))
start_by mem c d true None direct = refl
start_by mem c d true (Some ds) direct =
    let e : 0 + length (d ∷ ds) ≡ length (d ∷ ds) = omega arith in
    rw (e, direct, mapped_nil (option_map (λ ps. packed_piece_of d ∷ ps) (direct_pieces ds))) refl
start_by mem c d false o direct = rw direct refl

pub joined_start : (mem : List ℕ) (c : RingCfg) (location : ℕ) (d : PackedDescriptor) → 0 < c.size → d ≡ packed_descriptor_at mem c.desc location → is_indirect d.flags ≡ false
    → packed_chain_shown mem c location ≡ joined mem c 0 [] (packed_chain_from (c.size - 0) mem c location)
joined_start mem c location d some is direct =
    let rest : Option (List PackedDescriptor) = packed_chain_from (c.size - (0 + 1)) mem c (location_after c.size location 1) in
    let step : packed_chain_from (c.size - 0) mem c location ≡ and_others d rest = chain_step mem c 0 location d some is in
    ap (packed_chain_of mem c) (chain_begin mem c location ∙ step) ∙ start_by mem c d (has_next d.flags) rest direct ∙ ap (joined mem c 0 []) (sym step)

-- a descriptor that names a table spoils a chain
indirect_by : (mem : List ℕ) (c : RingCfg) (slots : ℕ) (ps : List Piece) (d : PackedDescriptor) (b : Bool) (o : Option (List PackedDescriptor)) → is_indirect d.flags ≡ true
    → joined mem c slots ps (if b then option_map (λ ds. d ∷ ds) o else Some (d ∷ [])) ≡ Bad
indirect_by mem c slots ps d true None indirect = refl
indirect_by mem c slots ps d true (Some ds) indirect = rw indirect refl
indirect_by mem c slots ps d false o indirect = rw indirect refl

pub joined_indirect : (mem : List ℕ) (c : RingCfg) (i : ℕ) (ps : List Piece) (location : ℕ) (d : PackedDescriptor) → i < c.size → d ≡ packed_descriptor_at mem c.desc location
    → is_indirect d.flags ≡ true → joined mem c i ps (packed_chain_from (c.size - i) mem c location) ≡ Bad
joined_indirect mem c i ps location d left is indirect =
    ap (joined mem c i ps) (chain_step mem c i location d left is) ∙ indirect_by mem c i ps d (has_next d.flags) (packed_chain_from (c.size - (i + 1)) mem c (location_after c.size location 1)) indirect

-- a last descriptor ends it
last_by : (mem : List ℕ) (c : RingCfg) (slots : ℕ) (ps : List Piece) (d : PackedDescriptor) (o : Option (List PackedDescriptor)) → is_indirect d.flags ≡ false → has_next d.flags ≡ false
    → joined mem c slots ps (and_others d o) ≡ chain_if_valid (length mem) d.id (slots + 1) (Some (ps ++ packed_piece_of d ∷ []))
last_by mem c slots ps d o direct last = rw (last, direct) refl

pub joined_last : (mem : List ℕ) (c : RingCfg) (i : ℕ) (ps : List Piece) (location : ℕ) (d : PackedDescriptor) → i < c.size → d ≡ packed_descriptor_at mem c.desc location
    → is_indirect d.flags ≡ false → has_next d.flags ≡ false
    → joined mem c i ps (packed_chain_from (c.size - i) mem c location) ≡ chain_if_valid (length mem) d.id (i + 1) (Some (ps ++ packed_piece_of d ∷ []))
joined_last mem c i ps location d left is direct last =
    ap (joined mem c i ps) (chain_step mem c i location d left is) ∙ last_by mem c i ps d (packed_chain_from (c.size - (i + 1)) mem c (location_after c.size location 1)) direct last

-- the piece of another one goes behind the pieces so far
two_or_more : (mem : List ℕ) (c : RingCfg) (slots : ℕ) (ps : List Piece) (d e : PackedDescriptor) (ds : List PackedDescriptor) → is_indirect d.flags ≡ false
    → joined mem c slots ps (Some (d ∷ e ∷ ds)) ≡ joined mem c (slots + 1) (ps ++ packed_piece_of d ∷ []) (Some (e ∷ ds))
two_or_more mem c slots ps d e ds direct =
    let long : slots + length (d ∷ e ∷ ds) ≡ slots + 1 + length (e ∷ ds) = omega arith in
    rw (direct, mapped_cons ps (packed_piece_of d) (direct_pieces (e ∷ ds)), long) refl

before_others : (mem : List ℕ) (c : RingCfg) (slots : ℕ) (ps : List Piece) (d e : PackedDescriptor) (b : Bool) (o : Option (List PackedDescriptor)) → is_indirect d.flags ≡ false
    → joined mem c slots ps (option_map (λ ds. d ∷ ds) (if b then option_map (λ ds. e ∷ ds) o else Some (e ∷ [])))
    ≡ joined mem c (slots + 1) (ps ++ packed_piece_of d ∷ []) (if b then option_map (λ ds. e ∷ ds) o else Some (e ∷ []))
before_others mem c slots ps d e true None direct = refl
before_others mem c slots ps d e true (Some ds) direct = two_or_more mem c slots ps d e ds direct
before_others mem c slots ps d e false o direct = two_or_more mem c slots ps d e [] direct

before_rest : (mem : List ℕ) (c : RingCfg) (slots : ℕ) (ps : List Piece) (d : PackedDescriptor) (left location : ℕ) → is_indirect d.flags ≡ false
    → joined mem c slots ps (option_map (λ ds. d ∷ ds) (packed_chain_from left mem c location)) ≡ joined mem c (slots + 1) (ps ++ packed_piece_of d ∷ []) (packed_chain_from left mem c location)
before_rest mem c slots ps d zero location direct = refl
before_rest mem c slots ps d (suc left) location direct =
    let e : PackedDescriptor = packed_descriptor_at mem c.desc location in
    before_others mem c slots ps d e (has_next e.flags) (packed_chain_from left mem c (location_after c.size location 1)) direct

next_by : (mem : List ℕ) (c : RingCfg) (slots : ℕ) (ps : List Piece) (d : PackedDescriptor) (left location : ℕ) → is_indirect d.flags ≡ false → has_next d.flags ≡ true
    → joined mem c slots ps (and_others d (packed_chain_from left mem c location)) ≡ joined mem c (slots + 1) (ps ++ packed_piece_of d ∷ []) (packed_chain_from left mem c location)
next_by mem c slots ps d left location direct next = rw next (before_rest mem c slots ps d left location direct)

pub joined_next : (mem : List ℕ) (c : RingCfg) (i : ℕ) (ps : List Piece) (location : ℕ) (d : PackedDescriptor) → i < c.size → d ≡ packed_descriptor_at mem c.desc location
    → is_indirect d.flags ≡ false → has_next d.flags ≡ true
    → joined mem c i ps (packed_chain_from (c.size - i) mem c location) ≡ joined mem c (i + 1) (ps ++ packed_piece_of d ∷ []) (packed_chain_from (c.size - (i + 1)) mem c (location_after c.size location 1))
joined_next mem c i ps location d left is direct next =
    ap (joined mem c i ps) (chain_step mem c i location d left is) ∙ next_by mem c i ps d (c.size - (i + 1)) (location_after c.size location 1) direct next

-- more than eight pieces keep no rules, and no more pieces behind them help
many_before : (mem : List ℕ) (c : RingCfg) (slots : ℕ) (ps : List Piece) (o : Option (List PackedDescriptor)) → 8 < length ps → joined mem c slots ps o ≡ Bad
many_before mem c slots ps None many = refl
many_before mem c slots ps (Some ds) many = too_many_before (length mem) (last_id ds) (slots + length ds) ps (direct_pieces ds) many

pub joined_full : (mem : List ℕ) (c : RingCfg) (i : ℕ) (ps : List Piece) (location : ℕ) (d : PackedDescriptor) → i < c.size → d ≡ packed_descriptor_at mem c.desc location
    → is_indirect d.flags ≡ false → 8 ≤ length ps → joined mem c i ps (packed_chain_from (c.size - i) mem c location) ≡ Bad
joined_full mem c i ps location d left is direct full =
    let many : 8 < length (ps ++ packed_piece_of d ∷ []) = omega (arith, length-append ps (packed_piece_of d ∷ [])) in
    elim (cases_Bool (has_next d.flags)) [
      | inl next ↦ joined_next mem c i ps location d left is direct next ∙ many_before mem c (i + 1) (ps ++ packed_piece_of d ∷ []) (packed_chain_from (c.size - (i + 1)) mem c (location_after c.size location 1)) many
      | inr last ↦ joined_last mem c i ps location d left is direct last ∙ too_many (length mem) d.id (i + 1) (ps ++ packed_piece_of d ∷ []) many
    ]

-- a chain ends within the ring
pub joined_past : (mem : List ℕ) (c : RingCfg) (i : ℕ) (ps : List Piece) (location : ℕ) → c.size ≤ i → joined mem c i ps (packed_chain_from (c.size - i) mem c location) ≡ Bad
joined_past mem c i ps location past =
    let e : c.size - i ≡ zero = omega arith in
    rw e refl
