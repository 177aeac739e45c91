-- Chains step by step: what the descriptors so far and the rest of a chain give together.
use Rattle.std.proofs.Common.{◌≡◌, ℕ, ◌+◌, ◌-◌, ◌<◌, ◌≤◌, List, [], ◌∷◌, ◌++◌, length, Option, Some, None, Bool, true, false, ◌⊎◌, inl, inr, refl, sym, ◌∙◌, ap, arith, length-append}
use Rattle.std.specs.Prelude.{option_map, if◌then◌else◌}
use Rattle.std.proofs.lemmas.Bool.{and_right, cases_Bool, cases_lt}
use Rattle.vq_common.specs.declared.chain.Piece.{Piece}
use Rattle.vq_common.specs.declared.chain.RingCfg.{RingCfg}
use Rattle.vq_common.specs.declared.descriptor.Descriptor.{Descriptor}
use Rattle.vq_common.specs.Chain.{Walked, Bad, chain_if_valid}
use Rattle.vq_common.specs.Descriptor.{chain_from, and_following, descriptor_at, has_next, is_indirect, piece_of}
use Rattle.vq_common.specs.Table.{pieces_if, pieces_with}
use Rattle.vq_common.proofs.TableLaws.{chain_from_past, chain_step, following_last, following_more, pieces_with_many, pieces_with_some}
use Rattle.vq_common.proofs.WalkedLaws.{too_many, too_many_before, mapped_nil, mapped_cons}
use Rattle.vq_split_dev.specs.Walk.{chain_of, chain_pieces}

-- what the ring shows where the pieces of so many descriptors stand before the rest of a chain
abbrev pub joined : List ℕ → RingCfg → ℕ → ℕ → List Piece → Option (List Descriptor) → Walked
joined mem c head slots ps None = Bad
joined mem c head slots ps (Some ds) = chain_if_valid (length mem) head (slots + length ds) (option_map (λ more. ps ++ more) (chain_pieces mem c ds))

-- where nothing stands before it, the rest is the whole
pub joined_nil : (mem : List ℕ) (c : RingCfg) (head : ℕ) (o : Option (List Descriptor)) → chain_of mem c head o ≡ joined mem c head 0 [] o
joined_nil mem c head None = refl
joined_nil mem c head (Some ds) =
    let e : 0 + length ds ≡ length ds = omega arith in
    rw (e, mapped_nil (chain_pieces mem c ds)) refl

-- a descriptor that names a table ends a chain, or spoils it
after_indirect : (mem : List ℕ) (c : RingCfg) (head i : ℕ) (ps : List Piece) (d : Descriptor) (o : Option (List Descriptor)) → is_indirect d.flags ≡ true → has_next d.flags ≡ true
    → joined mem c head i ps (option_map (λ ds. d ∷ ds) o) ≡ Bad
after_indirect mem c head i ps d None indirect next = refl
after_indirect mem c head i ps d (Some ds) indirect next = rw (indirect, next, and_right c.indirect false refl) refl

spoilt : (mem : List ℕ) (c : RingCfg) (head i : ℕ) (ps : List Piece) (d : Descriptor) → is_indirect d.flags ≡ true → has_next d.flags ≡ true
    → chain_if_valid (length mem) head (i + 1) (option_map (λ more. ps ++ more) (chain_pieces mem c (d ∷ []))) ≡ Bad
spoilt mem c head i ps d indirect next = rw (indirect, next, and_right c.indirect false refl) refl

-- a descriptor that names a table, or has no next one, is the last one
joined_last : (mem : List ℕ) (c : RingCfg) (head i : ℕ) (ps : List Piece) (d : Descriptor) (follow : ℕ → Option (List Descriptor)) → has_next d.flags ≡ false
    → joined mem c head i ps (and_following d follow) ≡ chain_if_valid (length mem) head (i + 1) (option_map (λ more. ps ++ more) (chain_pieces mem c (d ∷ [])))
joined_last mem c head i ps d follow last = ap (joined mem c head i ps) (following_last d follow last)

joined_indirect : (mem : List ℕ) (c : RingCfg) (head i : ℕ) (ps : List Piece) (d : Descriptor) (follow : ℕ → Option (List Descriptor)) → is_indirect d.flags ≡ true
    → joined mem c head i ps (and_following d follow) ≡ chain_if_valid (length mem) head (i + 1) (option_map (λ more. ps ++ more) (chain_pieces mem c (d ∷ [])))
joined_indirect mem c head i ps d follow indirect =
    elim (cases_Bool (has_next d.flags)) [
      | inl next ↦ ap (joined mem c head i ps) (following_more d follow next) ∙ after_indirect mem c head i ps d (follow d.next) indirect next ∙ sym (spoilt mem c head i ps d indirect next)
      | inr last ↦ joined_last mem c head i ps d follow last
    ]

before_others : (mem : List ℕ) (c : RingCfg) (head i : ℕ) (ps : List Piece) (d : Descriptor) (o : Option (List Descriptor)) → is_indirect d.flags ≡ false
    → joined mem c head i ps (option_map (λ ds. d ∷ ds) o) ≡ joined mem c head (i + 1) (ps ++ piece_of d ∷ []) o
before_others mem c head i ps d None direct = refl
before_others mem c head i ps d (Some ds) direct =
    let e : i + length (d ∷ ds) ≡ i + 1 + length ds = omega arith in
    rw (direct, mapped_cons ps (piece_of d) (chain_pieces mem c ds), e) refl

joined_more : (mem : List ℕ) (c : RingCfg) (head i : ℕ) (ps : List Piece) (d : Descriptor) (follow : ℕ → Option (List Descriptor)) → is_indirect d.flags ≡ false → has_next d.flags ≡ true
    → joined mem c head i ps (and_following d follow) ≡ joined mem c head (i + 1) (ps ++ piece_of d ∷ []) (follow d.next)
joined_more mem c head i ps d follow direct next = ap (joined mem c head i ps) (following_more d follow next) ∙ before_others mem c head i ps d (follow d.next) direct

opened : (mem : List ℕ) (c : RingCfg) (head i location : ℕ) (ps : List Piece) → i < c.size → location < c.size
    → joined mem c head i ps (chain_from (c.size - i) mem c.desc c.size location)
    ≡ joined mem c head i ps (and_following (descriptor_at mem c.desc location) (λ next. chain_from (c.size - (i + 1)) mem c.desc c.size next))
opened mem c head i location ps left inside = ap (joined mem c head i ps) (chain_step c.size i location c.desc c.size mem left inside)

-- more than eight pieces keep no rules, and no more pieces behind them help
joined_too_many : (mem : List ℕ) (c : RingCfg) (head i : ℕ) (ps : List Piece) (o : Option (List Descriptor)) → 8 < length ps → joined mem c head i ps o ≡ Bad
joined_too_many mem c head i ps None many = refl
joined_too_many mem c head i ps (Some ds) many = too_many_before (length mem) head (i + length ds) ps (chain_pieces mem c ds) many

-- a piece goes behind those so far, and the chain goes on
pub goes_on : (mem : List ℕ) (c : RingCfg) (head i : ℕ) (ps : List Piece) (location : ℕ) → i < c.size → location < c.size
    → is_indirect (descriptor_at mem c.desc location).flags ≡ false → has_next (descriptor_at mem c.desc location).flags ≡ true
    → joined mem c head i ps (chain_from (c.size - i) mem c.desc c.size location)
    ≡ joined mem c head (i + 1) (ps ++ piece_of (descriptor_at mem c.desc location) ∷ []) (chain_from (c.size - (i + 1)) mem c.desc c.size (descriptor_at mem c.desc location).next)
goes_on mem c head i ps location left inside direct more =
    opened mem c head i location ps left inside
    ∙ joined_more mem c head i ps (descriptor_at mem c.desc location) (λ next. chain_from (c.size - (i + 1)) mem c.desc c.size next) direct more

last_piece : (mem : List ℕ) (c : RingCfg) (ps : List Piece) (d : Descriptor) → is_indirect d.flags ≡ false
    → option_map (λ more. ps ++ more) (chain_pieces mem c (d ∷ [])) ≡ Some (ps ++ piece_of d ∷ [])
last_piece mem c ps d direct = rw direct refl

-- a piece goes behind those so far, and the chain ends
pub ends_with_piece : (mem : List ℕ) (c : RingCfg) (head i : ℕ) (ps : List Piece) (location : ℕ) → i < c.size → location < c.size
    → is_indirect (descriptor_at mem c.desc location).flags ≡ false → has_next (descriptor_at mem c.desc location).flags ≡ false
    → joined mem c head i ps (chain_from (c.size - i) mem c.desc c.size location) ≡ chain_if_valid (length mem) head (i + 1) (Some (ps ++ piece_of (descriptor_at mem c.desc location) ∷ []))
ends_with_piece mem c head i ps location left inside direct last =
    let d : Descriptor = descriptor_at mem c.desc location in
    opened mem c head i location ps left inside
    ∙ joined_last mem c head i ps d (λ next. chain_from (c.size - (i + 1)) mem c.desc c.size next) last
    ∙ ap (chain_if_valid (length mem) head (i + 1)) (last_piece mem c ps d direct)

-- no chain has a ninth piece
full_by_next : (mem : List ℕ) (c : RingCfg) (head i : ℕ) (ps : List Piece) (location : ℕ) → i < c.size → location < c.size → is_indirect (descriptor_at mem c.desc location).flags ≡ false → 8 ≤ length ps
    → joined mem c head i ps (chain_from (c.size - i) mem c.desc c.size location) ≡ Bad
full_by_next mem c head i ps location left inside direct full =
    let d : Descriptor = descriptor_at mem c.desc location in
    let many : 8 < length (ps ++ piece_of d ∷ []) = omega (arith, length-append ps (piece_of d ∷ [])) in
    elim (cases_Bool (has_next d.flags)) [
      | inl more ↦ goes_on mem c head i ps location left inside direct more ∙ joined_too_many mem c head (i + 1) (ps ++ piece_of d ∷ []) (chain_from (c.size - (i + 1)) mem c.desc c.size d.next) many
      | inr last ↦ ends_with_piece mem c head i ps location left inside direct last ∙ too_many (length mem) head (i + 1) (ps ++ piece_of d ∷ []) many
    ]

-- a chain is malformed where it goes through a location that the table lacks, or has a ninth piece
pub fails_here : (mem : List ℕ) (c : RingCfg) (head i : ℕ) (ps : List Piece) (location : ℕ) → i < c.size
    → (c.size ≤ location) ⊎ ((is_indirect (descriptor_at mem c.desc location).flags ≡ false) × (8 ≤ length ps))
    → joined mem c head i ps (chain_from (c.size - i) mem c.desc c.size location) ≡ Bad
fails_here mem c head i ps location left cause =
    elim cause [
      | inl past ↦ ap (joined mem c head i ps) (chain_from_past (c.size - i) mem c.desc c.size location past)
      | inr full ↦
          elim (cases_lt location c.size) [
            | inl inside ↦ full_by_next mem c head i ps location left inside full.0 full.1
            | inr past ↦ ap (joined mem c head i ps) (chain_from_past (c.size - i) mem c.desc c.size location past)
          ]
    ]

with_many : (memory head slots : ℕ) (b : Bool) (ps new more : List Piece) → pieces_if b new ≡ None → 8 < length ps + length more
    → chain_if_valid memory head slots (Some (ps ++ more)) ≡ (if b then chain_if_valid memory head slots (Some new) else Bad)
with_many memory head slots true ps new more none many = absurd (cc)
with_many memory head slots false ps new more none many = too_many memory head slots (ps ++ more) (omega (arith, length-append ps more))

with_few : (memory head slots : ℕ) (b : Bool) (ps new more : List Piece) → pieces_if b new ≡ Some (ps ++ more)
    → chain_if_valid memory head slots (Some (ps ++ more)) ≡ (if b then chain_if_valid memory head slots (Some new) else Bad)
with_few memory head slots true ps new more some = ap (chain_if_valid memory head slots) (sym some)
with_few memory head slots false ps new more some = absurd (cc)

with_table : (memory head slots : ℕ) (b : Bool) (ps new : List Piece) (o : Option (List Piece)) → pieces_if b new ≡ pieces_with ps o
    → chain_if_valid memory head slots (option_map (λ more. ps ++ more) o) ≡ (if b then chain_if_valid memory head slots (Some new) else Bad)
with_table memory head slots true ps new None added = absurd (cc)
with_table memory head slots false ps new None added = refl
with_table memory head slots b ps new (Some more) added =
    elim (cases_lt 8 (length ps + length more)) [
      | inl many ↦ with_many memory head slots b ps new more (added ∙ pieces_with_many ps more many) many
      | inr few ↦ with_few memory head slots b ps new more (added ∙ pieces_with_some ps more few)
    ]

-- the pieces of a table go behind those so far where they fit, and the chain ends
pub ends_with_table : (mem : List ℕ) (c : RingCfg) (head i : ℕ) (ps new : List Piece) (location : ℕ) (b : Bool) → i < c.size → location < c.size
    → is_indirect (descriptor_at mem c.desc location).flags ≡ true → pieces_if b new ≡ pieces_with ps (chain_pieces mem c (descriptor_at mem c.desc location ∷ []))
    → joined mem c head i ps (chain_from (c.size - i) mem c.desc c.size location) ≡ (if b then chain_if_valid (length mem) head (i + 1) (Some new) else Bad)
ends_with_table mem c head i ps new location b left inside indirect added =
    let d : Descriptor = descriptor_at mem c.desc location in
    opened mem c head i location ps left inside
    ∙ joined_indirect mem c head i ps d (λ next. chain_from (c.size - (i + 1)) mem c.desc c.size next) indirect
    ∙ with_table (length mem) head (i + 1) b ps new (chain_pieces mem c (d ∷ [])) added
