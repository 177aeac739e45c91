-- Descriptors in a row make a chain.
use Rattle.std.proofs.Common.{◌≡◌, ℕ, zero, suc, ◌≤◌, List, [], ◌∷◌, length, Bool, true, false, Option, Some, None, refl, ◌∙◌, ap, arith}
use Rattle.std.specs.Prelude.{option_map}
use Rattle.std.proofs.lemmas.Bool.{cond-true, cond-false}
use Rattle.vq_common.specs.declared.chain.Piece.{Piece}
use Rattle.vq_common.specs.declared.chain.RingCfg.{RingCfg}
use Rattle.vq_common.specs.declared.packed_descriptor.PackedDescriptor.{PackedDescriptor}
use Rattle.vq_common.specs.declared.position.Position.{Position}
use Rattle.vq_common.specs.Descriptor.{has_next, is_indirect}
use Rattle.vq_common.specs.PackedDescriptor.{is_available, packed_descriptor_at, packed_piece_of}
use Rattle.vq_common.specs.Position.{location_after, position_after}
use Rattle.vq_packed_dev.specs.Walk.{and_others, direct_pieces, last_id, packed_chain_from, packed_pieces, pieces_of_table}
use Rattle.vq_packed_drv.specs.Post.{has_more, ring_descriptor}
use Rattle.vq_packed_pair.proofs.Flags.{NamesPiece, names_piece}
use Rattle.vq_packed_pair.proofs.Rows.{IsRow, row_of}

-- a descriptor without NEXT is a whole chain
pub chain_of_one : (left : ℕ) (mem : List ℕ) (c : RingCfg) (location : ℕ) (d : PackedDescriptor) → 1 ≤ left → packed_descriptor_at mem c.desc location ≡ d → has_next d.flags ≡ false → packed_chain_from left mem c location ≡ Some (d ∷ [])
chain_of_one zero mem c location d some is alone = absurd (omega arith)
chain_of_one (suc left) mem c location d some is alone =
    let others : Option (List PackedDescriptor) = packed_chain_from left mem c (location_after c.size location 1) in
    ap (λ e. and_others e others) is ∙ cond-false (has_next d.flags) (option_map (λ ds. d ∷ ds) others) (Some (d ∷ [])) alone

-- one with NEXT stands before the others
chain_of_more : (left : ℕ) (mem : List ℕ) (c : RingCfg) (location : ℕ) (d : PackedDescriptor) (ds : List PackedDescriptor) → packed_descriptor_at mem c.desc location ≡ d → has_next d.flags ≡ true
    → packed_chain_from left mem c (location_after c.size location 1) ≡ Some ds → packed_chain_from (suc left) mem c location ≡ Some (d ∷ ds)
chain_of_more left mem c location d ds is more rest =
    let others : Option (List PackedDescriptor) = packed_chain_from left mem c (location_after c.size location 1) in
    ap (λ e. and_others e others) is ∙ cond-true (has_next d.flags) (option_map (λ es. d ∷ es) others) (Some (d ∷ [])) more ∙ ap (option_map (λ es. d ∷ es)) rest

-- the descriptors of pieces, read in a row, are a chain
pub chain_of_row : (left : ℕ) (mem : List ℕ) (c : RingCfg) (id : ℕ) (position : Position) (ps : List Piece) → 1 ≤ length ps → length ps ≤ left → IsRow mem c.desc c.size position.location (row_of c.size id position ps)
    → packed_chain_from left mem c position.location ≡ Some (row_of c.size id position ps)
chain_of_row left mem c id position [] some few row = absurd (omega arith)
chain_of_row zero mem c id position (p ∷ ps) some few row = absurd (omega arith)
chain_of_row (suc left) mem c id position (p ∷ []) some few (first, rest) =
    chain_of_one (suc left) mem c position.location (ring_descriptor id position.wrap false p) (omega arith) first (names_piece false p.write position.wrap).next
chain_of_row (suc left) mem c id position (p ∷ q ∷ ps) some few (first, rest) =
    let next : Position = position_after c.size position 1 in
    chain_of_more left mem c position.location (ring_descriptor id position.wrap true p) (row_of c.size id next (q ∷ ps)) first (names_piece true p.write position.wrap).next
    (chain_of_row left mem c id next (q ∷ ps) (omega arith) (omega arith) rest)

-- its descriptors name the pieces
direct_pieces_of_row : (size id : ℕ) (position : Position) (ps : List Piece) → direct_pieces (row_of size id position ps) ≡ Some ps
direct_pieces_of_row size id position [] = refl
direct_pieces_of_row size id position (p ∷ ps) =
    let d : PackedDescriptor = ring_descriptor id position.wrap (has_more ps) p in
    let rest : List PackedDescriptor = row_of size id (position_after size position 1) ps in
    let says : NamesPiece d.flags (has_more ps) p.write position.wrap = names_piece (has_more ps) p.write position.wrap in
    cond-false (is_indirect d.flags) None (option_map (λ qs. packed_piece_of d ∷ qs) (direct_pieces rest)) says.direct
    ∙ ap (option_map (λ qs. packed_piece_of d ∷ qs)) (direct_pieces_of_row size id (position_after size position 1) ps)
    ∙ ap (λ (w : Bool). Some (record { addr = p.addr; len = p.len; write = w } ∷ ps)) says.writes

pub pieces_of_row : (mem : List ℕ) (c : RingCfg) (size id : ℕ) (position : Position) (ps : List Piece) → 1 ≤ length ps → packed_pieces mem c (row_of size id position ps) ≡ Some ps
pieces_of_row mem c size id position [] some = absurd (omega arith)
pieces_of_row mem c size id position (p ∷ ps) some =
    let d : PackedDescriptor = ring_descriptor id position.wrap (has_more ps) p in
    cond-false (is_indirect d.flags) (pieces_of_table mem c d) (direct_pieces (row_of size id position (p ∷ ps))) (names_piece (has_more ps) p.write position.wrap).direct
    ∙ direct_pieces_of_row size id position (p ∷ ps)

-- the last has their id
pub last_id_of_row : (size id : ℕ) (position : Position) (ps : List Piece) → 1 ≤ length ps → last_id (row_of size id position ps) ≡ id
last_id_of_row size id position [] some = absurd (omega arith)
last_id_of_row size id position (p ∷ []) some = refl
last_id_of_row size id position (p ∷ q ∷ ps) some = last_id_of_row size id (position_after size position 1) (q ∷ ps) (omega arith)

-- the first is available to a device with the position's wrap counter
pub row_is_available : (mem : List ℕ) (base size id : ℕ) (position : Position) (ps : List Piece) → 1 ≤ length ps → IsRow mem base size position.location (row_of size id position ps)
    → is_available position.wrap (packed_descriptor_at mem base position.location).flags ≡ true
row_is_available mem base size id position [] some row = absurd (omega arith)
row_is_available mem base size id position (p ∷ ps) some (first, rest) =
    ap (λ (d : PackedDescriptor). is_available position.wrap d.flags) first ∙ (names_piece (has_more ps) p.write position.wrap).available
