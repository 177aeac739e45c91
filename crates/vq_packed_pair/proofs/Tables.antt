-- An indirect table of a packed ring is read as its pieces.
use Rattle.std.proofs.Common.{◌≡◌, ℕ, ◌+◌, ◌*◌, ◌/◌, ◌%◌, ◌≤◌, List, [], ◌∷◌, ◌++◌, length, eqb, Bool, IsTrue, Some, None, false, refl, sym, ◌∙◌, ap, arith}
use Rattle.std.specs.Prelude.{All, nat_le, nat_lt}
use Rattle.std.proofs.lemmas.Bool.{and_from, cond-true, eq-eqb, le-leb, lt-ltb}
use Rattle.std.proofs.lemmas.List.Elements.{All-head, All-tail}
use Rattle.guest_mem.specs.Memory.{part}
use Rattle.guest_mem.proofs.Parts.{part-part, part-append_left, part-append_right, part_all}
use Rattle.vq_common.specs.declared.chain.Piece.{Piece}
use Rattle.vq_common.specs.PackedDescriptor.{packed_descriptor_bytes, packed_descriptor_in, packed_piece_of}
use Rattle.vq_common.specs.Table.{is_table, packed_table, table_pieces}
use Rattle.vq_common.proofs.DescriptorLaws.{packed_descriptor_in-packed_descriptor_bytes}
use Rattle.vq_packed_drv.specs.Cost.{length-packed_table_bytes}
use Rattle.vq_packed_drv.specs.Post.{packed_table_bytes, table_descriptor}
use Rattle.vq_packed_pair.proofs.Flags.{IsTableFlags, table_flags}
use Rattle.vq_packed_pair.proofs.PostedPieces.{FitsDescriptor}

-- For both kinds of ring: parts of joined bytes, and the tables that are allowed.

-- where a part of memory is joined bytes, its front is the first of them
front_of_joined : (m : List ℕ) (a j k : ℕ) (xs ys : List ℕ) → length xs ≡ j → part m a (j + k) ≡ xs ++ ys → part m a j ≡ xs
front_of_joined m a j k xs ys long is =
    let same : a + 0 ≡ a = omega arith in
    sym (part-part m a (j + k) 0 j (omega arith) ∙ ap (λ (b : ℕ). part m b j) same) ∙ ap (λ (w : List ℕ). part w 0 j) is ∙ part-append_left xs ys 0 j (omega arith) ∙ part_all xs j long

-- and its back the second
back_of_joined : (m : List ℕ) (a j k : ℕ) (xs ys : List ℕ) → length xs ≡ j → length ys ≡ k → part m a (j + k) ≡ xs ++ ys → part m (a + j) k ≡ ys
back_of_joined m a j k xs ys long more is =
    let same : j + 0 ≡ j = omega arith in
    sym (part-part m a (j + k) j k (omega arith))
    ∙ ap (λ (w : List ℕ). part w j k) is
    ∙ ap (λ (i : ℕ). part (xs ++ ys) i k) (sym same)
    ∙ part-append_right xs ys j 0 k long
    ∙ part_all ys k more

-- a table of 1 to 8 descriptors, no more than the queue has, is one that a chain may have
table_allowed : (memory addr count size : ℕ) → 1 ≤ count → count ≤ 8 → count ≤ size → addr + 16 * count ≤ memory → IsTrue (is_table memory addr (16 * count) size)
table_allowed memory addr count size some few fits inside =
    let quotient : 16 * count / 16 ≡ count = omega arith in
    let rest : 16 * count % 16 ≡ 0 = omega arith in
    and_from _ (nat_le (16 * count / 16) size)
    (and_from _ (nat_le (16 * count / 16) 8)
    (and_from _ (nat_le (addr + 16 * count) memory)
    (and_from (nat_lt 0 (16 * count)) (eqb (16 * count % 16) 0) (lt-ltb 0 (16 * count) (omega arith)) (eq-eqb (16 * count % 16) 0 rest))
    (le-leb (addr + 16 * count) memory inside))
    (le-leb (16 * count / 16) 8 (omega arith)))
    (le-leb (16 * count / 16) size (omega arith))

-- the descriptor of a piece is read as the piece
piece_reads : (p : Piece) (bytes : List ℕ) → FitsDescriptor p → bytes ≡ packed_descriptor_bytes (table_descriptor p) → packed_piece_of (packed_descriptor_in bytes) ≡ p
piece_reads p bytes fits is =
    let says : IsTableFlags (table_descriptor p).flags p.write = table_flags p.write in
    ap (λ (xs : List ℕ). packed_piece_of (packed_descriptor_in xs)) is
    ∙ ap packed_piece_of (packed_descriptor_in-packed_descriptor_bytes (table_descriptor p) (record { addr = fits.addr; len = fits.len; id = omega arith; flags = says.low }))
    ∙ ap (λ (w : Bool). record { addr = p.addr; len = p.len; write = w }) says.writes

-- the bytes of a table are read as its pieces
pieces_read : (mem : List ℕ) (table : ℕ) (ps : List Piece) → All FitsDescriptor ps → part mem table (16 * length ps) ≡ packed_table_bytes ps → packed_table (length ps) mem table ≡ ps
pieces_read mem table [] each is = refl
pieces_read mem table (p ∷ ps) each is =
    let d : List ℕ = packed_descriptor_bytes (table_descriptor p) in
    let long : length d ≡ 16 = refl in
    let count : 16 * length (p ∷ ps) ≡ 16 + 16 * length ps = omega arith in
    let whole : part mem table (16 + 16 * length ps) ≡ d ++ packed_table_bytes ps = ap (λ (n : ℕ). part mem table n) (sym count) ∙ is in
    let first : packed_piece_of (packed_descriptor_in (part mem table 16)) ≡ p
    = piece_reads p (part mem table 16) (All-head FitsDescriptor p ps each) (front_of_joined mem table 16 (16 * length ps) d (packed_table_bytes ps) long whole)
    in
    let rest : packed_table (length ps) mem (table + 16) ≡ ps
    = pieces_read mem (table + 16) ps (All-tail FitsDescriptor p ps each) (back_of_joined mem table 16 (16 * length ps) d (packed_table_bytes ps) long (length-packed_table_bytes ps) whole)
    in
    ap (λ (q : Piece). q ∷ packed_table (length ps) mem (table + 16)) first ∙ ap (λ (qs : List Piece). p ∷ qs) rest

-- so a table that holds the descriptors of 1 to 8 pieces, no more than the queue has, is these pieces
pub table_is_pieces : (mem : List ℕ) (table size : ℕ) (ps : List Piece) → 1 ≤ length ps → length ps ≤ 8 → length ps ≤ size → table + 16 * length ps ≤ length mem → All FitsDescriptor ps
    → part mem table (16 * length ps) ≡ packed_table_bytes ps → table_pieces mem table (16 * length ps) size false ≡ Some ps
table_is_pieces mem table size ps some few room inside each is =
    let quotient : 16 * length ps / 16 ≡ length ps = omega arith in
    cond-true (is_table (length mem) table (16 * length ps) size) (Some (packed_table (16 * length ps / 16) mem table)) None (table_allowed (length mem) table (length ps) size some few room inside)
    ∙ ap (λ (n : ℕ). Some (packed_table n mem table)) quotient
    ∙ ap Some (pieces_read mem table ps each is)
