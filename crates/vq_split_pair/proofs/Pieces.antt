-- The pieces that the descriptors of a posted buffer name.
use Rattle.std.proofs.Common.{◌≡◌, ℕ, zero, suc, ◌+◌, ◌-◌, ◌≤◌, List, [], ◌∷◌, ◌++◌, length, take, drop, map, eqb, Bool, true, false, not, IsTrue, Some, None, refl, sym, ◌∙◌, ap, subst, arith}
use Rattle.std.specs.Prelude.{All, option_map, sum}
use Rattle.std.specs.List.{list_all}
use Rattle.std.proofs.lemmas.Bool.{and_parts, cond-true, ne_eqb, not-true}
use Rattle.std.proofs.lemmas.List.Elements.{All-nil, All-cons, All-head, All-tail}
use Rattle.std.proofs.lemmas.List.Sums.{sum_by-cons}
use Rattle.guest_mem.specs.Memory.{part}
use Rattle.guest_mem.proofs.Parts.{part-append-part}
use Rattle.vt_types.specs.Operation.{PostedBuffer}
use Rattle.vq_common.specs.declared.chain.Piece.{Piece}
use Rattle.vq_common.specs.declared.chain.RingCfg.{RingCfg}
use Rattle.vq_common.specs.declared.descriptor.Descriptor.{Descriptor}
use Rattle.vt_types.specs.Within.{IsPieceWithin}
use Rattle.vq_common.specs.Buffer.{IsPostable}
use Rattle.vq_common.specs.Descriptor.{is_indirect, is_write, piece_of, flags_of}
use Rattle.vq_common.specs.Piece.{is_readable_first, keeps_rules, length_of_all, piece_at, pieces_from, readable, room}
use Rattle.vq_common.proofs.PieceLaws.{length-pieces_from}
use Rattle.vq_common.specs.Table.{pieces_if_direct}
use Rattle.vq_common.proofs.RuleFacts.{IsPiece, rules_test}
use Rattle.vq_split_dev.specs.Walk.{chain_pieces}
use Rattle.vq_split_drv.specs.Post.{descriptors_of}

-- the first of pieces is readable where any is
pub first_readable : (addr count len : ℕ) (lens : List ℕ) → pieces_from addr (suc count) (len ∷ lens) ≡ record { addr = addr; len = len; write = false } ∷ pieces_from (addr + len) count lens
first_readable addr count len lens =
    let some : eqb (suc count) 0 ≡ false = ne_eqb (suc count) 0 (λ e. absurd (omega arith)) in
    let less : suc count - 1 ≡ count = omega arith in
    rw (some, less) refl

-- flags say what the device writes, whatever follows
write_flags : (follows write : Bool) → is_write (flags_of follows write) ≡ write
write_flags true true = refl
write_flags true false = refl
write_flags false true = refl
write_flags false false = refl

-- and never name a table
direct_flags : (follows write : Bool) → is_indirect (flags_of follows write) ≡ false
direct_flags true true = refl
direct_flags true false = refl
direct_flags false true = refl
direct_flags false false = refl

-- the descriptors of a buffer name these pieces
pub pieces_named : (addr count : ℕ) (lengths locations : List ℕ) → map piece_of (descriptors_of addr count lengths locations) ≡ pieces_from addr count lengths
pieces_named addr count [] locations = refl
pieces_named addr count (len ∷ []) locations = ap (λ w. record { addr = addr; len = len; write = w } ∷ []) (write_flags false (eqb count 0))
pieces_named addr count (len ∷ more ∷ rest) locations =
    ap (λ ps. record { addr = addr; len = len; write = is_write (flags_of true (eqb count 0)) } ∷ ps) (pieces_named (addr + len) (count - 1) (more ∷ rest) (drop 1 locations))
    ∙ ap (λ w. record { addr = addr; len = len; write = w } ∷ pieces_from (addr + len) (count - 1) (more ∷ rest)) (write_flags true (eqb count 0))

-- none of the descriptors names a table
pub none_names_table : (addr count : ℕ) (lengths locations : List ℕ) → IsTrue (list_all (λ (d : Descriptor). not (is_indirect d.flags)) (descriptors_of addr count lengths locations))
none_names_table addr count [] locations = refl
none_names_table addr count (len ∷ []) locations = rw (direct_flags false (eqb count 0)) refl
none_names_table addr count (len ∷ more ∷ rest) locations = rw (direct_flags true (eqb count 0)) (none_names_table (addr + len) (count - 1) (more ∷ rest) (drop 1 locations))

-- the pieces of descriptors none of which names a table
direct_pieces : (mem : List ℕ) (c : RingCfg) (ds : List Descriptor) → IsTrue (list_all (λ (d : Descriptor). not (is_indirect d.flags)) ds) → chain_pieces mem c ds ≡ Some (map piece_of ds)
direct_pieces mem c [] direct = refl
direct_pieces mem c (d ∷ ds) direct =
    let (first, rest) = and_parts (not (is_indirect d.flags)) (list_all (λ (d : Descriptor). not (is_indirect d.flags)) ds) direct in
    rw (not-true (is_indirect d.flags) first) (ap (option_map (λ ps. piece_of d ∷ ps)) (direct_pieces mem c ds rest))

-- so the pieces of a buffer's descriptors in a chain are these
pub chain_pieces_are : (mem : List ℕ) (c : RingCfg) (addr count : ℕ) (lengths locations : List ℕ) → chain_pieces mem c (descriptors_of addr count lengths locations) ≡ Some (pieces_from addr count lengths)
chain_pieces_are mem c addr count lengths locations =
    direct_pieces mem c (descriptors_of addr count lengths locations) (none_names_table addr count lengths locations) ∙ ap Some (pieces_named addr count lengths locations)

-- and so are those of its table
pub table_pieces_are : (addr count : ℕ) (lengths locations : List ℕ) → pieces_if_direct (Some (descriptors_of addr count lengths locations)) ≡ Some (pieces_from addr count lengths)
table_pieces_are addr count lengths locations =
    let ds : List Descriptor = descriptors_of addr count lengths locations in
    cond-true (list_all (λ (d : Descriptor). not (is_indirect d.flags)) ds) (Some (map piece_of ds)) None (none_names_table addr count lengths locations) ∙ ap Some (pieces_named addr count lengths locations)

-- a sum by its first number
sum-cons : (n : ℕ) (ns : List ℕ) → sum (n ∷ ns) ≡ n + sum ns
sum-cons n ns = sum_by-cons (λ x. x) n ns

-- writable pieces read nothing
readable_none : (mem : List ℕ) (addr : ℕ) (lengths : List ℕ) → readable mem (pieces_from addr 0 lengths) ≡ []
readable_none mem addr [] = refl
readable_none mem addr (len ∷ lens) = readable_none mem (addr + len) lens

-- the readable bytes of the pieces are one part of memory
pub readable_are : (mem : List ℕ) (addr count : ℕ) (lengths : List ℕ) → readable mem (pieces_from addr count lengths) ≡ part mem addr (sum (take count lengths))
readable_are mem addr zero lengths = readable_none mem addr lengths
readable_are mem addr (suc count) [] = refl
readable_are mem addr (suc count) (len ∷ lens) =
    ap (readable mem) (first_readable addr count len lens)
    ∙ ap (λ (w : List ℕ). part mem addr len ++ w) (readable_are mem (addr + len) count lens)
    ∙ part-append-part mem addr len (sum (take count lens))
    ∙ ap (λ (n : ℕ). part mem addr n) (sym (sum-cons len (take count lens)))

-- writable pieces are all room
room_all : (addr : ℕ) (lengths : List ℕ) → room (pieces_from addr 0 lengths) ≡ sum lengths
room_all addr [] = refl
room_all addr (len ∷ lens) = ap (λ (n : ℕ). len + n) (room_all (addr + len) lens) ∙ sym (sum-cons len lens)

-- the writable room of the pieces
pub room_is : (addr count : ℕ) (lengths : List ℕ) → room (pieces_from addr count lengths) ≡ sum (drop count lengths)
room_is addr zero lengths = room_all addr lengths
room_is addr (suc count) [] = refl
room_is addr (suc count) (len ∷ lens) = ap room (first_readable addr count len lens) ∙ room_is (addr + len) count lens

-- their bytes together are the sum of the lengths
length_of_pieces : (addr count : ℕ) (lengths : List ℕ) → length_of_all (pieces_from addr count lengths) ≡ sum lengths
length_of_pieces addr count [] = refl
length_of_pieces addr count (len ∷ lens) = ap (λ (n : ℕ). len + n) (length_of_pieces (addr + len) (count - 1) lens) ∙ sym (sum-cons len lens)

-- each is a piece that the rules allow
each_allowed : (memory addr count : ℕ) (lengths : List ℕ) → All IsPieceWithin lengths → addr + sum lengths ≤ memory → All (IsPiece memory) (pieces_from addr count lengths)
each_allowed memory addr count [] each inside = All-nil (IsPiece memory)
each_allowed memory addr count (len ∷ lens) each inside =
    let this : IsPieceWithin len = All-head IsPieceWithin len lens each in
    let total : sum (len ∷ lens) ≡ len + sum lens = sum-cons len lens in
    All-cons (IsPiece memory) (piece_at addr count len) (pieces_from (addr + len) (count - 1) lens)
    (record { some = this.low; few = this.high; inside = omega arith })
    (each_allowed memory (addr + len) (count - 1) lens (All-tail IsPieceWithin len lens each) (omega arith))

-- writable pieces are writable
all_writable : (addr : ℕ) (lengths : List ℕ) → IsTrue (list_all (λ q. q.write) (pieces_from addr 0 lengths))
all_writable addr [] = refl
all_writable addr (len ∷ lens) = all_writable (addr + len) lens

-- no readable piece follows a writable one
in_order : (addr count : ℕ) (lengths : List ℕ) → IsTrue (is_readable_first (pieces_from addr count lengths))
in_order addr count [] = refl
in_order addr zero (len ∷ lens) = all_writable (addr + len) lens
in_order addr (suc count) (len ∷ lens) = subst (λ ps. IsTrue (is_readable_first ps)) (sym (first_readable addr count len lens)) (in_order (addr + len) count lens)

-- so the pieces keep the rules of a chain
pub pieces_keep_rules : (memory addr : ℕ) (b : PostedBuffer) → IsPostable b → addr + sum b.lengths ≤ memory → IsTrue (keeps_rules memory (pieces_from addr b.readable_pieces b.lengths))
pieces_keep_rules memory addr b postable inside =
    let ps : List Piece = pieces_from addr b.readable_pieces b.lengths in
    let many : length ps ≡ length b.lengths = length-pieces_from addr b.readable_pieces b.lengths in
    let some : 1 ≤ length b.lengths = postable.some in
    let few : length b.lengths ≤ 8 = postable.few in
    let total : sum b.lengths ≤ 8192 = postable.total in
    rules_test memory ps
    (record { some = omega arith; few = omega arith; each = each_allowed memory addr b.readable_pieces b.lengths postable.each inside; total = omega (arith, length_of_pieces addr b.readable_pieces b.lengths); order = in_order addr b.readable_pieces b.lengths })
