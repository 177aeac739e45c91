-- Facts on the bounds of events and buffers.
use Rattle.std.proofs.Common.{◌≡◌, ℕ, zero, suc, ◌+◌, ◌≤◌, ◌<◌, true, List, [], ◌∷◌, ◌++◌, length, take, map, Ok, refl, sym, ap, ◌∙◌, arith, length-append, zero-add}
use Rattle.std.specs.Prelude.{All, sum, count_by, cond, slice_index_or}
use Rattle.std.specs.List.{flat_map, list_all}
use Rattle.std.proofs.lemmas.List.Elements.{All-append}
use Rattle.std.proofs.lemmas.List.Sums.{count_by-le-length, sum_by-cons}
use Rattle.vt_types.specs.Operation.{PostedBuffer}
use Rattle.script_text.specs.Post.{Piece, Readable, Writable, is_readable, is_writable, readable_bytes, piece_length, readable_first}
use Rattle.script_text.specs.Pieces.{Has, Adds}
use Rattle.vt_types.specs.Within.{IsPieceWithin, IsBufferWithin}
use Rattle.script_text.proofs.PostLaws.{lengths_of, readables_of}

-- what holds of a list and of one more element
one_at : {X : Type 0} (P : X → Type 0) (x : X) → P x → (k : ℕ) (d : X) → k < 1 → P (slice_index_or (x ∷ []) k d)
one_at P x h zero d below = h
one_at P x h (suc k) d below = absurd (omega arith)

all_one : {X : Type 0} (P : X → Type 0) (x : X) → P x → All P (x ∷ [])
all_one P x h = one_at P x h

pub all_more : {X : Type 0} (P : X → Type 0) (xs : List X) (x : X) → All P xs → P x → All P (xs ++ x ∷ [])
all_more P xs x all h = All-append P xs (x ∷ []) all (all_one P x h)

pub all_none : {X : Type 0} (P : X → Type 0) → All P []
all_none P = λ k d below. absurd (omega arith)

-- a buffer to which a piece within bounds was added
pub each_more : (piece : Piece) (buffer buffer2 : PostedBuffer) → Adds piece (Ok tt) buffer buffer2 → All IsPieceWithin buffer.lengths → IsPieceWithin (piece_length piece)
    → All IsPieceWithin buffer2.lengths
each_more piece buffer buffer2 added each within = rw added.1 (all_more IsPieceWithin buffer.lengths (piece_length piece) each within)

-- writable pieces have no bytes to read
none_readable : (seen : List Piece) → list_all is_writable seen ≡ true → (flat_map readable_bytes seen ≡ []) × (count_by is_readable seen ≡ 0)
none_readable [] all = (refl, refl)
none_readable (Readable bytes ∷ seen) all = absurd cc
none_readable (Writable count ∷ seen) all =
    let (none, zero_of) = none_readable seen all in
    (none, sum_by-cons (λ x. cond (is_readable x) 1 0) (Writable count) seen ∙ zero-add (count_by is_readable seen) ∙ zero_of)

-- the bytes of the readable pieces are as many as these say
readable_len : (seen : List Piece) → readable_first seen ≡ true → length (flat_map readable_bytes seen) ≡ sum (take (count_by is_readable seen) (map piece_length seen))
readable_len [] first = refl
readable_len (Readable bytes ∷ seen) first =
    let c = count_by is_readable seen in
    let one : count_by is_readable (Readable bytes ∷ seen) ≡ suc c = sum_by-cons (λ x. cond (is_readable x) 1 0) (Readable bytes) seen ∙ omega arith in
    let front : sum (length bytes ∷ take c (map piece_length seen)) ≡ length bytes + sum (take c (map piece_length seen)) = sum_by-cons (λ x. x) (length bytes) (take c (map piece_length seen)) in
    length-append bytes (flat_map readable_bytes seen) ∙ ap (λ n. length bytes + n) (readable_len seen first) ∙ sym front
    ∙ ap (λ n. sum (take n (length bytes ∷ map piece_length seen))) (sym one)
readable_len (Writable count ∷ seen) first =
    let (none, zero_of) = none_readable seen first in
    let no_count : count_by is_readable (Writable count ∷ seen) ≡ 0 = sum_by-cons (λ x. cond (is_readable x) 1 0) (Writable count) seen ∙ zero-add (count_by is_readable seen) ∙ zero_of in
    ap length none ∙ ap (λ n. sum (take n (count ∷ map piece_length seen))) (sym no_count)

-- a buffer of pieces that are within bounds
pub buffer_within : (seen : List Piece) (b : PostedBuffer) → Has seen b → All IsPieceWithin b.lengths → 1 ≤ length b.lengths → IsBufferWithin b
buffer_within seen b has each some =
    let lengths = lengths_of seen b has in
    let readables = readables_of seen b has in
    let few = has.few in
    let split = count_by-le-length is_readable seen in
    let list : b.lengths ≡ map piece_length seen = ap (λ (x : PostedBuffer). x.lengths) has.is in
    let bytes : b.readable ≡ flat_map readable_bytes seen = ap (λ (x : PostedBuffer). x.readable) has.is in
    record {
      some = some;
      few = omega arith;
      each = each;
      split = omega arith;
      readable = ap length bytes ∙ readable_len seen has.first ∙ ap (λ n. sum (take n (map piece_length seen))) (sym readables) ∙ ap (λ ls. sum (take b.readable_pieces ls)) (sym list);
    }
