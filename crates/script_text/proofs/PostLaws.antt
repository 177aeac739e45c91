-- Facts on the pieces of a buffer.
use Rattle.std.proofs.Common.{◌≡◌, ◌≢◌, ℕ, ◌+◌, Bool, true, false, List, [], ◌∷◌, ◌++◌, length, Option, Some, None, Ok, Err, ◌⊎◌, inl, inr, refl, sym, ap, ◌∙◌, arith, append_assoc, append-nil, length-append}
use Rattle.std.specs.Prelude.{◌==◌, ◌&&◌, ◌||◌, not, cond, if◌then◌else◌, nat_le, count_by}
use Rattle.std.specs.List.{flat_map, list_all}
use Rattle.std.proofs.lemmas.Bool.{eqb-true, eqb-false}
use Rattle.std.proofs.lemmas.Bool.Decides.{nat_tests}
use Rattle.std.proofs.lemmas.Grind.{flat_map-append}
use Rattle.std.proofs.lemmas.List.{map-append, length-map}
use Rattle.std.proofs.lemmas.List.Folds.{list_all-append}
use Rattle.std.proofs.lemmas.List.Sums.{count_by-le-length, sum_by-append, sum_by-cons}
use Rattle.vt_types.specs.Operation.{PostedBuffer, posted_buffer}
use Rattle.script_text.specs.declared.fault.LineFault.{LineFault}
use Rattle.script_text.specs.declared.fault.LineFault.TheVariants.{Bad, Memory}
use Rattle.vt_types.specs.Limits.{MOST_PIECES}
use Rattle.script_text.specs.Words.{begins_with}
use Rattle.script_text.specs.Reading.{Reads, read_on, gives_if, and_words}
use Rattle.script_text.specs.Post.{Piece, Readable, Writable, is_readable, is_writable, readable_bytes, piece_length, piece_in, and_pieces, pieces, readable_first, buffer_of, buffer_in, posted_after}
use Rattle.script_text.specs.Pieces.{Has, with_piece, refuses, Adds}

-- one more piece to count
count_of : (piece : Piece) (seen : List Piece) → count_by is_readable (piece ∷ seen) ≡ cond (is_readable piece) 1 0 + count_by is_readable seen
count_of piece seen = sum_by-cons (λ x. cond (is_readable x) 1 0) piece seen

-- a readable piece may stand behind readable ones alone, a writable one behind any
first_added : (seen : List Piece) (piece : Piece) → readable_first seen ≡ true → (is_readable piece ≡ true → count_by is_readable seen ≡ length seen) → readable_first (seen ++ piece ∷ []) ≡ true
first_added [] (Readable bytes) first all = refl
first_added [] (Writable count) first all = refl
first_added (Readable bytes ∷ seen) piece first all =
    first_added seen piece first (λ h. let e = all h in let one = count_of (Readable bytes) seen in omega (arith, e, one))
first_added (Writable count ∷ seen) (Readable bytes) first all =
    let e = all refl in
    let none = count_of (Writable count) seen in
    let few = count_by-le-length is_readable seen in
    absurd (omega (arith, e, none, few))
first_added (Writable count ∷ seen) (Writable more) first all = list_all-append is_writable seen (Writable more ∷ []) ∙ rw first refl

last_false : (b : Bool) → (b && false) ≡ false
last_false true = refl
last_false false = refl

-- and not behind a writable one
first_refused : (seen : List Piece) (bytes : List ℕ) (others : List Piece) → count_by is_readable seen ≢ length seen → readable_first (seen ++ Readable bytes ∷ others) ≡ false
first_refused [] bytes others some = absurd (some refl)
first_refused (Readable b ∷ seen) bytes others some = first_refused seen bytes others (λ e. some (count_of (Readable b) seen ∙ omega (arith, e)))
first_refused (Writable count ∷ seen) bytes others some =
    list_all-append is_writable seen (Readable bytes ∷ others) ∙ last_false (list_all is_writable seen)

-- a buffer with one more piece is that of one more piece
fields_are : (tag : ℕ) (indirect : Bool) (readable readable2 lengths lengths2 : List ℕ) (n n2 : ℕ) → readable ≡ readable2 → lengths ≡ lengths2 → n ≡ n2
    → (let buffer : PostedBuffer = record { tag = tag; indirect = indirect; readable = readable; lengths = lengths; readable_pieces = n } in buffer)
    ≡ (let buffer : PostedBuffer = record { tag = tag; indirect = indirect; readable = readable2; lengths = lengths2; readable_pieces = n2 } in buffer)
fields_are tag indirect readable readable2 lengths lengths2 n n2 er el en = rw (er, el, en) refl

count_more : (seen : List Piece) (piece : Piece) → (if is_readable piece then count_by is_readable seen + 1 else count_by is_readable seen) ≡ count_by is_readable (seen ++ piece ∷ [])
count_more seen (Readable bytes) = sym (sum_by-append (λ x. cond (is_readable x) 1 0) seen (Readable bytes ∷ []))
count_more seen (Writable count) = sym (sum_by-append (λ x. cond (is_readable x) 1 0) seen (Writable count ∷ []) ∙ omega arith)

bytes_more : (seen : List Piece) (piece : Piece) → flat_map readable_bytes seen ++ readable_bytes piece ≡ flat_map readable_bytes (seen ++ piece ∷ [])
bytes_more seen piece = sym (flat_map-append readable_bytes seen (piece ∷ []) ∙ ap (λ z. flat_map readable_bytes seen ++ z) (append-nil (readable_bytes piece)))

buffer_more : (tag : ℕ) (indirect : Bool) (seen : List Piece) (piece : Piece) → with_piece piece (buffer_of tag indirect seen) ≡ buffer_of tag indirect (seen ++ piece ∷ [])
buffer_more tag indirect seen piece =
    fields_are tag indirect _ _ _ _ _ _ (bytes_more seen piece) (sym (map-append piece_length seen (piece ∷ []))) (count_more seen piece)

-- how many pieces a buffer has, and how many of them are readable
pub lengths_of : (seen : List Piece) (buffer : PostedBuffer) → Has seen buffer → length buffer.lengths ≡ length seen
lengths_of seen buffer has = ap (λ (b : PostedBuffer). length b.lengths) has.is ∙ length-map seen piece_length

pub readables_of : (seen : List Piece) (buffer : PostedBuffer) → Has seen buffer → buffer.readable_pieces ≡ count_by is_readable seen
readables_of seen buffer has = ap (λ (b : PostedBuffer). b.readable_pieces) has.is

-- what the test of a further piece says
taken_by : (full readable few : Bool) → (full || (readable && not few)) ≡ false → (full ≡ false) × (readable ≡ true → few ≡ true)
taken_by true readable few h = absurd cc
taken_by false true true h = (refl, λ _. refl)
taken_by false true false h = absurd cc
taken_by false false few h = (refl, λ e. absurd cc)

refused_by : (full readable few : Bool) → (full || (readable && not few)) ≡ true → (full ≡ true) ⊎ ((readable ≡ true) × (few ≡ false))
refused_by true readable few h = inl refl
refused_by false true true h = absurd cc
refused_by false true false h = inr (refl, refl)
refused_by false false few h = absurd cc

pub has_more : (seen : List Piece) (piece : Piece) (buffer : PostedBuffer) → Has seen buffer → refuses piece buffer ≡ false → Has (seen ++ piece ∷ []) (with_piece piece buffer)
has_more seen piece buffer has taken =
    let lengths = lengths_of seen buffer has in
    let readables = readables_of seen buffer has in
    let (room, behind) = taken_by (length buffer.lengths == MOST_PIECES) (is_readable piece) (buffer.readable_pieces == length buffer.lengths) taken in
    let few = has.few in
    let other = eqb-false (length buffer.lengths) 8 room in
    record {
      is = ap (with_piece piece) has.is ∙ buffer_more buffer.tag buffer.indirect seen piece;
      first = first_added seen piece has.first (λ h. sym readables ∙ eqb-true buffer.readable_pieces (length buffer.lengths) (behind h) ∙ lengths);
      few = rw (length-append seen (piece ∷ [])) (omega (arith, few, lengths, other));
    }

-- a list of pieces that is too long or in another order is no buffer
none_if : {A : Type 0} (some few first : Bool) (a : A) → (few ≡ false) ⊎ (first ≡ false) → (if some && few && first then Some a else None) ≡ None
none_if true true true a (inl h) = absurd cc
none_if true true true a (inr h) = absurd cc
none_if true true false a h = refl
none_if true false first a h = refl
none_if false few first a h = refl

too_many : (seen : List Piece) (piece : Piece) (others : List Piece) → length seen ≡ 8 → nat_le (length (seen ++ piece ∷ others)) 8 ≡ false
too_many seen piece others full = let len = length-append seen (piece ∷ others) in grind (arith, nat_tests, len)

pub refused_piece : (seen : List Piece) (piece : Piece) (others : List Piece) (buffer : PostedBuffer) → Has seen buffer → refuses piece buffer ≡ true
    → buffer_in buffer.tag buffer.indirect (seen ++ piece ∷ others) ≡ None
refused_piece seen (Readable bytes) others buffer has refused =
    let lengths = lengths_of seen buffer has in
    let readables = readables_of seen buffer has in
    let all = seen ++ Readable bytes ∷ others in
    none_if (nat_le 1 (length all)) (nat_le (length all) MOST_PIECES) (readable_first all) (buffer_of buffer.tag buffer.indirect all)
    (elim (refused_by (length buffer.lengths == MOST_PIECES) true (buffer.readable_pieces == length buffer.lengths) refused) [
      | inl full ↦ inl (too_many seen (Readable bytes) others (sym lengths ∙ eqb-true (length buffer.lengths) 8 full))
      | inr behind ↦ inr (first_refused seen bytes others (λ e. eqb-false buffer.readable_pieces (length buffer.lengths) behind.1 (readables ∙ e ∙ sym lengths)))
    ])
refused_piece seen (Writable count) others buffer has refused =
    let lengths = lengths_of seen buffer has in
    let all = seen ++ Writable count ∷ others in
    none_if (nat_le 1 (length all)) (nat_le (length all) MOST_PIECES) (readable_first all) (buffer_of buffer.tag buffer.indirect all)
    (elim (refused_by (length buffer.lengths == MOST_PIECES) false (buffer.readable_pieces == length buffer.lengths) refused) [
      | inl full ↦ inl (too_many seen (Writable count) others (sym lengths ∙ eqb-true (length buffer.lengths) 8 full))
      | inr behind ↦ absurd (let h = behind.0 in cc)
    ])

-- some pieces were read into a buffer, and the others are still words
pub record Seen (t : ℕ) (i : Bool) (all words : List (List ℕ)) (buffer : PostedBuffer) : Type 0 where
  pub seen : List Piece
  pub has : Has seen buffer
  pub tag : buffer.tag ≡ t
  pub indirect : buffer.indirect ≡ i
  pub same : posted_after seen t i words ≡ posted_after [] t i all

-- one more word that is a piece
piece_word : (seen : List Piece) (t : ℕ) (i : Bool) (word : List ℕ) (words : List (List ℕ)) (piece : Piece) (others : Option (List Piece × List (List ℕ)))
    → begins_with 64 word ≡ false → piece_in word ≡ Some piece → pieces words ≡ others
    → posted_after seen t i (word ∷ words) ≡ read_on (and_pieces (Some piece) others) (λ more. gives_if (buffer_in t i (seen ++ more)))
piece_word seen t i word words piece others other is e = rw (other, is, e) refl

moved : (seen : List Piece) (t : ℕ) (i : Bool) (piece : Piece) (others : Option (List Piece × List (List ℕ)))
    → read_on (and_pieces (Some piece) others) (λ more. gives_if (buffer_in t i (seen ++ more))) ≡ read_on others (λ more. gives_if (buffer_in t i ((seen ++ piece ∷ []) ++ more)))
moved seen t i piece None = refl
moved seen t i piece (Some (others, words)) = ap (λ all. gives_if (buffer_in t i all) words) (sym (append_assoc seen (piece ∷ []) others))

pub seen_more : (t : ℕ) (i : Bool) (all before : List (List ℕ)) (word : List ℕ) (words : List (List ℕ)) (piece : Piece) (buffer buffer2 : PostedBuffer)
    → Seen t i all before buffer → before ≡ word ∷ words → begins_with 64 word ≡ false → piece_in word ≡ Some piece
    → Adds piece (Ok tt) buffer buffer2 → Seen t i all words buffer2
seen_more t i all before word words piece buffer buffer2 so is other spelled added =
    let (taken, new) = added in
    record {
      seen = so.seen ++ piece ∷ [];
      has = rw new (has_more so.seen piece buffer so.has taken);
      tag = ap (λ (b : PostedBuffer). b.tag) new ∙ so.tag;
      indirect = ap (λ (b : PostedBuffer). b.indirect) new ∙ so.indirect;
      same =
          sym (moved so.seen t i piece (pieces words)) ∙ sym (piece_word so.seen t i word words piece (pieces words) other spelled refl)
          ∙ ap (posted_after so.seen t i) (sym is) ∙ so.same;
    }

none_with : (seen : List Piece) (t : ℕ) (i : Bool) (piece : Piece) (others : Option (List Piece × List (List ℕ)))
    → ((more : List Piece) → buffer_in t i (seen ++ piece ∷ more) ≡ None) → read_on (and_pieces (Some piece) others) (λ more. gives_if (buffer_in t i (seen ++ more))) ≡ None
none_with seen t i piece None none = refl
none_with seen t i piece (Some (others, words)) none = ap (λ b. and_words b words) (none others)

pub seen_refused : (t : ℕ) (i : Bool) (all before : List (List ℕ)) (word : List ℕ) (words : List (List ℕ)) (piece : Piece) (buffer : PostedBuffer)
    → Seen t i all before buffer → before ≡ word ∷ words → begins_with 64 word ≡ false → piece_in word ≡ Some piece → refuses piece buffer ≡ true
    → posted_after [] t i all ≡ None
seen_refused t i all before word words piece buffer so is other spelled refused =
    sym so.same ∙ ap (posted_after so.seen t i) is ∙ piece_word so.seen t i word words piece (pieces words) other spelled refl
    ∙ none_with so.seen t i piece (pieces words) (λ more. rw so.tag at (rw so.indirect at (refused_piece so.seen piece more buffer so.has refused)))

-- a fault at the next piece
pub seen_fault : (fault : LineFault) (t : ℕ) (i : Bool) (all before : List (List ℕ)) (word : List ℕ) (words : List (List ℕ)) (piece : Piece) (buffer buffer2 : PostedBuffer)
    → Seen t i all before buffer → before ≡ word ∷ words → begins_with 64 word ≡ false → piece_in word ≡ Some piece
    → Adds piece (Err fault) buffer buffer2 → Reads posted_buffer (Err fault) words (posted_after [] t i all)
seen_fault Bad t i all before word words piece buffer buffer2 so is other spelled added = seen_refused t i all before word words piece buffer so is other spelled added
seen_fault Memory t i all before word words piece buffer buffer2 so is other spelled added = tt
