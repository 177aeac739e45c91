-- What pieces read and leave.
use Rattle.std.proofs.Common.{◌≡◌, ℕ, suc, ◌+◌, ◌-◌, ◌<◌, ◌≤◌, List, [], ◌∷◌, ◌++◌, length, get_or, take, drop, Bool, true, false, refl, sym, ◌∙◌, ap, arith, append_assoc, length-append, length-take}
use Rattle.std.specs.Prelude.{if◌then◌else◌}
use Rattle.std.specs.List.{All}
use Rattle.std.proofs.lemmas.Grind.{common_steps}
use Rattle.std.proofs.lemmas.List.{drop-drop, drop_more}
use Rattle.std.proofs.lemmas.List.Elements.{All-head, All-tail}
use Rattle.guest_mem.specs.Memory.{part, put_at, Apart}
use Rattle.guest_mem.proofs.Parts.{length-part, length-put_at, part-put_at_apart}
use Rattle.guest_mem.proofs.Puts.{put_at-nil}
use Rattle.guest_mem.proofs.Ranges.{Apart-inside}
use Rattle.vq_common.specs.declared.chain.Piece.{Piece}
use Rattle.vq_common.specs.Piece.{length_of_all, piece_at, pieces_from, readable, readable_len, room, scatter}
use Rattle.vq_common.proofs.RuleFacts.{IsInside}

-- a writable piece lies apart from n bytes from address a on
abbrev pub IsWrittenApart : ℕ → ℕ → Piece → Type 0
IsWrittenApart a n p = p.write ≡ true → Apart p.addr p.len a n

-- the readable bytes of two lists of pieces
pub readable-append : (mem : List ℕ) (ps qs : List Piece) → readable mem (ps ++ qs) ≡ readable mem ps ++ readable mem qs
readable-append mem [] qs = refl
readable-append mem (p ∷ ps) qs =
    elim p.write as (λ w. (if w then readable mem (ps ++ qs) else part mem p.addr p.len ++ readable mem (ps ++ qs))
    ≡ (if w then readable mem ps else part mem p.addr p.len ++ readable mem ps) ++ readable mem qs) [
      | true ↦ readable-append mem ps qs
      | false ↦ ap (λ (w : List ℕ). part mem p.addr p.len ++ w) (readable-append mem ps qs) ∙ sym (append_assoc (part mem p.addr p.len) (readable mem ps) (readable mem qs))
    ]

-- their room, and the number of their readable bytes
pub room-append : (ps qs : List Piece) → room (ps ++ qs) ≡ room ps + room qs
room-append [] qs = omega arith
room-append (p ∷ ps) qs =
    elim p.write as (λ w. (if w then p.len + room (ps ++ qs) else room (ps ++ qs)) ≡ (if w then p.len + room ps else room ps) + room qs)
    [ true ↦ omega (arith, room-append ps qs) | false ↦ room-append ps qs ]

pub readable_len-append : (ps qs : List Piece) → readable_len (ps ++ qs) ≡ readable_len ps + readable_len qs
readable_len-append [] qs = omega arith
readable_len-append (p ∷ ps) qs =
    elim p.write as (λ w. (if w then readable_len (ps ++ qs) else p.len + readable_len (ps ++ qs)) ≡ (if w then readable_len ps else p.len + readable_len ps) + readable_len qs)
    [ true ↦ readable_len-append ps qs | false ↦ omega (arith, readable_len-append ps qs) ]

pub length_of_all-append : (ps qs : List Piece) → length_of_all (ps ++ qs) ≡ length_of_all ps + length_of_all qs
length_of_all-append [] qs = omega arith
length_of_all-append (p ∷ ps) qs = omega (arith, length_of_all-append ps qs)

-- of pieces inside memory all readable bytes are there
pub length-readable : (mem : List ℕ) (ps : List Piece) → All (IsInside (length mem)) ps → length (readable mem ps) ≡ readable_len ps
length-readable mem [] inside = refl
length-readable mem (p ∷ ps) inside =
    let here : p.addr + p.len ≤ length mem = All-head (IsInside (length mem)) p ps inside in
    let rest : length (readable mem ps) ≡ readable_len ps = length-readable mem ps (All-tail (IsInside (length mem)) p ps inside) in
    let long : length (part mem p.addr p.len) ≡ p.len = length-part mem p.addr p.len here in
    elim p.write as (λ w. length (if w then readable mem ps else part mem p.addr p.len ++ readable mem ps) ≡ (if w then readable_len ps else p.len + readable_len ps))
    [ true ↦ rest | false ↦ omega (arith, length-append (part mem p.addr p.len) (readable mem ps)) ]

-- bytes written over the pieces of two lists
pub scatter-append : (mem : List ℕ) (ps qs : List Piece) (bytes : List ℕ) → scatter mem (ps ++ qs) bytes ≡ scatter (scatter mem ps bytes) qs (drop (room ps) bytes)
scatter-append mem [] qs bytes = refl
scatter-append mem (p ∷ ps) qs bytes =
    elim p.write as (λ w. (if w then scatter (put_at mem p.addr (take p.len bytes)) (ps ++ qs) (drop p.len bytes) else scatter mem (ps ++ qs) bytes)
    ≡ scatter (if w then scatter (put_at mem p.addr (take p.len bytes)) ps (drop p.len bytes) else scatter mem ps bytes) qs (drop (if w then p.len + room ps else room ps) bytes)) [
      | true ↦ scatter-append (put_at mem p.addr (take p.len bytes)) ps qs (drop p.len bytes)
          ∙ ap (λ (left : List ℕ). scatter (scatter (put_at mem p.addr (take p.len bytes)) ps (drop p.len bytes)) qs left) (drop-drop (room ps) p.len bytes)
      | false ↦ scatter-append mem ps qs bytes
    ]

-- no bytes leave memory as it was
pub scatter-nil : (mem : List ℕ) (ps : List Piece) → scatter mem ps [] ≡ mem
scatter-nil mem [] = refl
scatter-nil mem (p ∷ ps) =
    let none : take p.len [] ≡ [] = grind (arith, common_steps) in
    let left : drop p.len [] ≡ [] = grind (arith, common_steps) in
    elim p.write as (λ w. (if w then scatter (put_at mem p.addr (take p.len [])) ps (drop p.len []) else scatter mem ps []) ≡ mem) [
      | true ↦ ap (λ (w : List ℕ). scatter (put_at mem p.addr w) ps (drop p.len [])) none
          ∙ ap (λ (m : List ℕ). scatter m ps (drop p.len [])) (put_at-nil mem p.addr)
          ∙ ap (λ (w : List ℕ). scatter mem ps w) left
          ∙ scatter-nil mem ps
      | false ↦ scatter-nil mem ps
    ]

-- a piece is at least as long as what is written over it
written-le : (n : ℕ) (bytes : List ℕ) → length (take n bytes) ≤ n
written-le n bytes = omega (arith, length-take n bytes)

-- writing over one piece inside memory leaves the length
length-write : (mem : List ℕ) (p : Piece) (bytes : List ℕ) → p.addr + p.len ≤ length mem → length (put_at mem p.addr (take p.len bytes)) ≡ length mem
length-write mem p bytes inside = length-put_at mem p.addr (take p.len bytes) (omega (arith, written-le p.len bytes))

-- writing over pieces inside memory leaves its length
pub length-scatter : (mem : List ℕ) (ps : List Piece) (bytes : List ℕ) → All (IsInside (length mem)) ps → length (scatter mem ps bytes) ≡ length mem
length-scatter mem [] bytes inside = refl
length-scatter mem (p ∷ ps) bytes inside =
    let here : p.addr + p.len ≤ length mem = All-head (IsInside (length mem)) p ps inside in
    let rest : All (IsInside (length mem)) ps = All-tail (IsInside (length mem)) p ps inside in
    let long : length (put_at mem p.addr (take p.len bytes)) ≡ length mem = length-write mem p bytes here in
    elim p.write as (λ w. length (if w then scatter (put_at mem p.addr (take p.len bytes)) ps (drop p.len bytes) else scatter mem ps bytes) ≡ length mem)
    [ true ↦ length-scatter (put_at mem p.addr (take p.len bytes)) ps (drop p.len bytes) (rw long rest) ∙ long | false ↦ length-scatter mem ps bytes rest ]

-- and bytes apart from the piece
write_apart : (mem : List ℕ) (p : Piece) (bytes : List ℕ) (a n : ℕ) → p.addr + p.len ≤ length mem → Apart p.addr p.len a n → part (put_at mem p.addr (take p.len bytes)) a n ≡ part mem a n
write_apart mem p bytes a n inside apart =
    part-put_at_apart mem p.addr (take p.len bytes) a n (omega (arith, written-le p.len bytes))
    (Apart-inside p.addr p.len a n p.addr (length (take p.len bytes)) (omega arith) (omega (arith, written-le p.len bytes)) apart)

part_by_test : (w : Bool) (mem : List ℕ) (p : Piece) (ps : List Piece) (bytes : List ℕ) (a n : ℕ)
    → (w ≡ true → part (scatter (put_at mem p.addr (take p.len bytes)) ps (drop p.len bytes)) a n ≡ part mem a n)
    → part (scatter mem ps bytes) a n ≡ part mem a n
    → part (if w then scatter (put_at mem p.addr (take p.len bytes)) ps (drop p.len bytes) else scatter mem ps bytes) a n ≡ part mem a n
part_by_test true mem p ps bytes a n written kept = written refl
part_by_test false mem p ps bytes a n written kept = kept

-- bytes that lie apart from all writable pieces stay
pub part-scatter : (mem : List ℕ) (ps : List Piece) (bytes : List ℕ) (a n : ℕ) → All (IsInside (length mem)) ps → All (IsWrittenApart a n) ps
    → part (scatter mem ps bytes) a n ≡ part mem a n
part-scatter mem [] bytes a n inside apart = refl
part-scatter mem (p ∷ ps) bytes a n inside apart =
    let here : p.addr + p.len ≤ length mem = All-head (IsInside (length mem)) p ps inside in
    let rest : All (IsInside (length mem)) ps = All-tail (IsInside (length mem)) p ps inside in
    let long : length (put_at mem p.addr (take p.len bytes)) ≡ length mem = length-write mem p bytes here in
    let away : IsWrittenApart a n p = All-head (IsWrittenApart a n) p ps apart in
    let others : All (IsWrittenApart a n) ps = All-tail (IsWrittenApart a n) p ps apart in
    part_by_test p.write mem p ps bytes a n
    (λ e. part-scatter (put_at mem p.addr (take p.len bytes)) ps (drop p.len bytes) a n (rw long rest) others ∙ write_apart mem p bytes a n here (away e))
    (part-scatter mem ps bytes a n rest others)

-- there are as many pieces as lengths
pub length-pieces_from : (addr readable : ℕ) (lengths : List ℕ) → length (pieces_from addr readable lengths) ≡ length lengths
length-pieces_from addr readable [] = refl
length-pieces_from addr readable (len ∷ rest) = ap suc (length-pieces_from (addr + len) (readable - 1) rest)

-- the i-th piece, and then the others
pub pieces_from-next : (addr readable : ℕ) (lengths : List ℕ) (i : ℕ) → i < length lengths
    → pieces_from addr readable (drop i lengths) ≡ piece_at addr readable (get_or lengths i 0) ∷ pieces_from (addr + get_or lengths i 0) (readable - 1) (drop (i + 1) lengths)
pieces_from-next addr readable lengths i less = ap (pieces_from addr readable) (drop_more lengths i 0 less)
