-- What is read and written from a location on.
use Rattle.std.proofs.Common.{◌≡◌, ℕ, zero, suc, ◌+◌, ◌-◌, ◌*◌, ◌/◌, ◌≤◌, ◌<◌, List, [], ◌∷◌, ◌++◌, length, take, drop, min, Bool, true, false, refl, sym, ◌∙◌, ap, arith, inl, inr, get_or, IsTrue, subst, add-one, append_assoc, append-nil, length-append, length-take, length-drop}
use Rattle.std.specs.Prelude.{if◌then◌else◌}
use Rattle.std.specs.List.{All, list_all}
use Rattle.std.proofs.lemmas.Grind.{common_steps}
use Rattle.std.proofs.lemmas.Bool.{cases_lt}
use Rattle.std.proofs.lemmas.List.{take_at, drop_min, drop-drop, take-append-le, drop-append-le}
use Rattle.std.proofs.lemmas.List.Elements.{All-head, All-tail}
use Rattle.std.proofs.Math.Seq.{take-nil, drop-nil, drop-cons}
use borrow.Rule.Slice.PartMut.{put_mid}
use Rattle.guest_mem.specs.Memory.{part, put_at}
use Rattle.guest_mem.specs.Pages.{MemoryView, missing, with_pages, written}
use Rattle.vt_types.specs.Access.{pages_touched}
use Rattle.guest_mem.proofs.Parts.{length-part, length-put_at, part-part}
use Rattle.guest_mem.proofs.Puts.{put_at-nil, put_at-put_at_next_at}
use Rattle.vq_common.specs.declared.chain.Piece.{Piece}
use Rattle.vq_common.specs.Piece.{is_piece, readable, readable_len, scatter}
use Rattle.vq_common.specs.Partial.{pages_short, scatter_from}
use Rattle.vq_common.proofs.PagesLaws.{pages_inside, short_write, short_enough}
use Rattle.vq_common.proofs.PieceLaws.{length-readable}
use Rattle.vq_common.proofs.RuleFacts.{IsInside, IsPiece, pieces_facts, pieces_test}

-- the front and the rest of joined bytes, from any location on
pub take_joined : (n : ℕ) (xs ys : List ℕ) → take n (xs ++ ys) ≡ take n xs ++ take (n - length xs) ys
take_joined n [] ys = let same : n - 0 ≡ n = omega arith in rw (take-nil, same) refl
take_joined zero (x ∷ xs) ys = let none : 0 - length (x ∷ xs) ≡ 0 = omega arith in rw none refl
take_joined (suc n) (x ∷ xs) ys =
    let left : suc n - length (x ∷ xs) ≡ n - length xs = omega arith in
    rw left (ap (λ (w : List ℕ). x ∷ w) (take_joined n xs ys))

pub drop_joined : (n : ℕ) (xs ys : List ℕ) → drop n (xs ++ ys) ≡ drop n xs ++ drop (n - length xs) ys
drop_joined n [] ys = let same : n - 0 ≡ n = omega arith in rw (drop-nil, same) refl
drop_joined zero (x ∷ xs) ys = let none : 0 - length (x ∷ xs) ≡ 0 = omega arith in rw none refl
drop_joined (suc n) (x ∷ xs) ys =
    let left : suc n - length (x ∷ xs) ≡ n - length xs = omega arith in
    rw left (drop_joined n xs ys)

-- a part of joined bytes
pub part_joined : (xs ys : List ℕ) (at n : ℕ) → part (xs ++ ys) at n ≡ part xs at n ++ take (n - (length xs - at)) (drop (at - length xs) ys)
part_joined xs ys at n =
    ap (take n) (drop_joined at xs ys)
    ∙ take_joined n (drop at xs) (drop (at - length xs) ys)
    ∙ ap (λ (k : ℕ). part xs at n ++ take (n - k) (drop (at - length xs) ys)) (length-drop at xs)

-- writing no bytes
pub scatter_from-nil : (k : ℕ) (mem : List ℕ) (ps : List Piece) → scatter_from k mem ps [] ≡ mem
scatter_from-nil k mem [] = refl
scatter_from-nil k mem (p ∷ ps) =
    elim p.write as (λ w. (if w then scatter_from (k - p.len) (put_at mem (p.addr + k) (take (p.len - k) [])) ps (drop (p.len - k) []) else scatter_from k mem ps []) ≡ mem) [
      | true ↦ ap (λ (w : List ℕ). scatter_from (k - p.len) (put_at mem (p.addr + k) w) ps (drop (p.len - k) [])) (take-nil (p.len - k))
          ∙ ap (λ (m : List ℕ). scatter_from (k - p.len) m ps (drop (p.len - k) [])) (put_at-nil mem (p.addr + k))
          ∙ ap (λ (w : List ℕ). scatter_from (k - p.len) mem ps w) (drop-nil (p.len - k))
          ∙ scatter_from-nil (k - p.len) mem ps
      | false ↦ scatter_from-nil k mem ps
    ]

-- writing from the first writable byte on
pub scatter_from-zero : (mem : List ℕ) (ps : List Piece) (bytes : List ℕ) → scatter_from 0 mem ps bytes ≡ scatter mem ps bytes
scatter_from-zero mem [] bytes = refl
scatter_from-zero mem (p ∷ ps) bytes =
    let none : 0 - p.len ≡ 0 = omega arith in
    let all : p.len - 0 ≡ p.len = omega arith in
    let same : p.addr + 0 ≡ p.addr = omega arith in
    elim p.write as (λ w. (if w then scatter_from (0 - p.len) (put_at mem (p.addr + 0) (take (p.len - 0) bytes)) ps (drop (p.len - 0) bytes) else scatter_from 0 mem ps bytes)
    ≡ (if w then scatter (put_at mem p.addr (take p.len bytes)) ps (drop p.len bytes) else scatter mem ps bytes)) [
      | true ↦ rw (none, all, same) (scatter_from-zero (put_at mem p.addr (take p.len bytes)) ps (drop p.len bytes))
      | false ↦ scatter_from-zero mem ps bytes
    ]

-- writing over one piece from a location on leaves the length
pub length-write_from : (mem : List ℕ) (p : Piece) (k : ℕ) (bytes : List ℕ) → p.addr + p.len ≤ length mem → length (put_at mem (p.addr + k) (take (p.len - k) bytes)) ≡ length mem
length-write_from mem p k bytes inside =
    elim (cases_lt k p.len) [
      | inl within ↦ length-put_at mem (p.addr + k) (take (p.len - k) bytes) (omega (arith, length-take (p.len - k) bytes))
      | inr past ↦
          let none : p.len - k ≡ 0 = omega arith in
          rw none (ap length (put_at-nil mem (p.addr + k)))
    ]

-- first bytes end in a piece or behind it, and then bytes behind them are written
after_piece : (k : ℕ) (mem : List ℕ) (p : Piece) (ps : List Piece) (xs ys : List ℕ)
    → ((mem1 xs1 : List ℕ) → length mem1 ≡ length mem → scatter_from (k - p.len + length xs1) (scatter_from (k - p.len) mem1 ps xs1) ps ys ≡ scatter_from (k - p.len) mem1 ps (xs1 ++ ys))
    → p.addr + p.len ≤ length mem
    → p.len ≤ k + length xs
    → scatter_from (k + length xs - p.len) (put_at (scatter_from (k - p.len) (put_at mem (p.addr + k) (take (p.len - k) xs)) ps (drop (p.len - k) xs)) (p.addr + (k + length xs)) (take (p.len - (k + length xs)) ys)) ps (drop (p.len - (k + length xs)) ys)
    ≡ scatter_from (k - p.len) (put_at mem (p.addr + k) (take (p.len - k) (xs ++ ys))) ps (drop (p.len - k) (xs ++ ys))
after_piece k mem p ps xs ys rest inside behind =
    let mem1 : List ℕ = put_at mem (p.addr + k) (take (p.len - k) xs) in
    let xs1 : List ℕ = drop (p.len - k) xs in
    let none : p.len - (k + length xs) ≡ 0 = omega arith in
    let location : k + length xs - p.len ≡ k - p.len + length xs1 = omega (arith, length-drop (p.len - k) xs) in
    let front : take (p.len - k) (xs ++ ys) ≡ take (p.len - k) xs = take-append-le (p.len - k) xs ys (omega arith) in
    let back : drop (p.len - k) (xs ++ ys) ≡ xs1 ++ ys = drop-append-le (p.len - k) xs ys (omega arith) in
    rw (none, put_at-nil, location, front, back) (rest mem1 xs1 (length-write_from mem p k xs inside))

within_piece : (k : ℕ) (mem : List ℕ) (p : Piece) (ps : List Piece) (xs ys : List ℕ)
    → p.addr + p.len ≤ length mem
    → k + length xs ≤ p.len
    → scatter_from (k + length xs - p.len) (put_at (scatter_from (k - p.len) (put_at mem (p.addr + k) (take (p.len - k) xs)) ps (drop (p.len - k) xs)) (p.addr + (k + length xs)) (take (p.len - (k + length xs)) ys)) ps (drop (p.len - (k + length xs)) ys)
    ≡ scatter_from (k - p.len) (put_at mem (p.addr + k) (take (p.len - k) (xs ++ ys))) ps (drop (p.len - k) (xs ++ ys))
within_piece k mem p ps xs ys inside within =
    let all : take (p.len - k) xs ≡ xs = grind (arith, common_steps) in
    let nothing : drop (p.len - k) xs ≡ [] = grind (arith, common_steps) in
    let kept : scatter_from (k - p.len) (put_at mem (p.addr + k) xs) ps [] ≡ put_at mem (p.addr + k) xs = scatter_from-nil (k - p.len) (put_at mem (p.addr + k) xs) ps in
    let left : p.len - k - length xs ≡ p.len - (k + length xs) = omega arith in
    let front : take (p.len - k) (xs ++ ys) ≡ xs ++ take (p.len - (k + length xs)) ys = take_joined (p.len - k) xs ys ∙ rw (all, left) refl in
    let back : drop (p.len - k) (xs ++ ys) ≡ drop (p.len - (k + length xs)) ys = drop_joined (p.len - k) xs ys ∙ rw (nothing, left) refl in
    let first : k + length xs - p.len ≡ k - p.len = omega arith in
    let next : p.addr + (k + length xs) ≡ p.addr + k + length xs = omega arith in
    let puts : put_at (put_at mem (p.addr + k) xs) (p.addr + (k + length xs)) (take (p.len - (k + length xs)) ys) ≡ put_at mem (p.addr + k) (xs ++ take (p.len - (k + length xs)) ys) =
    put_at-put_at_next_at mem (p.addr + k) xs (take (p.len - (k + length xs)) ys) (p.addr + (k + length xs)) next (omega arith) in
    rw (all, nothing, kept, first, puts, front, back) refl

-- the two steps over one piece, where it is writable
append_by_test : (w : Bool) (k : ℕ) (mem : List ℕ) (p : Piece) (ps : List Piece) (xs ys : List ℕ)
    → scatter_from (k + length xs - p.len) (put_at (scatter_from (k - p.len) (put_at mem (p.addr + k) (take (p.len - k) xs)) ps (drop (p.len - k) xs)) (p.addr + (k + length xs)) (take (p.len - (k + length xs)) ys)) ps (drop (p.len - (k + length xs)) ys)
    ≡ scatter_from (k - p.len) (put_at mem (p.addr + k) (take (p.len - k) (xs ++ ys))) ps (drop (p.len - k) (xs ++ ys))
    → scatter_from (k + length xs) (scatter_from k mem ps xs) ps ys ≡ scatter_from k mem ps (xs ++ ys)
    → (let first : List ℕ = if w then scatter_from (k - p.len) (put_at mem (p.addr + k) (take (p.len - k) xs)) ps (drop (p.len - k) xs) else scatter_from k mem ps xs in
    if w then scatter_from (k + length xs - p.len) (put_at first (p.addr + (k + length xs)) (take (p.len - (k + length xs)) ys)) ps (drop (p.len - (k + length xs)) ys) else scatter_from (k + length xs) first ps ys)
    ≡ (if w then scatter_from (k - p.len) (put_at mem (p.addr + k) (take (p.len - k) (xs ++ ys))) ps (drop (p.len - k) (xs ++ ys)) else scatter_from k mem ps (xs ++ ys))
append_by_test true k mem p ps xs ys here passed = here
append_by_test false k mem p ps xs ys here passed = passed

-- bytes written from a location on, and then others behind them, are both written from that location on
pub scatter_from-append : (k : ℕ) (mem : List ℕ) (ps : List Piece) (xs ys : List ℕ) → All (IsInside (length mem)) ps
    → scatter_from (k + length xs) (scatter_from k mem ps xs) ps ys ≡ scatter_from k mem ps (xs ++ ys)
scatter_from-append k mem [] xs ys inside = refl
scatter_from-append k mem (p ∷ ps) xs ys inside =
    let here : p.addr + p.len ≤ length mem = All-head (IsInside (length mem)) p ps inside in
    let others : All (IsInside (length mem)) ps = All-tail (IsInside (length mem)) p ps inside in
    append_by_test p.write k mem p ps xs ys
    (elim (cases_lt (k + length xs) p.len) [
      | inl within ↦ within_piece k mem p ps xs ys here (omega arith)
      | inr behind ↦ after_piece k mem p ps xs ys (λ mem1 xs1 long. scatter_from-append (k - p.len) mem1 ps xs1 ys (rw long others)) here behind
    ])
    (scatter_from-append k mem ps xs ys others)

-- an item that is there is read whatever the default is
get_or_any : (ps : List Piece) (i : ℕ) (d : Piece) → i < length ps → get_or ps i d ≡ get_or ps i (get_or ps i d)
get_or_any [] i d within = absurd (omega arith)
get_or_any (p ∷ ps) zero d within = refl
get_or_any (p ∷ ps) (suc i) d within = get_or_any ps i d (omega arith)

-- the items from an index on are the one there and the others
pub items_from : {A : Type 0} (xs : List A) (i : ℕ) (d : A) → i < length xs → drop i xs ≡ get_or xs i d ∷ drop (i + 1) xs
items_from xs i d within = rw (add-one, drop-cons xs i d) refl

-- that one and the others keep the rules of pieces
pub valid_piece : (memory : ℕ) (ps : List Piece) (i : ℕ) (d : Piece) → i < length ps → IsTrue (list_all (is_piece memory) (drop i ps))
    → IsPiece memory (get_or ps i d) × IsTrue (list_all (is_piece memory) (drop (i + 1) ps))
valid_piece memory ps i d within valid =
    let test : IsTrue (list_all (is_piece memory) (get_or ps i d ∷ drop (i + 1) ps)) = rw (items_from ps i d within) at valid in
    let each : All (IsPiece memory) (get_or ps i d ∷ drop (i + 1) ps) = pieces_facts memory (get_or ps i d ∷ drop (i + 1) ps) test in
    (All-head (IsPiece memory) (get_or ps i d) (drop (i + 1) ps) each, pieces_test memory (drop (i + 1) ps) (All-tail (IsPiece memory) (get_or ps i d) (drop (i + 1) ps) each))

-- a part of the bytes of a piece, as many as there are
part_of_piece : (mem : List ℕ) (addr len left n : ℕ) → addr + len ≤ length mem
    → part (part mem addr len) left n ≡ part mem (addr + min left len) (min (len - min left len) n)
part_of_piece mem addr len left n inside =
    let long : length (part mem addr len) ≡ len = length-part mem addr len inside in
    elim (cases_lt len left) [
      | inl past ↦
          let none : drop left (part mem addr len) ≡ [] = grind (arith, common_steps) in
          let no_count : min (len - min left len) n ≡ 0 = omega arith in
          rw (none, take-nil, no_count) refl
      | inr within ↦
          let skip : min left len ≡ left = omega arith in
          elim (cases_lt (len - left) n) [
            | inl few ↦
                let count : min (len - min left len) n ≡ len - left = omega arith in
                let size : length (drop left (part mem addr len)) ≡ len - left = omega (arith, length-drop left (part mem addr len)) in
                let all : take n (drop left (part mem addr len)) ≡ drop left (part mem addr len) = grind (arith, common_steps) in
                let same : take (len - left) (drop left (part mem addr len)) ≡ drop left (part mem addr len) = grind (arith, common_steps) in
                rw (count, skip) (all ∙ sym same ∙ part-part mem addr len left (len - left) (omega arith))
            | inr many ↦
                let count : min (len - min left len) n ≡ n = omega arith in
                rw (count, skip) (part-part mem addr len left n (omega arith))
          ]
    ]

-- the readable bytes from a location on: those of a piece, and then those of the others
readable_step : (mem : List ℕ) (p : Piece) (ps : List Piece) (left n : ℕ) → p.write ≡ false → p.addr + p.len ≤ length mem
    → part (readable mem (p ∷ ps)) left n
    ≡ part mem (p.addr + min left p.len) (min (p.len - min left p.len) n) ++ part (readable mem ps) (left - min left p.len) (n - min (p.len - min left p.len) n)
readable_step mem p ps left n is inside =
    let long : length (part mem p.addr p.len) ≡ p.len = length-part mem p.addr p.len inside in
    let location : left - p.len ≡ left - min left p.len = omega arith in
    let count : n - (p.len - left) ≡ n - min (p.len - min left p.len) n = omega arith in
    rw is
    (part_joined (part mem p.addr p.len) (readable mem ps) left n
    ∙ rw (part_of_piece mem p.addr p.len left n inside, long, location, count) refl)

-- a slice that is filled is put
filled_slice : (xs : List ℕ) (at n : ℕ) (new : List ℕ) → n ≡ length new → put_mid at n xs new ≡ put_at xs at new
filled_slice xs at n new size =
    sym (append_assoc (take at xs) new (drop n (drop at xs)))
    ∙ ap (λ (w : List ℕ). take at xs ++ new ++ w) (drop-drop n at xs ∙ ap (λ (k : ℕ). drop (at + k) xs) size)

-- what was read so far, and what is to be read of the pieces from an index on, is what is to be read in all
pub record ReadsOn (mem : List ℕ) (ps : List Piece) (offset : ℕ) (room : List ℕ) (left done i : ℕ) : Type 0 where
  pub rest : take done room ++ part (readable mem (drop i ps)) left (length room - done) ≡ part (readable mem ps) offset (length room)
  pub valid : IsTrue (list_all (is_piece (length mem)) (drop i ps))
  pub most : done ≤ length room

-- a writable piece is passed over
past_piece : (mem : List ℕ) (ps : List Piece) (d : Piece) (offset : ℕ) (room : List ℕ) (left done i : ℕ) → i < length ps → (get_or ps i d).write ≡ true
    → ReadsOn mem ps offset room left done i → ReadsOn mem ps offset room left done (i + 1)
past_piece mem ps d offset room left done i here write so =
    let skip : readable mem (drop i ps) ≡ readable mem (drop (i + 1) ps) = rw (items_from ps i d here, write) refl in
    let rest : take done room ++ part (readable mem (drop (i + 1) ps)) left (length room - done) ≡ part (readable mem ps) offset (length room) =
    ap (λ (w : List ℕ). take done room ++ part w left (length room - done)) (sym skip) ∙ so.rest in
    record { rest = rest; valid = (valid_piece (length mem) ps i d here so.valid).1; most = so.most }

front_of : (front first behind rest : List ℕ) (done count : ℕ) → length front ≡ done → length first ≡ count → take (done + count) (front ++ (first ++ behind) ++ rest) ≡ front ++ first
front_of front first behind rest done count long size =
    ap (take (done + count)) (ap (λ (w : List ℕ). w ++ rest) (sym (append_assoc front first behind)) ∙ append_assoc (front ++ first) behind rest)
    ∙ take_at (front ++ first) (behind ++ rest) (done + count) (omega (arith, length-append front first))

-- bytes of a readable piece are read into a room behind those that are there
more_of_piece : (mem : List ℕ) (ps : List Piece) (d : Piece) (offset : ℕ) (room new : List ℕ) (left done i skipped count : ℕ) → i < length ps
    → (get_or ps i d).write ≡ false
    → skipped ≡ min left (get_or ps i d).len
    → count ≡ min ((get_or ps i d).len - skipped) (length (take (length room - done) (drop done room)))
    → new ≡ part mem ((get_or ps i d).addr + skipped) count ++ drop count (take (length room - done) (drop done room))
    → ReadsOn mem ps offset room left done i → ReadsOn mem ps offset (put_mid done (length room - done) room new) (left - skipped) (done + count) (i + 1)
more_of_piece mem ps d offset room new left done i skipped count here is skip many fill so =
    let p : Piece = get_or ps i d in
    let n : ℕ = length room - done in
    let (piece, valid) = valid_piece (length mem) ps i d here so.valid in
    let most : done ≤ length room = so.most in
    let inside : p.addr + p.len ≤ length mem = piece.inside in
    let tail : length (take n (drop done room)) ≡ n = omega (arith, length-take n (drop done room), length-drop done room) in
    let first : List ℕ = part mem (p.addr + skipped) count in
    let first_long : length first ≡ count = length-part mem (p.addr + skipped) count (omega arith) in
    let long : length new ≡ n = ap length fill ∙ omega (arith, length-append first (drop count (take n (drop done room))), length-drop count (take n (drop done room))) in
    let filled : put_mid done n room new ≡ put_at room done new = filled_slice room done n new (sym long) in
    let size : length (put_at room done new) ≡ length room = length-put_at room done new (omega arith) in
    let front : take (done + count) (put_at room done new) ≡ take done room ++ first =
    ap (λ (w : List ℕ). take (done + count) (take done room ++ w ++ drop (done + length new) room)) fill
    ∙ front_of (take done room) first (drop count (take n (drop done room))) (drop (done + length new) room) done count (omega (arith, length-take done room)) first_long in
    let skip_is : min left p.len ≡ skipped = sym skip in
    let count_is : min (p.len - skipped) n ≡ count = omega arith in
    let old : part (readable mem (drop i ps)) left n ≡ first ++ part (readable mem (drop (i + 1) ps)) (left - skipped) (n - count) =
    ap (λ (qs : List Piece). part (readable mem qs) left n) (items_from ps i d here) ∙ readable_step mem p (drop (i + 1) ps) left n is inside ∙ rw (skip_is, count_is) refl in
    let fewer : length room - (done + count) ≡ n - count = omega arith in
    rw filled
    (record {
      rest = rw (size, front, fewer, append_assoc) (ap (λ (w : List ℕ). take done room ++ w) (sym old) ∙ so.rest);
      valid = valid;
      most = rw size (omega arith);
    })

-- the same, where the pieces are known by another name
pub reads_past : (mem : List ℕ) (ps items : List Piece) (d : Piece) (offset : ℕ) (room : List ℕ) (left done i : ℕ) → items ≡ ps → i < length items → (get_or items i d).write ≡ true
    → ReadsOn mem ps offset room left done i → ReadsOn mem ps offset room left done (i + 1)
reads_past mem ps items d offset room left done i same here write so =
    subst (λ (qs : List Piece). ReadsOn mem qs offset room left done (i + 1)) same
    (past_piece mem items d offset room left done i here write (subst (λ (qs : List Piece). ReadsOn mem qs offset room left done i) (sym same) so))

pub reads_more : (mem : List ℕ) (ps items : List Piece) (d : Piece) (offset : ℕ) (room new : List ℕ) (left done i skipped count : ℕ) → items ≡ ps → i < length items
    → (get_or items i d).write ≡ false
    → skipped ≡ min left (get_or items i d).len
    → count ≡ min ((get_or items i d).len - skipped) (length (take (length room - done) (drop done room)))
    → new ≡ part mem ((get_or items i d).addr + skipped) count ++ drop count (take (length room - done) (drop done room))
    → ReadsOn mem ps offset room left done i → ReadsOn mem ps offset (put_mid done (length room - done) room new) (left - skipped) (done + count) (i + 1)
reads_more mem ps items d offset room new left done i skipped count same here is skip many fill so =
    subst (λ (qs : List Piece). ReadsOn mem qs offset (put_mid done (length room - done) room new) (left - skipped) (done + count) (i + 1)) same
    (more_of_piece mem items d offset room new left done i skipped count here is skip many fill (subst (λ (qs : List Piece). ReadsOn mem qs offset room left done i) (sym same) so))

-- once all pieces were passed, the room is full
pub reads_all : (mem : List ℕ) (ps : List Piece) (offset : ℕ) (room : List ℕ) (left done i : ℕ) → length ps ≤ i → All (IsInside (length mem)) ps → offset + length room ≤ readable_len ps
    → ReadsOn mem ps offset room left done i → room ≡ part (readable mem ps) offset (length room)
reads_all mem ps offset room left done i past inside enough so =
    let none : drop i ps ≡ [] = grind (arith, common_steps) in
    let nothing : part (readable mem (drop i ps)) left (length room - done) ≡ [] = rw (none, drop-nil, take-nil) refl in
    let all : take done room ≡ part (readable mem ps) offset (length room) = sym (append-nil (take done room)) ∙ ap (λ (w : List ℕ). take done room ++ w) (sym nothing) ∙ so.rest in
    let size : length (part (readable mem ps) offset (length room)) ≡ length room = length-part (readable mem ps) offset (length room) (omega (arith, length-readable mem ps inside)) in
    let most : done ≤ length room = so.most in
    let full : length room ≤ done = omega (arith, ap length all, length-take done room) in
    let whole : take done room ≡ room = grind (arith, common_steps) in
    sym whole ∙ all

-- what was written so far, and what is to be written over the pieces from an index on, is what is to be written in all; and
-- no more pages were made than the pieces lack less
pub record WritesOn (start : MemoryView) (ps : List Piece) (offset : ℕ) (bytes : List ℕ) (mem : MemoryView) (left done i : ℕ) : Type 0 where
  pub rest : scatter_from left mem.bytes (drop i ps) (drop done bytes) ≡ scatter_from offset start.bytes ps bytes
  pub valid : IsTrue (list_all (is_piece (length mem.bytes)) (drop i ps))
  pub most : done ≤ length bytes
  pub size : length mem.bytes ≡ length start.bytes
  pub pages : start.spare + pages_short mem.made ps ≤ mem.spare + pages_short start.made ps

-- a readable piece is passed over
writes_past_piece : (start : MemoryView) (ps : List Piece) (d : Piece) (offset : ℕ) (bytes : List ℕ) (mem : MemoryView) (left done i : ℕ) → i < length ps → (get_or ps i d).write ≡ false
    → WritesOn start ps offset bytes mem left done i → WritesOn start ps offset bytes mem left done (i + 1)
writes_past_piece start ps d offset bytes mem left done i here read so =
    let skip : scatter_from left mem.bytes (drop i ps) (drop done bytes) ≡ scatter_from left mem.bytes (drop (i + 1) ps) (drop done bytes) = rw (items_from ps i d here, read) refl in
    record { rest = sym skip ∙ so.rest; valid = (valid_piece (length mem.bytes) ps i d here so.valid).1; most = so.most; size = so.size; pages = so.pages }

-- the first bytes are written over a piece from a location on
scatter_from_step : (left : ℕ) (mem : List ℕ) (p : Piece) (ps : List Piece) (bytes : List ℕ) (skipped count : ℕ) → p.write ≡ true → skipped ≡ min left p.len → count ≡ min (p.len - skipped) (length bytes)
    → scatter_from left mem (p ∷ ps) bytes ≡ scatter_from (left - skipped) (put_at mem (p.addr + skipped) (take (p.len - skipped) bytes)) ps (drop count bytes)
scatter_from_step left mem p ps bytes skipped count write skip many =
    let fewer : left - p.len ≡ left - skipped = omega arith in
    let size : p.len - left ≡ p.len - skipped = omega arith in
    let behind : drop (p.len - skipped) bytes ≡ drop count bytes = sym (drop_min (p.len - skipped) bytes) ∙ ap (λ (k : ℕ). drop k bytes) (sym many) in
    let puts : put_at mem (p.addr + left) (take (p.len - skipped) bytes) ≡ put_at mem (p.addr + skipped) (take (p.len - skipped) bytes) =
    elim (cases_lt left p.len) [
      | inl within ↦ let same : left ≡ skipped = omega arith in ap (λ (k : ℕ). put_at mem (p.addr + k) (take (p.len - skipped) bytes)) same
      | inr past ↦ let none : p.len - skipped ≡ 0 = omega arith in rw none (put_at-nil mem (p.addr + left) ∙ sym (put_at-nil mem (p.addr + skipped)))
    ] in
    rw (write, fewer, size, behind, puts) refl

-- bytes are written over a writable piece
writes_over_piece : (start : MemoryView) (ps : List Piece) (d : Piece) (offset : ℕ) (bytes : List ℕ) (mem : MemoryView) (left done i skipped count : ℕ) → i < length ps
    → (get_or ps i d).write ≡ true
    → pages_short start.made ps ≤ start.spare
    → skipped ≡ min left (get_or ps i d).len
    → count ≡ min ((get_or ps i d).len - skipped) (length (drop done bytes))
    → length mem.bytes ≤ length mem.made * 4096
    → WritesOn start ps offset bytes mem left done i
    → WritesOn start ps offset bytes (written mem ((get_or ps i d).addr + skipped) (take ((get_or ps i d).len - skipped) (drop done bytes))) (left - skipped) (done + count) (i + 1)
writes_over_piece start ps d offset bytes mem left done i skipped count here write enough skip many paged so =
    let p : Piece = get_or ps i d in
    let at : ℕ = p.addr + skipped in
    let b : List ℕ = drop done bytes in
    let xs : List ℕ = take (p.len - skipped) b in
    let (piece, valid) = valid_piece (length mem.bytes) ps i d here so.valid in
    let inside : p.addr + p.len ≤ length mem.bytes = piece.inside in
    let few : length xs ≤ p.len - skipped = omega (arith, length-take (p.len - skipped) b) in
    let end : at + length xs ≤ p.addr + p.len = omega arith in
    let long : length (put_at mem.bytes at xs) ≡ length mem.bytes = length-put_at mem.bytes at xs (omega arith) in
    let table : at / 4096 + pages_touched at (length xs) ≤ length mem.made = pages_inside at (length xs) (length mem.bytes) (length mem.made) (omega arith) paged in
    let default : p ≡ get_or ps i p = get_or_any ps i d here in
    let room : missing mem.made at (length xs) ≤ pages_short mem.made ps = short_enough mem.made ps i p at (length xs) here default write (omega arith) end in
    let made : pages_short (with_pages mem.made at (length xs)) ps + missing mem.made at (length xs) ≤ pages_short mem.made ps =
    short_write mem.made ps i p at (length xs) here default write (omega arith) end table in
    let pages : start.spare + pages_short mem.made ps ≤ mem.spare + pages_short start.made ps = so.pages in
    let most : done ≤ length bytes = so.most in
    let step : scatter_from left mem.bytes (drop i ps) b ≡ scatter_from (left - skipped) (put_at mem.bytes at xs) (drop (i + 1) ps) (drop (done + count) bytes) =
    ap (λ (qs : List Piece). scatter_from left mem.bytes qs b) (items_from ps i d here)
    ∙ scatter_from_step left mem.bytes p (drop (i + 1) ps) b skipped count write skip many
    ∙ ap (scatter_from (left - skipped) (put_at mem.bytes at xs) (drop (i + 1) ps)) (drop-drop count done bytes) in
    record {
      rest = sym step ∙ so.rest;
      valid = rw long valid;
      most = omega (arith, length-drop done bytes);
      size = long ∙ so.size;
      pages = omega arith;
    }

-- the same, where the pieces and the bytes are known by other names
pub writes_past : (start : MemoryView) (ps items : List Piece) (d : Piece) (offset : ℕ) (bytes : List ℕ) (mem : MemoryView) (left done i : ℕ) → items ≡ ps → i < length items
    → (get_or items i d).write ≡ false
    → WritesOn start ps offset bytes mem left done i → WritesOn start ps offset bytes mem left done (i + 1)
writes_past start ps items d offset bytes mem left done i same here read so =
    subst (λ (qs : List Piece). WritesOn start qs offset bytes mem left done (i + 1)) same
    (writes_past_piece start items d offset bytes mem left done i here read (subst (λ (qs : List Piece). WritesOn start qs offset bytes mem left done i) (sym same) so))

pub writes_over : (start : MemoryView) (ps items : List Piece) (d : Piece) (offset : ℕ) (bytes rest : List ℕ) (mem new : MemoryView) (left done i skipped count : ℕ) → items ≡ ps → i < length items
    → (get_or items i d).write ≡ true
    → pages_short start.made ps ≤ start.spare
    → rest ≡ take (length bytes - done) (drop done bytes)
    → skipped ≡ min left (get_or items i d).len
    → count ≡ min ((get_or items i d).len - skipped) (length rest)
    → new ≡ written mem ((get_or items i d).addr + skipped) (take ((get_or items i d).len - skipped) rest)
    → length mem.bytes ≤ length mem.made * 4096
    → WritesOn start ps offset bytes mem left done i → WritesOn start ps offset bytes new (left - skipped) (done + count) (i + 1)
writes_over start ps items d offset bytes rest mem new left done i skipped count same here write enough cut skip many is paged so =
    let most : done ≤ length bytes = so.most in
    let all : rest ≡ drop done bytes = cut ∙ grind (arith, common_steps) in
    let size : count ≡ min ((get_or items i d).len - skipped) (length (drop done bytes)) = rw all at many in
    let stands : new ≡ written mem ((get_or items i d).addr + skipped) (take ((get_or items i d).len - skipped) (drop done bytes)) = rw all at is in
    let spare : pages_short start.made items ≤ start.spare = rw same enough in
    rw stands
    (subst (λ (qs : List Piece). WritesOn start qs offset bytes (written mem ((get_or items i d).addr + skipped) (take ((get_or items i d).len - skipped) (drop done bytes))) (left - skipped) (done + count) (i + 1)) same
    (writes_over_piece start items d offset bytes mem left done i skipped count here write spare skip size paged (subst (λ (qs : List Piece). WritesOn start qs offset bytes mem left done i) (sym same) so)))

-- a piece never lacks more pages than there are spare ones
pub pages_enough : (start : MemoryView) (ps items : List Piece) (d : Piece) (offset : ℕ) (bytes : List ℕ) (mem : MemoryView) (left done i skipped count : ℕ) → items ≡ ps → i < length items
    → (get_or items i d).write ≡ true
    → pages_short start.made ps ≤ start.spare
    → skipped ≡ min left (get_or items i d).len
    → count ≤ (get_or items i d).len - skipped
    → WritesOn start ps offset bytes mem left done i → missing mem.made ((get_or items i d).addr + skipped) count ≤ mem.spare
pages_enough start ps items d offset bytes mem left done i skipped count same here write enough skip few so =
    let pages : start.spare + pages_short mem.made ps ≤ mem.spare + pages_short start.made ps = so.pages in
    let lack : missing mem.made ((get_or items i d).addr + skipped) count ≤ pages_short mem.made items =
    short_enough mem.made items i (get_or items i d) ((get_or items i d).addr + skipped) count here (get_or_any items i d here) write (omega arith) (omega arith) in
    omega (arith, ap (pages_short mem.made) same)
