-- What callers see of a memory, by the number that stands for a page.
use Rattle.std.proofs.Common.{◌≡◌, ℕ, ◌+◌, ◌-◌, ◌/◌, ◌%◌, ◌≤◌, ◌<◌, Bool, true, false, cond, nat_lt, List, [], ◌∷◌, length, get_or, inl, inr, subst, sym, ◌∙◌, ap, arith}
use Rattle.std.proofs.Math.ListN.{set}
use Rattle.std.proofs.lemmas.Bool.{cases_lt}
use Rattle.std.proofs.lemmas.Bool.Decides.{nat_tests}
use Rattle.std.proofs.lemmas.List.{get_or_past, get_or_read, length-map}
use Rattle.std.proofs.lemmas.List.Elements.{All-from_get_or}
use Rattle.guest_mem.specs.Memory.{IsByteList, part, put_at}
use Rattle.guest_mem.specs.Arena.{ArenaView, page, pages_with, with_page}
use Rattle.guest_mem.specs.Pages.{MemoryView, absent}
use Rattle.guest_mem.specs.PageMap.{IsMapped, view_of, made_by}
use Rattle.guest_mem.proofs.Makes.{absent-one}
use Rattle.guest_mem.proofs.Mapped.{length-seen, part-seen, put-seen, put-holds, made-seen, made-holds, made_by-at, made_by-set, made_by-same}

-- a location that holds a number above 0 lies in the list
numbered_inside : (numbers : List ℕ) (i : ℕ) → 0 < get_or numbers i 0 → i < length numbers
numbered_inside numbers i some = elim (cases_lt i (length numbers)) [ inl inside ↦ inside | inr past ↦ absurd (omega (arith, get_or_past numbers i 0 past)) ]

-- a page that was made has a number above 0
numbered : (numbers : List ℕ) (i : ℕ) → get_or (made_by numbers) i false ≡ true → 0 < get_or numbers i 0
numbered numbers i made =
    let test : nat_lt 0 (get_or numbers i 0) ≡ true = sym (made_by-at numbers i) ∙ made in
    grind (arith, nat_tests)

-- numbers of eight bits are bytes
pub IsByteList-fits : (xs : List ℕ) → ((i : ℕ) → get_or xs i 0 < 256) → IsByteList xs
IsByteList-fits xs fits = All-from_get_or (λ b. b < 256) xs 0 (λ i inside. fits i)

module _ (arena : ArenaView) (numbers : List ℕ) (len : ℕ) (h : IsMapped arena.pages numbers len) where
  -- no more pages are absent than one, and that only where the page has number 0
  absent-number : (i n : ℕ) → i < length numbers → n ≡ get_or numbers i 0 → absent (made_by numbers) i 1 ≡ cond (nat_lt 0 n) 0 1
  absent-number i n row is =
      absent-one (made_by numbers) i (omega (arith, length-map numbers (nat_lt 0)))
      ∙ ap (λ (b : Bool). cond b 0 1) (made_by-at numbers i ∙ ap (nat_lt 0) (sym is))

  module _ (v : MemoryView) (is : view_of arena numbers len ≡ v) where
    -- bytes within one page are read there
    pub view-part : (at k n : ℕ) → 0 < k → at + k ≤ length v.bytes → at % 4096 + k ≤ 4096 → n ≡ get_or numbers (at / 4096) n
        → part (page arena.pages n) (at % 4096) k ≡ part v.bytes at k
    view-part = subst (λ (v : MemoryView). (at k n : ℕ) → 0 < k → at + k ≤ length v.bytes → at % 4096 + k ≤ 4096 → n ≡ get_or numbers (at / 4096) n
        → part (page arena.pages n) (at % 4096) k ≡ part v.bytes at k) is
        (λ at k n some inside within read.
        let long : length (view_of arena numbers len).bytes ≡ len = length-seen arena.pages numbers len h in
        let named : n ≡ get_or numbers (at / 4096) 0 = get_or_read numbers (at / 4096) n (omega (arith, h.covers)) read 0 in
        ap (λ (m : ℕ). part (page arena.pages m) (at % 4096) k) named ∙ sym (part-seen arena.pages numbers len h at k some (omega arith) within))

    -- bytes are put into a page that was made
    pub view-put : (at n : ℕ) (xs : List ℕ) → at + length xs ≤ length v.bytes → at % 4096 + length xs ≤ 4096 → get_or v.made (at / 4096) false ≡ true → n ≡ get_or numbers (at / 4096) n
        → view_of (record { pages = pages_with arena.pages n (at % 4096) xs; spare = arena.spare }) numbers len ≡ record { bytes = put_at v.bytes at xs; made = v.made; spare = v.spare }
    view-put = subst (λ (v : MemoryView). (at n : ℕ) (xs : List ℕ) → at + length xs ≤ length v.bytes → at % 4096 + length xs ≤ 4096 → get_or v.made (at / 4096) false ≡ true → n ≡ get_or numbers (at / 4096) n
        → view_of (record { pages = pages_with arena.pages n (at % 4096) xs; spare = arena.spare }) numbers len ≡ record { bytes = put_at v.bytes at xs; made = v.made; spare = v.spare }) is
        (λ at n xs inside within made read.
        let with_bytes : List ℕ → MemoryView = λ bytes. record { bytes = bytes; made = made_by numbers; spare = arena.spare } in
        let long : length (view_of arena numbers len).bytes ≡ len = length-seen arena.pages numbers len h in
        let some : 0 < get_or numbers (at / 4096) 0 = numbered numbers (at / 4096) made in
        let row : at / 4096 < length numbers = numbered_inside numbers (at / 4096) some in
        let named : n ≡ get_or numbers (at / 4096) 0 = get_or_read numbers (at / 4096) n row read 0 in
        ap with_bytes (put-seen arena.pages numbers len h at n xs (omega arith) within row named (omega arith)))

    pub view-put-holds : (at n : ℕ) (xs : List ℕ) → at % 4096 + length xs ≤ 4096 → get_or v.made (at / 4096) false ≡ true → n ≡ get_or numbers (at / 4096) n → IsByteList xs
        → IsMapped (pages_with arena.pages n (at % 4096) xs) numbers len
    view-put-holds = subst (λ (v : MemoryView). (at n : ℕ) (xs : List ℕ) → at % 4096 + length xs ≤ 4096 → get_or v.made (at / 4096) false ≡ true → n ≡ get_or numbers (at / 4096) n → IsByteList xs
        → IsMapped (pages_with arena.pages n (at % 4096) xs) numbers len) is
        (λ at n xs within made read bytes.
        let some : 0 < get_or numbers (at / 4096) 0 = numbered numbers (at / 4096) made in
        let row : at / 4096 < length numbers = numbered_inside numbers (at / 4096) some in
        let named : n ≡ get_or numbers (at / 4096) 0 = get_or_read numbers (at / 4096) n row read 0 in
        put-holds arena.pages numbers len h n (at % 4096) xs (omega arith) (omega (arith, h.known (at / 4096) 0 row)) within bytes)

    -- a page with number 0 wants a spare one
    pub view-wants : (i n : ℕ) → i < length v.made → n ≡ get_or numbers i n → n ≡ 0 → absent v.made i 1 ≤ v.spare → 0 < arena.spare
    view-wants = subst (λ (v : MemoryView). (i n : ℕ) → i < length v.made → n ≡ get_or numbers i n → n ≡ 0 → absent v.made i 1 ≤ v.spare → 0 < arena.spare) is
        (λ i n inside read none enough.
        let row : i < length numbers = omega (arith, length-map numbers (nat_lt 0)) in
        omega (arith, absent-number i n row (get_or_read numbers i n row read 0) ∙ ap (λ (m : ℕ). cond (nat_lt 0 m) 0 1) none))

    pub view-make-holds : (i n : ℕ) → i < length v.made → n ≡ get_or numbers i n → n ≡ 0 → IsMapped (with_page arena).pages (set numbers i (length arena.pages)) len
    view-make-holds = subst (λ (v : MemoryView). (i n : ℕ) → i < length v.made → n ≡ get_or numbers i n → n ≡ 0 → IsMapped (with_page arena).pages (set numbers i (length arena.pages)) len) is
        (λ i n inside read none.
        let row : i < length numbers = omega (arith, length-map numbers (nat_lt 0)) in
        made-holds arena.pages numbers len h i row (sym (get_or_read numbers i n row read 0) ∙ none))

    -- it is made
    pub view-make : (i n : ℕ) → i < length v.made → n ≡ get_or numbers i n → n ≡ 0 → absent v.made i 1 ≤ v.spare
        → view_of (with_page arena) (set numbers i (length arena.pages)) len ≡ record { bytes = v.bytes; made = put_at v.made i (true ∷ []); spare = v.spare - absent v.made i 1 }
    view-make = subst (λ (v : MemoryView). (i n : ℕ) → i < length v.made → n ≡ get_or numbers i n → n ≡ 0 → absent v.made i 1 ≤ v.spare
        → view_of (with_page arena) (set numbers i (length arena.pages)) len ≡ record { bytes = v.bytes; made = put_at v.made i (true ∷ []); spare = v.spare - absent v.made i 1 }) is
        (λ i n inside read none enough.
        let row : i < length numbers = omega (arith, length-map numbers (nat_lt 0)) in
        let named : n ≡ get_or numbers i 0 = get_or_read numbers i n row read 0 in
        let bytes = made-seen arena.pages numbers len h i row (sym named ∙ none) in
        let made = made_by-set numbers i (length arena.pages) row (omega (arith, h.counted)) in
        let one : absent (made_by numbers) i 1 ≡ 1 = absent-number i n row named ∙ ap (λ (m : ℕ). cond (nat_lt 0 m) 0 1) none in
        let spare : arena.spare - 1 ≡ arena.spare - absent (made_by numbers) i 1 = ap (λ (m : ℕ). arena.spare - m) (sym one) in
        cc)

    -- a page with another number was made before
    pub view-made : (i n : ℕ) → i < length v.made → n ≡ get_or numbers i n → 0 < n → (v.made ≡ put_at v.made i (true ∷ [])) × (absent v.made i 1 ≡ 0)
    view-made = subst (λ (v : MemoryView). (i n : ℕ) → i < length v.made → n ≡ get_or numbers i n → 0 < n → (v.made ≡ put_at v.made i (true ∷ [])) × (absent v.made i 1 ≡ 0)) is
        (λ i n inside read some.
        let row : i < length numbers = omega (arith, length-map numbers (nat_lt 0)) in
        let named : n ≡ get_or numbers i 0 = get_or_read numbers i n row read 0 in
        let above : nat_lt 0 n ≡ true = grind (arith, nat_tests) in
        (made_by-same numbers i row (omega arith), absent-number i n row named ∙ ap (λ (b : Bool). cond b 0 1) above))
