-- What is seen of a memory before its first page is made.
use Rattle.std.proofs.Common.{◌≡◌, ℕ, zero, suc, ◌+◌, ◌*◌, ◌≤◌, ◌<◌, Bool, false, cond, nat_lt, List, [], ◌∷◌, ◌++◌, length, take, replicate, get_or, count_by, inl, inr, refl, sym, ◌∙◌, ap, arith}
use Rattle.std.specs.List.{flat_map}
use Rattle.std.proofs.lemmas.Bool.{cases_lt}
use Rattle.std.proofs.lemmas.List.{get_or_past, get_or-replicate, length-replicate, replicate-append-replicate, take-replicate}
use Rattle.std.proofs.lemmas.List.Elements.{All-cons, All-nil, All-replicate}
use Rattle.std.proofs.lemmas.List.Folds.{sum_by-replicate}
use Rattle.guest_mem.specs.Memory.{IsByteList}
use Rattle.guest_mem.specs.Arena.{zero_page, page}
use Rattle.guest_mem.specs.PageMap.{IsMapped, joined, made_by}
use Rattle.guest_mem.proofs.Mapped.{length-zero_page, IsByteList-zero_page}

-- tiles of zeros are zeros
zero_tiles : (tile : ℕ → List ℕ) (size n : ℕ) → tile 0 ≡ replicate size 0 → flat_map tile (replicate n 0) ≡ replicate (n * size) 0
zero_tiles tile size zero zeros = ap (λ (k : ℕ). replicate {A = ℕ} k 0) (let none : 0 ≡ 0 * size = omega arith in none)
zero_tiles tile size (suc n) zeros =
    let next : size + n * size ≡ suc n * size = grind arith in
    ap (λ (w : List ℕ). w ++ flat_map tile (replicate n 0)) zeros
    ∙ ap (λ (w : List ℕ). replicate size 0 ++ w) (zero_tiles tile size n zeros)
    ∙ replicate-append-replicate size (n * size) 0 ∙ ap (λ (k : ℕ). replicate {A = ℕ} k 0) next

-- a page of zeros; its size is a variable, so that no list of 4,096 zeros is written out
zero_page-is : (size : ℕ) → size ≡ 4096 → zero_page ≡ replicate size 0
unfolding zero_page
zero_page-is size is = ap (λ (k : ℕ). replicate {A = ℕ} k 0) (sym is)

seen_by : (len n size : ℕ) → size ≡ 4096 → len ≤ n * size → take len (joined (zero_page ∷ []) (replicate n 0)) ≡ replicate len 0
seen_by len n size is inside = ap (take len) (zero_tiles (page (zero_page ∷ [])) size n (zero_page-is size is)) ∙ take-replicate len (n * size) 0 inside

-- zeros are seen
pub new-seen : (len n : ℕ) → len ≤ n * 4096 → take len (joined (zero_page ∷ []) (replicate n 0)) ≡ replicate len 0
new-seen len n inside = seen_by len n 4096 refl inside

-- no page was made
pub new-made : (n : ℕ) → made_by (replicate n 0) ≡ replicate n false
new-made zero = refl
new-made (suc n) = ap (λ (w : List Bool). false ∷ w) (new-made n)

-- each page has number 0, and so has what lies past the last
none_at : (n i : ℕ) → ◌≡◌ {A = ℕ} (get_or (replicate n 0) i 0) 0
none_at n i = elim (cases_lt i n) [ inl inside ↦ get_or-replicate n i 0 0 inside | inr past ↦ get_or_past (replicate n 0) i 0 (omega (arith, length-replicate {A = ℕ} n 0)) ]

-- what holds of a new memory's pages
pub new-holds : (len n : ℕ) → len ≤ n * 4096 → n ≤ 65536 → IsMapped (zero_page ∷ []) (replicate n 0) len
new-holds len n inside few =
    let size : length (replicate {A = ℕ} n 0) ≡ n = length-replicate n 0 in
    let none : count_by (nat_lt 0) (replicate n 0) ≡ n * 0 = sum_by-replicate (λ k. cond (nat_lt 0 k) 1 0) n 0 in
    record {
      zeros = refl;
      whole = All-cons (λ p. length p ≡ 4096) zero_page [] length-zero_page (All-nil (λ p. length p ≡ 4096));
      octets = All-cons IsByteList zero_page [] IsByteList-zero_page (All-nil IsByteList);
      known = All-replicate (λ k. k < 1) n 0 (omega arith);
      once = λ i j some same. absurd (omega (arith, none_at n i));
      counted = omega (arith, none);
      covers = omega (arith, size);
      few = omega (arith, size);
    }
