-- What is seen of a memory's pages in an arena, and what a write to one page and a new page change.
use Rattle.std.proofs.Common.{◌≡◌, ◌≢◌, ◌⊎◌, ℕ, ◌+◌, ◌*◌, ◌/◌, ◌%◌, ◌≤◌, ◌<◌, true, false, cond, nat_lt, List, [], ◌∷◌, ◌++◌, length, take, get_or, All, inl, inr, refl, sym, ◌∙◌, ap, arith, length-take}
use Rattle.std.proofs.Math.ListN.{set, get_or-map}
use Rattle.std.proofs.lemmas.Bool.{cases_lt, cases_eq}
use Rattle.std.proofs.lemmas.List.{get_or_past, length-set, length_push, length-map, map-set, length-replicate, set-get_or, get_or-set_same, get_or-set_other, get_or_append_left, get_or_push}
use Rattle.std.proofs.lemmas.List.Elements.{All-append, All-take, All-head, All-tail, All-set, All-cons, All-nil}
use Rattle.std.proofs.lemmas.List.Sums.{sum_by-set}
use Rattle.std.proofs.lemmas.Bool.Decides.{nat_tests}
use Rattle.guest_mem.specs.Memory.{IsByteList, part, put_at}
use Rattle.guest_mem.specs.Arena.{zero_page, page, pages_with}
use Rattle.guest_mem.specs.PageMap.{IsMapped, joined, made_by}
use Rattle.guest_mem.proofs.ByteLists.{IsByteList-append, IsByteList-put_at, IsByteList-replicate}
use Rattle.guest_mem.proofs.Parts.{length-part, length-put_at, part-part, part-take}
use Rattle.guest_mem.proofs.Puts.{put_at-part, put_at-put_at_inside, put_at-one, take-put_at_within}
use Rattle.guest_mem.proofs.Tiles.{length-tiles, tile_at, tiles_changed}

-- a page of zeros is whole, and its items are bytes
pub length-zero_page : length zero_page ≡ 4096
unfolding zero_page
length-zero_page = length-replicate {A = ℕ} 4096 0

pub IsByteList-zero_page : IsByteList zero_page
unfolding zero_page
IsByteList-zero_page = IsByteList-replicate 4096

-- joined pages of bytes are bytes
IsByteList-joined : (pages : List (List ℕ)) (numbers : List ℕ) → All (λ n. IsByteList (page pages n)) numbers → IsByteList (joined pages numbers)
IsByteList-joined pages [] bytes = All-nil (λ b. b < 256)
IsByteList-joined pages (n ∷ numbers) bytes =
    IsByteList-append (page pages n) (joined pages numbers) (All-head (λ n. IsByteList (page pages n)) n numbers bytes)
    (IsByteList-joined pages numbers (All-tail (λ n. IsByteList (page pages n)) n numbers bytes))

-- a page that was made has a number
pub made_by-at : (numbers : List ℕ) (i : ℕ) → get_or (made_by numbers) i false ≡ nat_lt 0 (get_or numbers i 0)
made_by-at numbers i = get_or-map (nat_lt 0) numbers i 0

-- one page more was made
pub made_by-set : (numbers : List ℕ) (i n : ℕ) → i < length numbers → 0 < n → made_by (set numbers i n) ≡ put_at (made_by numbers) i (true ∷ [])
made_by-set numbers i n inside some =
    let new : nat_lt 0 n ≡ true = grind (arith, nat_tests) in
    map-set (nat_lt 0) numbers i n ∙ ap (set (made_by numbers) i) new
    ∙ sym (put_at-one (made_by numbers) i true (omega (arith, length-map numbers (nat_lt 0))))

-- a page that was made before
pub made_by-same : (numbers : List ℕ) (i : ℕ) → i < length numbers → 0 < get_or numbers i 0 → made_by numbers ≡ put_at (made_by numbers) i (true ∷ [])
made_by-same numbers i inside some = ap made_by (sym (set-get_or numbers i 0)) ∙ made_by-set numbers i (get_or numbers i 0) inside some

-- what stands at a location once a number was set
get_or-set_cases : (numbers : List ℕ) (i n j : ℕ) → i < length numbers → ((j ≡ i) × (get_or (set numbers i n) j 0 ≡ n)) ⊎ (get_or (set numbers i n) j 0 ≡ get_or numbers j 0)
get_or-set_cases numbers i n j inside =
    elim (cases_eq j i) [ inl same ↦ inl (same, ap (λ (k : ℕ). get_or (set numbers i n) k 0) same ∙ get_or-set_same numbers i n 0 inside) | inr differs ↦ inr (get_or-set_other numbers i j n 0 differs) ]

module _ (pages : List (List ℕ)) (numbers : List ℕ) (len : ℕ) (h : IsMapped pages numbers len) where
  -- each page that is named is whole
  sizes : All (λ n. length (page pages n) ≡ 4096) numbers
  sizes = λ i d inside. h.whole (get_or numbers i d) [] (h.known i d inside)

  length-joined : length (joined pages numbers) ≡ length numbers * 4096
  length-joined = length-tiles 4096 (page pages) numbers sizes

  -- as many bytes are seen as the memory is long
  pub length-seen : length (take len (joined pages numbers)) ≡ len
  length-seen = omega (arith, length-take len (joined pages numbers), length-joined, h.covers)

  -- each of them is a byte
  pub IsByteList-seen : IsByteList (take len (joined pages numbers))
  IsByteList-seen =
      All-take (λ b. b < 256) len (joined pages numbers)
      (IsByteList-joined pages numbers (λ i d inside. h.octets (get_or numbers i d) [] (h.known i d inside)))

  -- those within one page are the bytes of that page
  pub part-seen : (at k : ℕ) → 0 < k → at + k ≤ len → at % 4096 + k ≤ 4096
      → part (take len (joined pages numbers)) at k ≡ part (page pages (get_or numbers (at / 4096) 0)) (at % 4096) k
  part-seen at k some inside within =
      let all : List ℕ = joined pages numbers in
      let location : at ≡ at / 4096 * 4096 + at % 4096 = omega arith in
      part-take all len at k inside
      ∙ ap (λ (j : ℕ). part all j k) location
      ∙ sym (part-part all (at / 4096 * 4096) 4096 (at % 4096) k within)
      ∙ ap (λ (w : List ℕ). part w (at % 4096) k) (tile_at 4096 (page pages) numbers (at / 4096) sizes (omega (arith, h.covers)))

  -- bytes put into a page that was made are put among all
  pub put-seen : (at n : ℕ) (xs : List ℕ) → at + length xs ≤ len → at % 4096 + length xs ≤ 4096 → at / 4096 < length numbers → n ≡ get_or numbers (at / 4096) 0 → 0 < n
      → take len (joined (pages_with pages n (at % 4096) xs) numbers) ≡ put_at (take len (joined pages numbers)) at xs
  put-seen at n xs inside within row is some =
      let i : ℕ = at / 4096 in
      let start : ℕ = i * 4096 in
      let from : ℕ = at % 4096 in
      let all : List ℕ = joined pages numbers in
      let more : List (List ℕ) = pages_with pages n from xs in
      let known : n < length pages = omega (arith, h.known i 0 row) in
      let whole : length (page pages n) ≡ 4096 = h.whole n [] known in
      let old : part all start 4096 ≡ page pages n = tile_at 4096 (page pages) numbers i sizes row ∙ ap (page pages) (sym is) in
      let new : page more n ≡ put_at (page pages n) from xs = get_or-set_same pages n (put_at (page pages n) from xs) [] known in
      let size : length (page more n) ≡ 4096 = ap length new ∙ length-put_at (page pages n) from xs (omega arith) ∙ whole in
      let other : (j : ℕ) → j < length numbers → j ≢ i → page more (get_or numbers j 0) ≡ page pages (get_or numbers j 0) =
      λ j inside differs. get_or-set_other pages n (get_or numbers j 0) (put_at (page pages n) from xs) [] (λ e. differs (h.once i j (omega arith) (e ∙ is))) in
      let numbered : set numbers i n ≡ numbers = ap (set numbers i) is ∙ set-get_or numbers i 0 in
      let location : start + from ≡ at = omega arith in
      ap (take len) (ap (joined more) (sym numbered)
      ∙ tiles_changed 4096 (page pages) (page more) numbers i n sizes size row other
      ∙ ap (put_at all start) (new ∙ ap (λ (w : List ℕ). put_at w from xs) (sym old))
      ∙ sym (put_at-put_at_inside all start (part all start 4096) from xs (omega (arith, length-part all start 4096, length-joined)) (omega (arith, length-joined)))
      ∙ ap (λ (w : List ℕ). put_at w (start + from) xs) (put_at-part all start 4096 (omega (arith, length-joined)))
      ∙ ap (λ (k : ℕ). put_at all k xs) location)
      ∙ take-put_at_within all len at xs inside (omega (arith, h.covers, length-joined))

  -- no byte changes where a page of zeros comes for one that was not made
  pub made-seen : (i : ℕ) → i < length numbers → get_or numbers i 0 ≡ 0
      → take len (joined (pages ++ zero_page ∷ []) (set numbers i (length pages))) ≡ take len (joined pages numbers)
  made-seen i row none =
      let all : List ℕ = joined pages numbers in
      let more : List (List ℕ) = pages ++ zero_page ∷ [] in
      let new : page more (length pages) ≡ zero_page = get_or_push pages zero_page [] (length pages) refl in
      let other : (j : ℕ) → j < length numbers → j ≢ i → page more (get_or numbers j 0) ≡ page pages (get_or numbers j 0) =
      λ j inside differs. get_or_append_left pages (zero_page ∷ []) [] (get_or numbers j 0) (h.known j 0 inside) in
      let old : part all (i * 4096) 4096 ≡ zero_page = tile_at 4096 (page pages) numbers i sizes row ∙ ap (page pages) none ∙ h.zeros in
      ap (take len) (tiles_changed 4096 (page pages) (page more) numbers i (length pages) sizes (ap length new ∙ length-zero_page) row other
      ∙ ap (put_at all (i * 4096)) (new ∙ sym old)
      ∙ put_at-part all (i * 4096) 4096 (omega (arith, length-joined)))

  -- each number, also past the last, is that of a page
  pub number-lt : (i : ℕ) → get_or numbers i 0 < length pages
  number-lt i = elim (cases_lt i (length numbers)) [ inl inside ↦ h.known i 0 inside | inr past ↦ omega (arith, get_or_past numbers i 0 past, h.counted) ]

  -- a new page is named once
  made-once : (i : ℕ) → i < length numbers → (j k : ℕ) → 0 < get_or (set numbers i (length pages)) j 0
      → get_or (set numbers i (length pages)) k 0 ≡ get_or (set numbers i (length pages)) j 0 → k ≡ j
  made-once i row j k some same =
      let new : ℕ = length pages in
      elim (get_or-set_cases numbers i new j row) [
        | inl here ↦ elim (get_or-set_cases numbers i new k row) [ inl there ↦ there.0 ∙ sym here.0 | inr old ↦ absurd (omega (arith, number-lt k, here.1, old)) ]
        | inr old ↦ elim (get_or-set_cases numbers i new k row) [ inl there ↦ absurd (omega (arith, number-lt j, there.1, old)) | inr older ↦ h.once j k (omega arith) (omega arith) ]
      ]

  -- what holds of a memory's pages holds once a page was made
  pub made-holds : (i : ℕ) → i < length numbers → get_or numbers i 0 ≡ 0 → IsMapped (pages ++ zero_page ∷ []) (set numbers i (length pages)) len
  made-holds i row none =
      let more : List (List ℕ) = pages ++ zero_page ∷ [] in
      let one : ℕ → ℕ = λ n. cond (nat_lt 0 n) 1 0 in
      let longer : length more ≡ length pages + 1 = length_push pages zero_page in
      let same : length (set numbers i (length pages)) ≡ length numbers = length-set numbers i (length pages) in
      let is_new : one (length pages) ≡ 1 = grind (arith, nat_tests, h.counted) in
      let was_not : one (get_or numbers i 0) ≡ 0 = ap one none in
      record {
        zeros = get_or_append_left pages (zero_page ∷ []) [] 0 (omega (arith, h.counted)) ∙ h.zeros;
        whole = All-append (λ p. length p ≡ 4096) pages (zero_page ∷ []) h.whole (All-cons (λ p. length p ≡ 4096) zero_page [] length-zero_page (All-nil (λ p. length p ≡ 4096)));
        octets = All-append IsByteList pages (zero_page ∷ []) h.octets (All-cons IsByteList zero_page [] IsByteList-zero_page (All-nil IsByteList));
        known = All-set (λ n. n < length more) numbers i (length pages) (omega arith) (λ j d inside. omega (arith, h.known j d inside));
        once = made-once i row;
        counted = omega (arith, h.counted, sum_by-set one numbers i (length pages) 0 row);
        covers = omega (arith, h.covers);
        few = omega (arith, h.few);
      }

  -- and so once a page was written
  pub put-holds : (n from : ℕ) (xs : List ℕ) → 0 < n → n < length pages → from + length xs ≤ 4096 → IsByteList xs → IsMapped (pages_with pages n from xs) numbers len
  put-holds n from xs some known inside bytes =
      let new : List ℕ = put_at (page pages n) from xs in
      let whole : length (page pages n) ≡ 4096 = h.whole n [] known in
      let same : length (set pages n new) ≡ length pages = length-set pages n new in
      record {
        zeros = get_or-set_other pages n 0 new [] (λ e. absurd (omega arith)) ∙ h.zeros;
        whole = All-set (λ p. length p ≡ 4096) pages n new (length-put_at (page pages n) from xs (omega arith) ∙ whole) h.whole;
        octets = All-set IsByteList pages n new (IsByteList-put_at (page pages n) from xs (h.octets n [] known) bytes) h.octets;
        known = λ j d inside. omega (arith, h.known j d inside);
        once = h.once;
        counted = same ∙ h.counted;
        covers = h.covers;
        few = h.few;
      }
