-- Which pages writings over pieces make.
use Rattle.std.proofs.Common.{◌≡◌, ℕ, zero, suc, ◌+◌, ◌-◌, ◌*◌, ◌/◌, ◌≤◌, ◌<◌, List, [], ◌∷◌, ◌++◌, length, take, drop, replicate, get_or, count_by, Bool, true, false, not, IsTrue, refl, sym, ◌∙◌, ap, arith}
use Rattle.std.specs.Prelude.{if◌then◌else◌}
use Rattle.std.specs.List.{All}
use Rattle.std.proofs.lemmas.Bool.Decides.{nat_tests}
use Rattle.std.proofs.lemmas.List.Sums.{sum_by-cons}
use Rattle.std.proofs.lemmas.List.{length-replicate}
use Rattle.std.proofs.lemmas.List.Folds.{sum_by-replicate}
use Rattle.std.proofs.lemmas.List.Elements.{All-head, All-tail}
use Rattle.vt_types.specs.Access.{pages_touched}
use Rattle.guest_mem.specs.Memory.{part, put_at}
use Rattle.guest_mem.specs.Pages.{absent, missing, with_pages}
use Rattle.guest_mem.proofs.Makes.{absent-split, missing_le, touched_le}
use Rattle.guest_mem.proofs.Parts.{part-put_at_same_length}
use Rattle.guest_mem.proofs.Puts.{put_at-nil}
use Rattle.vq_common.specs.declared.chain.Piece.{Piece}
use Rattle.vq_common.specs.Piece.{keeps_rules}
use Rattle.vq_common.specs.Pages.{PAGES_OF_SCATTER}
use Rattle.vq_common.specs.Partial.{pages_short}
use Rattle.vq_common.proofs.RuleFacts.{IsPiece, KeepsRules, rules_facts}

-- each page that was there is there still
abbrev Keeps : List Bool → List Bool → Type 0
Keeps [] [] = Unit {0}
Keeps [] (b ∷ old) = ⊥
Keeps (a ∷ new) [] = ⊥
Keeps (a ∷ new) (b ∷ old) = (b ≡ true → a ≡ true) × Keeps new old

keeps_all : (made : List Bool) → Keeps made made
keeps_all [] = tt
keeps_all (b ∷ made) = (λ e. e, keeps_all made)

count_less : (a b : Bool) (n k : ℕ) → (b ≡ true → a ≡ true) → n ≤ k → (if not a then 1 else 0) + n ≤ (if not b then 1 else 0) + k
count_less true true n k kept le = omega arith
count_less true false n k kept le = omega arith
count_less false true n k kept le = absurd (let e : false ≡ true = kept refl in cc)
count_less false false n k kept le = omega arith

-- so no more of them are absent
keeps_count : (new old : List Bool) → Keeps new old → count_by not new ≤ count_by not old
keeps_count [] [] kept = omega arith
keeps_count [] (b ∷ old) kept = absurd kept
keeps_count (a ∷ new) [] kept = absurd kept
keeps_count (a ∷ new) (b ∷ old) kept =
    omega (arith, sum_by-cons (λ c. if not c then 1 else 0) a new, sum_by-cons (λ c. if not c then 1 else 0) b old, count_less a b (count_by not new) (count_by not old) kept.0 (keeps_count new old kept.1))

keeps_take : (k : ℕ) (new old : List Bool) → Keeps new old → Keeps (take k new) (take k old)
keeps_take zero new old kept = tt
keeps_take (suc k) [] [] kept = tt
keeps_take (suc k) [] (b ∷ old) kept = absurd kept
keeps_take (suc k) (a ∷ new) [] kept = absurd kept
keeps_take (suc k) (a ∷ new) (b ∷ old) kept = (kept.0, keeps_take k new old kept.1)

keeps_drop : (k : ℕ) (new old : List Bool) → Keeps new old → Keeps (drop k new) (drop k old)
keeps_drop zero new old kept = kept
keeps_drop (suc k) [] [] kept = tt
keeps_drop (suc k) [] (b ∷ old) kept = absurd kept
keeps_drop (suc k) (a ∷ new) [] kept = absurd kept
keeps_drop (suc k) (a ∷ new) (b ∷ old) kept = keeps_drop k new old kept.1

-- pages that are made keep all others
keeps_row : (made : List Bool) (k : ℕ) → k ≤ length made → Keeps (replicate k true ++ drop k made) made
keeps_row made zero inside = keeps_all made
keeps_row [] (suc k) inside = absurd (omega arith)
keeps_row (b ∷ made) (suc k) inside = (λ e. refl, keeps_row made k (omega arith))

keeps_made : (made : List Bool) (f k : ℕ) → f + k ≤ length made → Keeps (take f made ++ replicate k true ++ drop (f + k) made) made
keeps_made made zero k inside = let e : 0 + k ≡ k = omega arith in rw e (keeps_row made k (omega arith))
keeps_made [] (suc f) k inside = absurd (omega arith)
keeps_made (b ∷ made) (suc f) k inside = let e : suc f + k ≡ suc (f + k) = omega arith in rw e (λ h. h, keeps_made made f k (omega arith))

keeps_put : (made : List Bool) (f k : ℕ) → f + k ≤ length made → Keeps (put_at made f (replicate k true)) made
keeps_put made f k inside = rw (length-replicate k true) (keeps_made made f k inside)

-- where pages are made, no more of others are absent than before
absent_less : (made : List Bool) (f k g n : ℕ) → f + k ≤ length made → absent (put_at made f (replicate k true)) g n ≤ absent made g n
absent_less made f k g n inside = keeps_count _ _ (keeps_take n _ _ (keeps_drop g (put_at made f (replicate k true)) made (keeps_put made f k inside)))

-- and of these none is
absent_none : (made : List Bool) (f k : ℕ) → f ≤ length made → absent (put_at made f (replicate k true)) f k ≡ 0
absent_none made f k inside =
    let row : part (put_at made f (replicate k true)) f k ≡ replicate k true = part-put_at_same_length made f (replicate k true) k (length-replicate k true) inside in
    ap (count_by not) row ∙ sum_by-replicate (λ b. if not b then 1 else 0) k true ∙ omega arith

-- the pages in three rows, of which the middle one is made
absent_within : (made : List Bool) (g i f k n : ℕ) → f ≡ g + i → f + k ≤ length made
    → absent (put_at made f (replicate k true)) g (i + (k + n)) + absent made f k ≤ absent made g (i + (k + n))
absent_within made g i f k n location inside =
    let new : List Bool = put_at made f (replicate k true) in
    let cut : (m : List Bool) → absent m g (i + (k + n)) ≡ absent m g i + (absent m f k + absent m (f + k) n) =
    λ m. absent-split m g i (k + n) ∙ ap (λ (j : ℕ). absent m g i + absent m j (k + n)) (sym location) ∙ ap (λ (j : ℕ). absent m g i + j) (absent-split m f k n) in
    omega (arith, cut made, cut new, absent_none made f k (omega arith), absent_less made f k g i inside, absent_less made f k (f + k) n inside)

-- the pages that some bytes touch
touched_some : (a n : ℕ) → 0 < n → pages_touched a n ≡ (a + n - 1) / 4096 - a / 4096 + 1
touched_some a n some = grind (arith, nat_tests)

-- a range that some bytes have touches pages of each range around it
touched_within : (p len a n : ℕ) → 0 < n → p ≤ a → a + n ≤ p + len
    → pages_touched p len ≡ (a / 4096 - p / 4096) + (pages_touched a n + (p / 4096 + pages_touched p len - (a / 4096 + pages_touched a n)))
touched_within p len a n some low high = omega (arith, touched_some a n some, touched_some p len (omega arith))

-- the pages of a range inside memory are in its table
pub pages_inside : (a n memory pages : ℕ) → a + n ≤ memory → memory ≤ pages * 4096 → a / 4096 + pages_touched a n ≤ pages
pages_inside a zero memory pages inside paged = omega arith
pages_inside a (suc n) memory pages inside paged = omega (arith, touched_some a (suc n) (omega arith))

-- where pages are made for a range, no other range lacks more than before
pub missing_less : (made : List Bool) (a n p len : ℕ) → a / 4096 + pages_touched a n ≤ length made → missing (with_pages made a n) p len ≤ missing made p len
missing_less made a n p len inside = absent_less made (a / 4096) (pages_touched a n) (p / 4096) (pages_touched p len) inside

-- and a range around it lacks those pages less
pub missing_within : (made : List Bool) (p len a n : ℕ) → p ≤ a → a + n ≤ p + len → a / 4096 + pages_touched a n ≤ length made
    → missing (with_pages made a n) p len + missing made a n ≤ missing made p len
missing_within made p len a zero low high inside =
    let same : missing (with_pages made a 0) p len ≡ missing made p len = ap (λ (m : List Bool). missing m p len) (put_at-nil made (a / 4096)) in
    omega (arith, same)
missing_within made p len a (suc n) low high inside =
    let f : ℕ = a / 4096 in
    let g : ℕ = p / 4096 in
    let k : ℕ = pages_touched a (suc n) in
    let r : ℕ = g + pages_touched p len - (f + k) in
    let rows : pages_touched p len ≡ (f - g) + (k + r) = touched_within p len a (suc n) (omega arith) low high in
    let all : (m : List Bool) → absent m g (pages_touched p len) ≡ absent m g ((f - g) + (k + r)) = λ m. ap (absent m g) rows in
    let location : f ≡ g + (f - g) = omega arith in
    omega (arith, all made, all (with_pages made a (suc n)), absent_within made g (f - g) f k r location inside)

-- a range inside another lacks no more pages
missing_part : (made : List Bool) (p len a n : ℕ) → p ≤ a → a + n ≤ p + len → missing made a n ≤ missing made p len
missing_part made p len a zero low high = omega arith
missing_part made p len a (suc n) low high =
    let f : ℕ = a / 4096 in
    let g : ℕ = p / 4096 in
    let k : ℕ = pages_touched a (suc n) in
    let r : ℕ = g + pages_touched p len - (f + k) in
    let rows : pages_touched p len ≡ (f - g) + (k + r) = touched_within p len a (suc n) (omega arith) low high in
    let all : absent made g (pages_touched p len) ≡ absent made g ((f - g) + (k + r)) = ap (absent made g) rows in
    let location : g + (f - g) ≡ f = omega arith in
    let two : absent made g ((f - g) + (k + r)) ≡ absent made g (f - g) + absent made f (k + r) =
    absent-split made g (f - g) (k + r) ∙ ap (λ (j : ℕ). absent made g (f - g) + absent made j (k + r)) location in
    omega (arith, all, two, absent-split made f k r)

-- so no pieces are short of more pages
short_less : (made : List Bool) (ps : List Piece) (a n : ℕ) → a / 4096 + pages_touched a n ≤ length made → pages_short (with_pages made a n) ps ≤ pages_short made ps
short_less made [] a n inside = omega arith
short_less made (p ∷ ps) a n inside =
    let rest : pages_short (with_pages made a n) ps ≤ pages_short made ps = short_less made ps a n inside in
    elim p.write as (λ w. (if w then missing (with_pages made a n) p.addr p.len + pages_short (with_pages made a n) ps else pages_short (with_pages made a n) ps)
    ≤ (if w then missing made p.addr p.len + pages_short made ps else pages_short made ps))
    [ true ↦ omega (arith, missing_less made a n p.addr p.len inside) | false ↦ rest ]

-- a piece is one of those at an index
one_of : (ps : List Piece) (i : ℕ) (p : Piece) → i < length ps → p ≡ get_or ps i p → (before after : List Piece) × (ps ≡ before ++ p ∷ after)
one_of [] i p inside is = absurd (omega arith)
one_of (q ∷ ps) zero p inside is = ([], ps, ap (λ (x : Piece). x ∷ ps) (sym is))
one_of (q ∷ ps) (suc i) p inside is =
    let (before, after, parts) = one_of ps i p (omega arith) is in
    (q ∷ before, after, ap (λ (x : List Piece). q ∷ x) parts)

short_append : (made : List Bool) (ps qs : List Piece) → pages_short made (ps ++ qs) ≡ pages_short made ps + pages_short made qs
short_append made [] qs = omega arith
short_append made (p ∷ ps) qs =
    elim p.write as (λ w. (if w then missing made p.addr p.len + pages_short made (ps ++ qs) else pages_short made (ps ++ qs))
    ≡ (if w then missing made p.addr p.len + pages_short made ps else pages_short made ps) + pages_short made qs)
    [ true ↦ omega (arith, short_append made ps qs) | false ↦ short_append made ps qs ]

short_one : (made : List Bool) (p : Piece) (ps : List Piece) → p.write ≡ true → pages_short made (p ∷ ps) ≡ missing made p.addr p.len + pages_short made ps
short_one made p ps is = rw is refl

-- bytes that are written inside a writable piece take as many pages from what the pieces lack as they make
pub short_write : (made : List Bool) (ps : List Piece) (i : ℕ) (p : Piece) (a n : ℕ) → i < length ps → p ≡ get_or ps i p → p.write ≡ true
    → p.addr ≤ a → a + n ≤ p.addr + p.len → a / 4096 + pages_touched a n ≤ length made
    → pages_short (with_pages made a n) ps + missing made a n ≤ pages_short made ps
short_write made ps i p a n within is write low high inside =
    let (before, after, parts) = one_of ps i p within is in
    let all : (m : List Bool) → pages_short m ps ≡ pages_short m before + (missing m p.addr p.len + pages_short m after) =
    λ m. ap (pages_short m) parts ∙ short_append m before (p ∷ after) ∙ ap (λ (k : ℕ). pages_short m before + k) (short_one m p after write) in
    omega (arith, all made, all (with_pages made a n), short_less made before a n inside, short_less made after a n inside, missing_within made p.addr p.len a n low high inside)

-- and they make no more than the pieces lack
pub short_enough : (made : List Bool) (ps : List Piece) (i : ℕ) (p : Piece) (a n : ℕ) → i < length ps → p ≡ get_or ps i p → p.write ≡ true
    → p.addr ≤ a → a + n ≤ p.addr + p.len → missing made a n ≤ pages_short made ps
short_enough made ps i p a n within is write low high =
    let (before, after, parts) = one_of ps i p within is in
    let all : pages_short made ps ≡ pages_short made before + (missing made p.addr p.len + pages_short made after) =
    ap (pages_short made) parts ∙ short_append made before (p ∷ after) ∙ ap (λ (k : ℕ). pages_short made before + k) (short_one made p after write) in
    omega (arith, all, missing_part made p.addr p.len a n low high)

few_short : (made : List Bool) (memory : ℕ) (ps : List Piece) → All (IsPiece memory) ps → pages_short made ps ≤ 2 * length ps
few_short made memory [] each = omega arith
few_short made memory (p ∷ ps) each =
    let one : IsPiece memory p = All-head (IsPiece memory) p ps each in
    let few : p.len ≤ 4096 = one.few in
    let rest : pages_short made ps ≤ 2 * length ps = few_short made memory ps (All-tail (IsPiece memory) p ps each) in
    let two : missing made p.addr p.len ≤ 2 = omega (arith, missing_le made p.addr p.len, touched_le p.addr p.len 1 (omega arith)) in
    elim p.write as (λ w. (if w then missing made p.addr p.len + pages_short made ps else pages_short made ps) ≤ 2 * length (p ∷ ps))
    [ true ↦ omega arith | false ↦ omega arith ]

-- the pieces of a chain lack at most so many pages as writing over all of them may make
pub short-le : (made : List Bool) (memory : ℕ) (ps : List Piece) → IsTrue (keeps_rules memory ps) → pages_short made ps ≤ PAGES_OF_SCATTER
short-le made memory ps test =
    let facts : KeepsRules memory ps = rules_facts memory ps test in
    let few : length ps ≤ 8 = facts.few in
    omega (arith, few_short made memory ps facts.each)
