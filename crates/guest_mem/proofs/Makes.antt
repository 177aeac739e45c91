-- The pages that a write makes: which those are, and how many they are at most.
use Rattle.std.proofs.Common.{◌≡◌, ℕ, zero, suc, ◌+◌, ◌-◌, ◌*◌, ◌/◌, ◌%◌, ◌≤◌, ◌<◌, nat_le, Bool, true, false, cond, not, List, [], ◌∷◌, ◌++◌, length, take, drop, replicate, get_or, count_by, inl, refl, sym, ◌∙◌, ap, arith, length-take}
use Rattle.std.specs.List.{sum_by}
use Rattle.std.proofs.lemmas.List.{take-append-drop, drop-drop, length-replicate, get_or-replicate, get_or-take, get_or-drop}
use Rattle.std.proofs.lemmas.List.Folds.{sum_by-replicate}
use Rattle.std.proofs.lemmas.List.Sums.{sum_by-append, sum_by-cons, count_by-le-length}
use Rattle.std.proofs.lemmas.Bool.Decides.{nat_tests}
use Rattle.vt_types.specs.Access.{pages_touched}
use Rattle.guest_mem.specs.Memory.{part, put_at}
use Rattle.guest_mem.specs.Pages.{MemoryView, pages_made, absent, missing, needed, AreThere}
use Rattle.guest_mem.proofs.Parts.{length-part, part-append-part, part-one, part-put_at_apart}

-- the pages that a range with bytes touches
touched_some : (addr count : ℕ) → 0 < count → pages_touched addr count ≡ (addr + count - 1) / 4096 - addr / 4096 + 1
touched_some addr count some = grind (arith, nat_tests)

-- few bytes touch few pages
pub touched_le : (addr count k : ℕ) → count ≤ 4096 * k + 1 → pages_touched addr count ≤ k + 1
touched_le addr zero k few = omega arith
touched_le addr (suc count) k few = omega (arith, touched_some addr (suc count) (omega arith))

-- more bytes touch no fewer pages
pub touched_grows : (addr count more : ℕ) → count ≤ more → pages_touched addr count ≤ pages_touched addr more
touched_grows addr zero more le = omega arith
touched_grows addr (suc count) more le = omega (arith, touched_some addr (suc count) (omega arith), touched_some addr more (omega arith))

-- bytes in one page touch that page alone
pub touched_one : (addr count : ℕ) → 0 < count → addr % 4096 + count ≤ 4096 → pages_touched addr count ≡ 1
touched_one addr count some within = omega (arith, touched_some addr count some)

-- of n pages and the k behind them
pub absent-split : (made : List Bool) (first n k : ℕ) → absent made first (n + k) ≡ absent made first n + absent made (first + n) k
absent-split made first n k =
    ap (count_by not) (sym (part-append-part made first n k)) ∙ sum_by-append (λ b. cond (not b) 1 0) (part made first n) (part made (first + n) k)

-- among more pages no fewer were not made
pub absent-grows : (made : List Bool) (first n k : ℕ) → n ≤ k → absent made first n ≤ absent made first k
absent-grows made first n k le =
    let split : n + (k - n) ≡ k = omega arith in
    omega (arith, ap (absent made first) split, absent-split made first n (k - n))

-- no more pages were not made than there are
pub absent_le : (made : List Bool) (first n : ℕ) → absent made first n ≤ n
absent_le made first n = omega (arith, count_by-le-length not (part made first n), length-take n (drop first made))

-- a write makes no more pages than it touches
pub missing_le : (made : List Bool) (addr count : ℕ) → missing made addr count ≤ pages_touched addr count
missing_le made addr count = absent_le made (addr / 4096) (pages_touched addr count)

-- and so does a call, whether its range is inside or not
pub needed_le : (m : MemoryView) (addr count : ℕ) → needed m addr count ≤ pages_touched addr count
needed_le m addr count =
    elim (nat_le (addr + count) (length m.bytes)) as (λ b. cond b (missing m.made addr count) 0 ≤ pages_touched addr count)
    [ true ↦ missing_le m.made addr count | false ↦ omega arith ]

-- a page was made or not
count_one : (b : Bool) → count_by not (b ∷ []) ≡ cond b 0 1
count_one true = refl
count_one false = refl

pub absent-one : (made : List Bool) (page : ℕ) → page < length made → absent made page 1 ≡ cond (get_or made page false) 0 1
absent-one made page inside = ap (count_by not) (part-one made page false inside) ∙ count_one (get_or made page false)

-- pages behind those of a range are as they were once it was made
pub absent-behind : (made : List Bool) (first n k : ℕ) → first + n ≤ length made → absent (put_at made first (replicate n true)) (first + n) k ≡ absent made (first + n) k
absent-behind made first n k inside =
    let long : length (replicate {A = Bool} n true) ≡ n = length-replicate n true in
    ap (count_by not) (part-put_at_apart made first (replicate n true) (first + n) k (omega arith) (inl (omega arith)))

-- one of pages that are there
one_there : (made : List Bool) (first n i : ℕ) → part made first n ≡ replicate n true → i < n → get_or made (first + i) false ≡ true
one_there made first n i are within =
    sym (get_or-take n (drop first made) i false within ∙ get_or-drop first made i false)
    ∙ ap (λ (w : List Bool). get_or w i false) are ∙ get_or-replicate n i true false within

-- the page of a byte of a range whose pages are there
pub there_at : (made : List Bool) (addr count i : ℕ) → AreThere made addr count → i < count → get_or made ((addr + i) / 4096) false ≡ true
there_at made addr count i are within =
    let page : ℕ = (addr + i) / 4096 - addr / 4096 in
    let location : (addr + i) / 4096 ≡ addr / 4096 + page = omega arith in
    ap (λ (k : ℕ). get_or made k false) location
    ∙ one_there made (addr / 4096) (pages_touched addr count) page are (omega (arith, touched_some addr count (omega arith)))

-- the pages of a list that were made, and those that were not
count_all : (made : List Bool) → pages_made made + count_by not made ≡ length made
count_all [] = refl
count_all (true ∷ made) = omega (arith, sum_by-cons (λ b. cond b 1 0) true made, sum_by-cons (λ b. cond (not b) 1 0) true made, count_all made)
count_all (false ∷ made) = omega (arith, sum_by-cons (λ b. cond b 1 0) false made, sum_by-cons (λ b. cond (not b) 1 0) false made, count_all made)

-- the pages that were made, before a range, in it and behind it
pages_made-split : (made : List Bool) (first n : ℕ) → pages_made made ≡ pages_made (take first made) + (pages_made (part made first n) + pages_made (drop (first + n) made))
pages_made-split made first n =
    let one : Bool → ℕ = λ b. cond b 1 0 in
    let behind : part made first n ++ drop (first + n) made ≡ drop first made = ap (λ (w : List Bool). part made first n ++ w) (sym (drop-drop n first made)) ∙ take-append-drop n (drop first made) in
    ap (sum_by one) (sym (ap (λ (w : List Bool). take first made ++ w) behind ∙ take-append-drop first made))
    ∙ sum_by-append one (take first made) (part made first n ++ drop (first + n) made)
    ∙ ap (λ (k : ℕ). pages_made (take first made) + k) (sum_by-append one (part made first n) (drop (first + n) made))

-- as many more pages are made as a range misses
pub pages_made-put_at : (made : List Bool) (first n : ℕ) → first + n ≤ length made → pages_made (put_at made first (replicate n true)) ≡ pages_made made + absent made first n
pages_made-put_at made first n inside =
    let one : Bool → ℕ = λ b. cond b 1 0 in
    let row : List Bool = replicate n true in
    let long : length row ≡ n = length-replicate n true in
    let ones : pages_made row ≡ n * 1 = sum_by-replicate one n true in
    let behind : List Bool = drop (first + length row) made in
    let same : pages_made behind ≡ pages_made (drop (first + n) made) = ap (λ (k : ℕ). pages_made (drop (first + k) made)) long in
    let put : pages_made (put_at made first row) ≡ pages_made (take first made) + pages_made row + pages_made behind =
    sum_by-append one (take first made ++ row) behind ∙ ap (λ (k : ℕ). k + pages_made behind) (sum_by-append one (take first made) row) in
    omega (arith, put, ones, same, pages_made-split made first n, count_all (part made first n), length-part made first n inside)
