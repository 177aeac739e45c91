-- The descriptors of a posted buffer, read at their locations, make the chain.
use Rattle.std.proofs.Common.{◌≡◌, ℕ, zero, suc, ◌+◌, ◌-◌, ◌^◌, ◌<◌, ◌≤◌, List, [], ◌∷◌, length, eqb, take, drop, Bool, true, false, Some, None, refl, ◌∙◌, ap, arith}
use Rattle.std.specs.Prelude.{All, nat_lt, option_map, sum}
use Rattle.std.proofs.lemmas.Bool.{cond-true, lt-ltb}
use Rattle.std.proofs.lemmas.List.Elements.{All-nil, All-cons, All-head, All-tail}
use Rattle.std.proofs.lemmas.List.Sums.{sum_by-cons}
use Rattle.vq_common.specs.declared.descriptor.Descriptor.{Descriptor}
use Rattle.vq_common.specs.Descriptor.{chain_from, and_following, descriptor_at, has_next, flags_of}
use Rattle.vq_common.proofs.DescriptorLaws.{Fits}
use Rattle.vq_split_drv.specs.Post.{descriptors_of}
use Rattle.vq_split_pair.proofs.Located.{AreAt}
use Rattle.vq_posted.specs.Free.{head_of}

-- no other descriptor follows a last one
last_flags : (write : Bool) → has_next (flags_of false write) ≡ false
last_flags true = refl
last_flags false = refl

-- one follows any other
more_flags : (write : Bool) → has_next (flags_of true write) ≡ true
more_flags true = refl
more_flags false = refl

-- the chain at a location of the table whose descriptor is the last one
chain_last : (left : ℕ) (mem : List ℕ) (table count n : ℕ) (d : Descriptor) → n < count → descriptor_at mem table n ≡ d → has_next d.flags ≡ false → chain_from (suc left) mem table count n ≡ Some (d ∷ [])
chain_last left mem table count n d inside is last =
    cond-true (nat_lt n count) (and_following (descriptor_at mem table n) (λ next. chain_from left mem table count next)) None (lt-ltb n count inside)
    ∙ ap (λ (e : Descriptor). and_following e (λ next. chain_from left mem table count next)) is
    ∙ rw last refl

-- the chain at a location whose descriptor names the next
chain_more : (left : ℕ) (mem : List ℕ) (table count n : ℕ) (d : Descriptor) (ds : List Descriptor) → n < count → descriptor_at mem table n ≡ d → has_next d.flags ≡ true
    → chain_from left mem table count d.next ≡ Some ds → chain_from (suc left) mem table count n ≡ Some (d ∷ ds)
chain_more left mem table count n d ds inside is more rest =
    cond-true (nat_lt n count) (and_following (descriptor_at mem table n) (λ next. chain_from left mem table count next)) None (lt-ltb n count inside)
    ∙ ap (λ (e : Descriptor). and_following e (λ next. chain_from left mem table count next)) is
    ∙ rw more (ap (option_map (λ ds. d ∷ ds)) rest)

-- the same with any room for more
pub chain_one : (left : ℕ) (mem : List ℕ) (table count n : ℕ) (d : Descriptor) → 1 ≤ left → n < count → descriptor_at mem table n ≡ d → has_next d.flags ≡ false → chain_from left mem table count n ≡ Some (d ∷ [])
chain_one zero mem table count n d some inside is last = absurd (omega arith)
chain_one (suc left) mem table count n d some inside is last = chain_last left mem table count n d inside is last

-- the descriptors of pieces, read at their locations, make a chain
pub chain_reads : (addr readable : ℕ) (lengths : List ℕ) (n : ℕ) (locations : List ℕ) (left : ℕ) (mem : List ℕ) (table count : ℕ) → 1 ≤ length lengths → length lengths ≤ left → length lengths ≤ suc (length locations)
    → All (λ n. n < count) (take (length lengths) (n ∷ locations)) → AreAt mem table (n ∷ locations) (descriptors_of addr readable lengths locations)
    → chain_from left mem table count n ≡ Some (descriptors_of addr readable lengths locations)
chain_reads addr readable [] n locations left mem table count some few enough below at = absurd (omega arith)
chain_reads addr readable (len ∷ lens) n locations zero mem table count some few enough below at = absurd (omega arith)
chain_reads addr readable (len ∷ []) n locations (suc left) mem table count some few enough below at =
    chain_last left mem table count n (record { addr = addr; len = len; flags = flags_of false (eqb readable 0); next = 0 }) (All-head (λ n. n < count) n [] below) at.0 (last_flags (eqb readable 0))
chain_reads addr readable (len ∷ more ∷ rest) n [] (suc left) mem table count some few enough below at = absurd (omega arith)
chain_reads addr readable (len ∷ more ∷ rest) n (p ∷ ps) (suc left) mem table count some few enough below at =
    let others : List Descriptor = descriptors_of (addr + len) (readable - 1) (more ∷ rest) ps in
    chain_more left mem table count n (record { addr = addr; len = len; flags = flags_of true (eqb readable 0); next = p }) others (All-head (λ n. n < count) n (take (length (more ∷ rest)) (p ∷ ps)) below) at.0 (more_flags (eqb readable 0))
    (chain_reads (addr + len) (readable - 1) (more ∷ rest) p ps left mem table count (omega arith) (omega arith) (omega arith) (All-tail (λ n. n < count) n (take (length (more ∷ rest)) (p ∷ ps)) below) at.1)

-- the first of locations below a bound is below it, and 0 where there is none
head_below : (bound : ℕ) (locations : List ℕ) → 1 ≤ bound → All (λ n. n < bound) locations → head_of locations < bound
head_below bound [] some below = some
head_below bound (n ∷ ns) some below = All-head (λ n. n < bound) n ns below

-- so are the others
others_below : (bound : ℕ) (locations : List ℕ) → All (λ n. n < bound) locations → All (λ n. n < bound) (drop 1 locations)
others_below bound [] below = below
others_below bound (n ∷ ns) below = All-tail (λ n. n < bound) n ns below

-- flags fit their width
flags_fit : (follows write : Bool) → flags_of follows write < 2 ^ 16
flags_fit true true = omega arith
flags_fit true false = omega arith
flags_fit false true = omega arith
flags_fit false false = omega arith

-- the fields of the descriptors of pieces fit their widths
pub descriptors_fit : (addr readable : ℕ) (lengths locations : List ℕ) → addr + sum lengths < 2 ^ 64 → All (λ n. n < 2 ^ 32) lengths → All (λ n. n < 2 ^ 16) locations → All Fits (descriptors_of addr readable lengths locations)
descriptors_fit addr readable [] locations low short below = All-nil Fits
descriptors_fit addr readable (len ∷ []) locations low short below =
    let total : sum (len ∷ []) ≡ len + 0 = sum_by-cons (λ x. x) len [] in
    All-cons Fits (record { addr = addr; len = len; flags = flags_of false (eqb readable 0); next = 0 }) []
    (record { addr = omega arith; len = All-head (λ n. n < 2 ^ 32) len [] short; flags = flags_fit false (eqb readable 0); next = omega arith }) (All-nil Fits)
descriptors_fit addr readable (len ∷ more ∷ rest) locations low short below =
    let total : sum (len ∷ more ∷ rest) ≡ len + sum (more ∷ rest) = sum_by-cons (λ x. x) len (more ∷ rest) in
    All-cons Fits (record { addr = addr; len = len; flags = flags_of true (eqb readable 0); next = head_of locations }) (descriptors_of (addr + len) (readable - 1) (more ∷ rest) (drop 1 locations))
    (record { addr = omega arith; len = All-head (λ n. n < 2 ^ 32) len (more ∷ rest) short; flags = flags_fit true (eqb readable 0); next = head_below (2 ^ 16) locations (omega arith) below })
    (descriptors_fit (addr + len) (readable - 1) (more ∷ rest) (drop 1 locations) (omega arith) (All-tail (λ n. n < 2 ^ 32) len (more ∷ rest) short) (others_below (2 ^ 16) locations below))
