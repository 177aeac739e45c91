-- Steps along an indirect table.
use Rattle.std.proofs.Common.{◌≡◌, ℕ, zero, suc, ◌+◌, ◌-◌, ◌*◌, ◌/◌, ◌<◌, ◌≤◌, List, [], ◌∷◌, ◌++◌, Option, Some, None, Bool, true, false, map, refl, sym, ◌∙◌, ap, arith, append_assoc, option_map, length, length-append, ◌⊎◌, inl, inr}
use Rattle.std.specs.Prelude.{◌&&◌, ◌%◌, ◌==◌, nat_lt, nat_le, if◌then◌else◌, not}
use Rattle.std.specs.List.{list_all}
use Rattle.std.proofs.lemmas.Bool.{and_parts}
use Rattle.std.proofs.lemmas.Bool.Decides.{nat_tests}
use Rattle.std.proofs.lemmas.List.{length-map}
use Rattle.vq_common.specs.declared.descriptor.Descriptor.{Descriptor}
use Rattle.vq_common.specs.declared.chain.Piece.{Piece}
use Rattle.guest_mem.specs.Memory.{part}
use Rattle.vq_common.specs.Descriptor.{descriptor_at, chain_from, and_following, piece_of, has_next, is_indirect}
use Rattle.vq_common.specs.PackedDescriptor.{packed_descriptor_in, packed_piece_of}
use Rattle.vq_common.specs.Table.{pieces_if_direct, pieces_with, packed_table, split_table, table_pieces, is_table}

-- one step of a chain
pub chain_step : (n i location table count : ℕ) (mem : List ℕ) → i < n → location < count
    → chain_from (n - i) mem table count location ≡ and_following (descriptor_at mem table location) (λ next. chain_from (n - (i + 1)) mem table count next)
chain_step n i location table count mem lt inside =
    let e : n - i ≡ suc (n - (i + 1)) = omega arith in
    let t : nat_lt location count ≡ true = grind (arith, nat_tests) in
    rw (e, t) refl

-- no chain goes through a location that the table lacks
pub chain_from_past : (n : ℕ) (mem : List ℕ) (table count location : ℕ) → count ≤ location → chain_from n mem table count location ≡ None
chain_from_past zero mem table count location past = refl
chain_from_past (suc n) mem table count location past =
    let t : nat_lt location count ≡ false = grind (arith, nat_tests) in
    rw t refl

-- no chain has no descriptor
pub chain_from_none : (n i : ℕ) (mem : List ℕ) (table count location : ℕ) → n ≤ i → chain_from (n - i) mem table count location ≡ None
chain_from_none n i mem table count location none =
    let e : n - i ≡ zero = omega arith in
    rw e refl

-- a chain has 1 to `left` descriptors
following_length : (d : Descriptor) (left : ℕ) (w : Bool) (r : Option (List Descriptor)) (ds : List Descriptor)
    → ((es : List Descriptor) → r ≡ Some es → length es ≤ left)
    → (if w then option_map (λ es. d ∷ es) r else Some (d ∷ [])) ≡ Some ds → (1 ≤ length ds) × (length ds ≤ suc left)
following_length d left true None ds few is = absurd (cc)
following_length d left true (Some es) ds few is =
    let same : d ∷ es ≡ ds = cc in
    let long : length es ≤ left = few es refl in
    rw (← same) (omega arith, omega arith)
following_length d left false r ds few is =
    let same : d ∷ [] ≡ ds = cc in
    rw (← same) (omega arith, omega arith)

chain_length_by : (left : ℕ) (mem : List ℕ) (table count n : ℕ) (w : Bool) (ds : List Descriptor)
    → ((next : ℕ) (es : List Descriptor) → chain_from left mem table count next ≡ Some es → length es ≤ left)
    → (if w then and_following (descriptor_at mem table n) (λ next. chain_from left mem table count next) else None) ≡ Some ds → (1 ≤ length ds) × (length ds ≤ suc left)
chain_length_by left mem table count n true ds few is =
    let d : Descriptor = descriptor_at mem table n in
    following_length d left (has_next d.flags) (chain_from left mem table count d.next) ds (few d.next) is
chain_length_by left mem table count n false ds few is = absurd (cc)

pub length-chain_from : (left : ℕ) (mem : List ℕ) (table count n : ℕ) (ds : List Descriptor) → chain_from left mem table count n ≡ Some ds → (1 ≤ length ds) × (length ds ≤ left)
length-chain_from zero mem table count n ds is = absurd (cc)
length-chain_from (suc left) mem table count n ds is =
    chain_length_by left mem table count n (nat_lt n count) ds (λ next es e. (length-chain_from left mem table count next es e).1) is

-- what a step of a chain is where it ends, and where it goes on
pub following_last : (d : Descriptor) (follow : ℕ → Option (List Descriptor)) → has_next d.flags ≡ false → and_following d follow ≡ Some (d ∷ [])
following_last d follow last = rw last refl

pub following_more : (d : Descriptor) (follow : ℕ → Option (List Descriptor)) → has_next d.flags ≡ true → and_following d follow ≡ option_map (λ ds. d ∷ ds) (follow d.next)
following_more d follow next = rw next refl

-- more than eight pieces do not go together
pub pieces_with_some : (found more : List Piece) → length found + length more ≤ 8 → pieces_with found (Some more) ≡ Some (found ++ more)
pieces_with_some found more few =
    let t : nat_le (length found + length more) 8 ≡ true = grind (arith, nat_tests) in
    rw t refl

pub pieces_with_many : (found more : List Piece) → 8 < length found + length more → pieces_with found (Some more) ≡ None
pieces_with_many found more many =
    let t : nat_le (length found + length more) 8 ≡ false = grind (arith, nat_tests) in
    rw t refl

-- a piece that is found stands before the others
pub pieces_with_cons : (found : List Piece) (p : Piece) (o : Option (List Piece)) → pieces_with found (option_map (λ ps. p ∷ ps) o) ≡ pieces_with (found ++ p ∷ []) o
pieces_with_cons found p None = refl
pieces_with_cons found p (Some ps) =
    let e : length found + length (p ∷ ps) ≡ length (found ++ p ∷ []) + length ps = omega (arith, length-append found (p ∷ [])) in
    rw (e, append_assoc found (p ∷ []) ps) refl

mapped_if : (b : Bool) (p : Piece) (ps : List Piece) → (if b then Some (p ∷ ps) else None) ≡ option_map (λ qs. p ∷ qs) (if b then Some ps else None)
mapped_if true p ps = refl
mapped_if false p ps = refl

-- a descriptor that names no table stands before the pieces of the others
direct_first : (d : Descriptor) (o : Option (List Descriptor)) → is_indirect d.flags ≡ false
    → pieces_if_direct (option_map (λ ds. d ∷ ds) o) ≡ option_map (λ ps. piece_of d ∷ ps) (pieces_if_direct o)
direct_first d None direct = refl
direct_first d (Some ds) direct = rw direct (mapped_if (list_all (λ (d : Descriptor). not (is_indirect d.flags)) ds) (piece_of d) (map piece_of ds))

-- a descriptor that names a table spoils the list
indirect_first : (d : Descriptor) (o : Option (List Descriptor)) → is_indirect d.flags ≡ true → pieces_if_direct (option_map (λ ds. d ∷ ds) o) ≡ None
indirect_first d None named = refl
indirect_first d (Some ds) named = rw named refl

following_indirect : (d : Descriptor) (follow : ℕ → Option (List Descriptor)) → is_indirect d.flags ≡ true → pieces_if_direct (and_following d follow) ≡ None
following_indirect d follow named =
    elim (has_next d.flags) as (λ b. pieces_if_direct (if b then option_map (λ ds. d ∷ ds) (follow d.next) else Some (d ∷ [])) ≡ None)
    [ true ↦ indirect_first d (follow d.next) named | false ↦ indirect_first d (Some []) named ]

-- a walk that comes to a descriptor that names a table gives nothing
pub table_indirect : (found : List Piece) (n i location table count : ℕ) (mem : List ℕ) → i < n → location < count → is_indirect (descriptor_at mem table location).flags ≡ true
    → pieces_with found (pieces_if_direct (chain_from (n - i) mem table count location)) ≡ None
table_indirect found n i location table count mem lt inside named =
    ap (λ ds. pieces_with found (pieces_if_direct ds)) (chain_step n i location table count mem lt inside)
    ∙ ap (pieces_with found) (following_indirect (descriptor_at mem table location) (λ next. chain_from (n - (i + 1)) mem table count next) named)

-- a walk ends where a descriptor has no next
pub table_last : (found : List Piece) (n i location table count : ℕ) (mem : List ℕ) → i < n → location < count → is_indirect (descriptor_at mem table location).flags ≡ false
    → has_next (descriptor_at mem table location).flags ≡ false → length found < 8
    → pieces_with found (pieces_if_direct (chain_from (n - i) mem table count location)) ≡ Some (found ++ piece_of (descriptor_at mem table location) ∷ [])
table_last found n i location table count mem lt inside direct last few =
    let d : Descriptor = descriptor_at mem table location in
    ap (λ ds. pieces_with found (pieces_if_direct ds)) (chain_step n i location table count mem lt inside ∙ following_last d (λ next. chain_from (n - (i + 1)) mem table count next) last)
    ∙ ap (pieces_with found) (direct_first d (Some []) direct)
    ∙ pieces_with_some found (piece_of d ∷ []) (omega arith)

-- and else goes on with the next
pub table_more : (found : List Piece) (n i location table count : ℕ) (mem : List ℕ) → i < n → location < count → is_indirect (descriptor_at mem table location).flags ≡ false
    → has_next (descriptor_at mem table location).flags ≡ true
    → pieces_with found (pieces_if_direct (chain_from (n - i) mem table count location))
    ≡ pieces_with (found ++ piece_of (descriptor_at mem table location) ∷ []) (pieces_if_direct (chain_from (n - (i + 1)) mem table count (descriptor_at mem table location).next))
table_more found n i location table count mem lt inside direct more =
    let d : Descriptor = descriptor_at mem table location in
    let rest : Option (List Descriptor) = chain_from (n - (i + 1)) mem table count d.next in
    ap (λ ds. pieces_with found (pieces_if_direct ds)) (chain_step n i location table count mem lt inside ∙ following_more d (λ next. chain_from (n - (i + 1)) mem table count next) more)
    ∙ ap (pieces_with found) (direct_first d rest direct)
    ∙ pieces_with_cons found (piece_of d) (pieces_if_direct rest)

full_by_test : (b : Bool) (found : List Piece) (ds : List Descriptor) → 1 ≤ length ds → 8 ≤ length found → pieces_with found (if b then Some (map piece_of ds) else None) ≡ None
full_by_test true found ds some full = pieces_with_many found (map piece_of ds) (omega (arith, length-map ds piece_of))
full_by_test false found ds some full = refl

full_before : (found : List Piece) (o : Option (List Descriptor)) → ((ds : List Descriptor) → o ≡ Some ds → 1 ≤ length ds) → 8 ≤ length found → pieces_with found (pieces_if_direct o) ≡ None
full_before found None some full = refl
full_before found (Some ds) some full = full_by_test (list_all (λ (d : Descriptor). not (is_indirect d.flags)) ds) found ds (some ds refl) full

-- a walk fails where its location is not in the table, or eight pieces are found
pub table_fails : (found : List Piece) (left location table count : ℕ) (mem : List ℕ) → (count ≤ location) ⊎ (8 ≤ length found)
    → pieces_with found (pieces_if_direct (chain_from left mem table count location)) ≡ None
table_fails found left location table count mem (inl past) = ap (λ ds. pieces_with found (pieces_if_direct ds)) (chain_from_past left mem table count location past)
table_fails found left location table count mem (inr full) =
    full_before found (chain_from left mem table count location) (λ ds is. (length-chain_from left mem table count location ds is).0) full

-- one step along a packed table
pub packed_step : (found : List Piece) (n i table : ℕ) (mem : List ℕ) → i < n
    → found ++ packed_table (n - i) mem (table + 16 * i) ≡ (found ++ packed_piece_of (packed_descriptor_in (part mem (table + 16 * i) 16)) ∷ []) ++ packed_table (n - (i + 1)) mem (table + 16 * (i + 1))
packed_step found n i table mem lt =
    let e : n - i ≡ suc (n - (i + 1)) = omega arith in
    let location : table + 16 * (i + 1) ≡ table + 16 * i + 16 = omega arith in
    let at : ℕ = table + 16 * i in
    rw (e, location) (sym (append_assoc found (packed_piece_of (packed_descriptor_in (part mem at 16)) ∷ []) (packed_table (n - (i + 1)) mem (at + 16))))

-- a packed table has as many pieces as descriptors
pub length-packed_table : (count : ℕ) (mem : List ℕ) (table : ℕ) → length (packed_table count mem table) ≡ count
length-packed_table zero mem table = refl
length-packed_table (suc count) mem table = omega (arith, length-packed_table count mem (table + 16))

-- an indirect table has at most eight pieces, so all of them go behind none
few_by_test : (b : Bool) (ds : List Descriptor) → length ds ≤ 8 → pieces_with [] (if b then Some (map piece_of ds) else None) ≡ (if b then Some (map piece_of ds) else None)
few_by_test true ds few = pieces_with_some [] (map piece_of ds) (omega (arith, length-map ds piece_of))
few_by_test false ds few = refl

few_before : (o : Option (List Descriptor)) → ((ds : List Descriptor) → o ≡ Some ds → length ds ≤ 8) → pieces_with [] (pieces_if_direct o) ≡ pieces_if_direct o
few_before None few = refl
few_before (Some ds) few = few_by_test (list_all (λ (d : Descriptor). not (is_indirect d.flags)) ds) ds (few ds refl)

few_of_table : (split : Bool) (mem : List ℕ) (addr len : ℕ) → len / 16 ≤ 8
    → pieces_with [] (if split then split_table mem addr len else Some (packed_table (len / 16) mem addr)) ≡ (if split then split_table mem addr len else Some (packed_table (len / 16) mem addr))
few_of_table true mem addr len few =
    few_before (chain_from (len / 16) mem addr (len / 16) 0) (λ ds is. let (some, le) = length-chain_from (len / 16) mem addr (len / 16) 0 ds is in omega arith)
few_of_table false mem addr len few = pieces_with_some [] (packed_table (len / 16) mem addr) (omega (arith, length-packed_table (len / 16) mem addr))

given_if : (b : Bool) (o : Option (List Piece)) → (b ≡ true → pieces_with [] o ≡ o) → pieces_with [] (if b then o else None) ≡ (if b then o else None)
given_if true o same = same refl
given_if false o same = refl

table_few : (memory addr len size : ℕ) → is_table memory addr len size ≡ true → len / 16 ≤ 8
table_few memory addr len size test =
    let (front, own) = and_parts (nat_lt 0 len && (len % 16 == 0) && nat_le (addr + len) memory && nat_le (len / 16) 8) (nat_le (len / 16) size) test in
    let (others, few) = and_parts (nat_lt 0 len && (len % 16 == 0) && nat_le (addr + len) memory) (nat_le (len / 16) 8) front in
    grind (arith, nat_tests)

pub pieces_with_nil : (mem : List ℕ) (addr len size : ℕ) (split : Bool) → pieces_with [] (table_pieces mem addr len size split) ≡ table_pieces mem addr len size split
pieces_with_nil mem addr len size split =
    given_if (is_table (length mem) addr len size) (if split then split_table mem addr len else Some (packed_table (len / 16) mem addr))
    (λ test. few_of_table split mem addr len (table_few (length mem) addr len size test))
