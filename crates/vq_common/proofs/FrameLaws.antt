-- A write apart from a table leaves what the table says.
use Rattle.std.proofs.Common.{◌≡◌, ℕ, zero, suc, ◌+◌, ◌*◌, ◌/◌, ◌<◌, ◌≤◌, List, [], ◌∷◌, length, Option, Some, None, Bool, true, false, inl, inr, refl, ◌∙◌, ap, arith, option_map}
use Rattle.std.specs.Prelude.{nat_lt, if◌then◌else◌}
use Rattle.std.proofs.lemmas.Bool.Decides.{nat_tests}
use Rattle.guest_mem.specs.Memory.{part, put_at, Apart}
use Rattle.guest_mem.proofs.Parts.{length-put_at, part-put_at_apart}
use Rattle.vq_common.specs.declared.descriptor.Descriptor.{Descriptor}
use Rattle.vq_common.specs.Descriptor.{descriptor_at, and_following, has_next, chain_from}
use Rattle.vq_common.specs.PackedDescriptor.{packed_descriptor_in, packed_piece_of}
use Rattle.vq_common.specs.Table.{packed_table, pieces_if_direct, split_table, table_pieces, is_table}
use Rattle.vq_common.proofs.DescriptorLaws.{descriptor_at-put_apart}

-- a location of a table that lies apart lies apart
pub Apart-location : (a n table count location : ℕ) → location < count → Apart a n table (16 * count) → Apart a n (table + 16 * location) 16
Apart-location a n table count location within (inl before) = inl (omega arith)
Apart-location a n table count location within (inr behind) = inr (omega arith)

-- so does any part of it
pub Apart-part : (a n b k c j : ℕ) → b ≤ c → c + j ≤ b + k → Apart a n b k → Apart a n c j
Apart-part a n b k c j low high (inl before) = inl (omega arith)
Apart-part a n b k c j low high (inr behind) = inr (omega arith)

following_same : (d : Descriptor) (f g : ℕ → Option (List Descriptor)) → ((next : ℕ) → f next ≡ g next) → and_following d f ≡ and_following d g
following_same d f g same = ap (λ ds. if has_next d.flags then option_map (λ ds. d ∷ ds) ds else Some (d ∷ [])) (same d.next)

if_same : {X : Type 0} (b : Bool) (x y z : X) → (b ≡ true → x ≡ y) → (if b then x else z) ≡ (if b then y else z)
if_same true x y z same = same refl
if_same false x y z same = refl

-- a chain stays
pub chain_from-put_apart : (left : ℕ) (mem : List ℕ) (a : ℕ) (xs : List ℕ) (table count n : ℕ) → a + length xs ≤ length mem → Apart a (length xs) table (16 * count)
    → chain_from left (put_at mem a xs) table count n ≡ chain_from left mem table count n
chain_from-put_apart zero mem a xs table count n inside apart = refl
chain_from-put_apart (suc left) mem a xs table count n inside apart =
    if_same (nat_lt n count) _ _ None (λ test.
    let within : n < count = grind (arith, nat_tests) in
    ap (λ d. and_following d (λ next. chain_from left (put_at mem a xs) table count next))
    (descriptor_at-put_apart mem a xs table n inside (Apart-location a (length xs) table count n within apart))
    ∙ following_same (descriptor_at mem table n) (λ next. chain_from left (put_at mem a xs) table count next) (λ next. chain_from left mem table count next)
    (λ next. chain_from-put_apart left mem a xs table count next inside apart))

-- a packed table stays
pub packed_table-put_apart : (count : ℕ) (mem : List ℕ) (a : ℕ) (xs : List ℕ) (table : ℕ) → a + length xs ≤ length mem → Apart a (length xs) table (16 * count)
    → packed_table count (put_at mem a xs) table ≡ packed_table count mem table
packed_table-put_apart zero mem a xs table inside apart = refl
packed_table-put_apart (suc count) mem a xs table inside apart =
    let first : Apart a (length xs) table 16 = Apart-part a (length xs) table (16 * suc count) table 16 (omega arith) (omega arith) apart in
    let others : Apart a (length xs) (table + 16) (16 * count) = Apart-part a (length xs) table (16 * suc count) (table + 16) (16 * count) (omega arith) (omega arith) apart in
    ap (λ bytes. packed_piece_of (packed_descriptor_in bytes) ∷ packed_table count (put_at mem a xs) (table + 16)) (part-put_at_apart mem a xs table 16 inside first)
    ∙ ap (λ ps. packed_piece_of (packed_descriptor_in (part mem table 16)) ∷ ps) (packed_table-put_apart count mem a xs (table + 16) inside others)

table_same : (split : Bool) (mem : List ℕ) (a : ℕ) (xs : List ℕ) (addr len : ℕ) → a + length xs ≤ length mem → Apart a (length xs) addr len
    → (if split then split_table (put_at mem a xs) addr len else Some (packed_table (len / 16) (put_at mem a xs) addr))
    ≡ (if split then split_table mem addr len else Some (packed_table (len / 16) mem addr))
table_same true mem a xs addr len inside apart =
    ap pieces_if_direct (chain_from-put_apart (len / 16) mem a xs addr (len / 16) 0 inside (Apart-part a (length xs) addr len addr (16 * (len / 16)) (omega arith) (omega arith) apart))
table_same false mem a xs addr len inside apart =
    ap Some (packed_table-put_apart (len / 16) mem a xs addr inside (Apart-part a (length xs) addr len addr (16 * (len / 16)) (omega arith) (omega arith) apart))

-- an indirect table stays
pub table_pieces-put_apart : (mem : List ℕ) (a : ℕ) (xs : List ℕ) (addr len size : ℕ) (split : Bool) → a + length xs ≤ length mem → Apart a (length xs) addr len
    → table_pieces (put_at mem a xs) addr len size split ≡ table_pieces mem addr len size split
table_pieces-put_apart mem a xs addr len size split inside apart =
    let long : length (put_at mem a xs) ≡ length mem = length-put_at mem a xs inside in
    ap (λ (memory : ℕ). if is_table memory addr len size then (if split then split_table (put_at mem a xs) addr len else Some (packed_table (len / 16) (put_at mem a xs) addr)) else None) long
    ∙ ap (λ ps. if is_table (length mem) addr len size then ps else None) (table_same split mem a xs addr len inside apart)
