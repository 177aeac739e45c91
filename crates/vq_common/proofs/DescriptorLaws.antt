-- Descriptors that were written are read.
use Rattle.std.proofs.Common.{◌≡◌, ℕ, ◌+◌, ◌*◌, ◌^◌, ◌<◌, ◌≤◌, List, [], ◌∷◌, ◌++◌, length, drop, refl, ◌∙◌, ap, arith}
use Rattle.std.proofs.Math.Seq.{drop-append_seam}
use Rattle.byteorder.specs.Endian.{little_number, little_bytes}
use Rattle.byteorder.specs.Numbers.{little_number-reads_back}
use Rattle.std.proofs.lemmas.List.Elements.{All-drop}
use Rattle.guest_mem.specs.Memory.{part, put_at, Apart, IsByteList}
use Rattle.guest_mem.proofs.Parts.{part-put_at_same_length, part-put_at_apart}
use Rattle.guest_mem.proofs.ByteLists.{little_number-lt, IsByteList-part}
use Rattle.vq_common.specs.declared.descriptor.Descriptor.{Descriptor}
use Rattle.vq_common.specs.declared.packed_descriptor.PackedDescriptor.{PackedDescriptor}
use Rattle.vq_common.specs.Descriptor.{descriptor_in, descriptor_bytes, descriptor_at}
use Rattle.vq_common.specs.PackedDescriptor.{packed_descriptor_in, packed_descriptor_bytes, packed_descriptor_at}

same_cell : (x y : ℕ) (xs ys : List ℕ) → x ≡ y → xs ≡ ys → x ∷ xs ≡ y ∷ ys
same_cell x y xs ys e f = ap (λ (n : ℕ). n ∷ xs) e ∙ ap (λ (ns : List ℕ). y ∷ ns) f

-- the eight bytes of a number of 32 bits and, above it, two of 16
pub half_bytes : (len a b : ℕ) → len < 2 ^ 32 → a < 2 ^ 16 → b < 2 ^ 16
    → little_bytes 8 (len + 2 ^ 32 * (a + 2 ^ 16 * b)) ≡ little_bytes 4 len ++ (little_bytes 2 a ++ little_bytes 2 b)
half_bytes len a b h i j =
    same_cell _ _ _ _ (omega arith) (same_cell _ _ _ _ (omega arith) (same_cell _ _ _ _ (omega arith) (same_cell _ _ _ _ (omega arith)
    (same_cell _ _ _ _ (omega arith) (same_cell _ _ _ _ (omega arith) (same_cell _ _ _ _ (omega arith) (same_cell _ _ _ _ (omega arith) refl)))))))

-- the fields of a descriptor fit their widths
pub record Fits (d : Descriptor) : Type 0 where
  pub addr : d.addr < 2 ^ 64
  pub len : d.len < 2 ^ 32
  pub flags : d.flags < 2 ^ 16
  pub next : d.next < 2 ^ 16

-- those of a descriptor in bytes do
pub Fits-descriptor_in : (bytes : List ℕ) → IsByteList bytes → Fits (descriptor_in bytes)
Fits-descriptor_in bytes are = record {
  addr = little_number-lt 8 bytes are;
  len = little_number-lt 4 (drop 8 bytes) (All-drop (λ b. b < 256) 8 bytes are);
  flags = little_number-lt 2 (drop 12 bytes) (All-drop (λ b. b < 256) 12 bytes are);
  next = little_number-lt 2 (drop 14 bytes) (All-drop (λ b. b < 256) 14 bytes are);
}

pub Fits-descriptor_at : (mem : List ℕ) (table n : ℕ) → IsByteList mem → Fits (descriptor_at mem table n)
Fits-descriptor_at mem table n are = Fits-descriptor_in (part mem (table + 16 * n) 16) (IsByteList-part mem (table + 16 * n) 16 are)

-- a descriptor has 16 bytes
pub length-descriptor_bytes : (d : Descriptor) → length (descriptor_bytes d) ≡ 16
length-descriptor_bytes d = refl

-- a field behind others is read again
field : (n k x : ℕ) (front rest : List ℕ) → length front ≡ k → x < 256 ^ n → little_number n (drop k (front ++ (little_bytes n x ++ rest))) ≡ x
field n k x front rest e h = rw (← e) (rw (drop-append_seam front (little_bytes n x ++ rest)) (little_number-reads_back n x rest h))

-- the bytes of a descriptor give the descriptor
pub descriptor_in-descriptor_bytes : (d : Descriptor) → Fits d → descriptor_in (descriptor_bytes d) ≡ d
descriptor_in-descriptor_bytes d f =
    let a : little_number 8 (descriptor_bytes d) ≡ d.addr = little_number-reads_back 8 d.addr (little_bytes 4 d.len ++ (little_bytes 2 d.flags ++ little_bytes 2 d.next)) f.addr in
    let b : little_number 4 (drop 8 (descriptor_bytes d)) ≡ d.len = field 4 8 d.len (little_bytes 8 d.addr) (little_bytes 2 d.flags ++ little_bytes 2 d.next) refl f.len in
    let e : little_number 2 (drop 12 (descriptor_bytes d)) ≡ d.flags = field 2 12 d.flags (little_bytes 8 d.addr ++ little_bytes 4 d.len) (little_bytes 2 d.next) refl f.flags in
    let g : little_number 2 (drop 14 (descriptor_bytes d)) ≡ d.next = field 2 14 d.next (little_bytes 8 d.addr ++ (little_bytes 4 d.len ++ little_bytes 2 d.flags)) [] refl f.next in
    rw (a, b, e, g) refl

-- the bytes of any descriptor, put at a location
put_bytes : (mem : List ℕ) (table n : ℕ) (xs : List ℕ) → length xs ≡ 16 → table + 16 * n + 16 ≤ length mem → descriptor_at (put_at mem (table + 16 * n) xs) table n ≡ descriptor_in xs
put_bytes mem table n xs long inside = ap descriptor_in (part-put_at_same_length mem (table + 16 * n) xs 16 long (omega arith))

-- a descriptor that was put at a location is read there
pub descriptor_at-put : (mem : List ℕ) (table n : ℕ) (d : Descriptor) → Fits d → table + 16 * n + 16 ≤ length mem
    → descriptor_at (put_at mem (table + 16 * n) (descriptor_bytes d)) table n ≡ d
descriptor_at-put mem table n d fits inside =
    put_bytes mem table n (descriptor_bytes d) (length-descriptor_bytes d) inside ∙ descriptor_in-descriptor_bytes d fits

-- a write apart from a descriptor leaves it
pub descriptor_at-put_apart : (mem : List ℕ) (a : ℕ) (xs : List ℕ) (table n : ℕ) → a + length xs ≤ length mem → Apart a (length xs) (table + 16 * n) 16
    → descriptor_at (put_at mem a xs) table n ≡ descriptor_at mem table n
descriptor_at-put_apart mem a xs table n inside apart = ap descriptor_in (part-put_at_apart mem a xs (table + 16 * n) 16 inside apart)

-- the fields of a packed descriptor fit their widths
pub record FitsPacked (d : PackedDescriptor) : Type 0 where
  pub addr : d.addr < 2 ^ 64
  pub len : d.len < 2 ^ 32
  pub id : d.id < 2 ^ 16
  pub flags : d.flags < 2 ^ 16

-- a packed descriptor has 16 bytes
pub length-packed_descriptor_bytes : (d : PackedDescriptor) → length (packed_descriptor_bytes d) ≡ 16
length-packed_descriptor_bytes d = refl

-- the bytes of a packed descriptor give the descriptor
pub packed_descriptor_in-packed_descriptor_bytes : (d : PackedDescriptor) → FitsPacked d → packed_descriptor_in (packed_descriptor_bytes d) ≡ d
packed_descriptor_in-packed_descriptor_bytes d f =
    let as_split : Descriptor = record { addr = d.addr; len = d.len; flags = d.id; next = d.flags } in
    ap (λ (e : Descriptor). record { addr = e.addr; len = e.len; id = e.flags; flags = e.next })
    (descriptor_in-descriptor_bytes as_split (record { addr = f.addr; len = f.len; flags = f.id; next = f.flags }))

-- a packed descriptor that was put at a location is read there
pub packed_descriptor_at-put : (mem : List ℕ) (table n : ℕ) (d : PackedDescriptor) → FitsPacked d → table + 16 * n + 16 ≤ length mem
    → packed_descriptor_at (put_at mem (table + 16 * n) (packed_descriptor_bytes d)) table n ≡ d
packed_descriptor_at-put mem table n d fits inside =
    ap packed_descriptor_in (part-put_at_same_length mem (table + 16 * n) (packed_descriptor_bytes d) 16 (length-packed_descriptor_bytes d) (omega arith))
    ∙ packed_descriptor_in-packed_descriptor_bytes d fits

-- a write apart from a packed descriptor leaves it
pub packed_descriptor_at-put_apart : (mem : List ℕ) (a : ℕ) (xs : List ℕ) (table n : ℕ) → a + length xs ≤ length mem → Apart a (length xs) (table + 16 * n) 16
    → packed_descriptor_at (put_at mem a xs) table n ≡ packed_descriptor_at mem table n
packed_descriptor_at-put_apart mem a xs table n inside apart = ap packed_descriptor_in (part-put_at_apart mem a xs (table + 16 * n) 16 inside apart)
