-- Neither what pieces read, nor their room, nor what is written over them depends on how they are cut.
use Rattle.std.proofs.Common.{◌≡◌, ℕ, zero, suc, ◌+◌, ◌≤◌, ◌<◌, List, [], ◌∷◌, ◌++◌, length, take, drop, Bool, true, false, refl, sym, ◌∙◌, ap, arith, append_assoc, length-take}
use Rattle.std.specs.Prelude.{if◌then◌else◌}
use Rattle.std.specs.List.{All}
use Rattle.std.proofs.lemmas.Grind.{common_steps}
use Rattle.std.proofs.lemmas.List.{drop-drop}
use Rattle.std.proofs.lemmas.List.Elements.{All-nil, All-cons, All-head, All-tail, All-append, All-same}
use Rattle.guest_mem.specs.Memory.{part, put_at}
use Rattle.guest_mem.proofs.Parts.{length-put_at, part-append-part}
use Rattle.guest_mem.proofs.Puts.{put_at-nil, put_at-put_at_next_at}
use Rattle.vq_common.specs.declared.chain.Piece.{Piece}
use Rattle.vq_common.specs.Piece.{SameBytes, bytes_from, bytes_of, readable, readable_len, room, scatter}
use Rattle.vq_common.proofs.RuleFacts.{IsInside}

-- the bytes from an address on, in two parts
pub bytes_from-plus : (addr a b : ℕ) (write : Bool) → bytes_from addr (a + b) write ≡ bytes_from addr a write ++ bytes_from (addr + a) b write
bytes_from-plus addr zero b write =
    let whole : 0 + b ≡ b = omega arith in
    let same : addr + 0 ≡ addr = omega arith in
    rw (whole, same) refl
bytes_from-plus addr (suc a) b write =
    let whole : suc a + b ≡ suc (a + b) = omega arith in
    let same : addr + suc a ≡ addr + 1 + a = omega arith in
    rw (whole, same) (ap (λ w. (addr, write) ∷ w) (bytes_from-plus (addr + 1) a b write))

pub bytes_of-append : (ps qs : List Piece) → bytes_of (ps ++ qs) ≡ bytes_of ps ++ bytes_of qs
bytes_of-append [] qs = refl
bytes_of-append (p ∷ ps) qs =
    ap (λ w. bytes_from p.addr p.len p.write ++ w) (bytes_of-append ps qs) ∙ sym (append_assoc (bytes_from p.addr p.len p.write) (bytes_of ps) (bytes_of qs))

bytes_of-cut : (front rest : List Piece) (addr a b : ℕ) (write : Bool)
    → bytes_of (front ++ record { addr = addr; len = a + b; write = write } ∷ rest)
    ≡ bytes_of (front ++ record { addr = addr; len = a; write = write } ∷ record { addr = addr + a; len = b; write = write } ∷ rest)
bytes_of-cut [] rest addr a b write =
    ap (λ w. w ++ bytes_of rest) (bytes_from-plus addr a b write) ∙ append_assoc (bytes_from addr a write) (bytes_from (addr + a) b write) (bytes_of rest)
bytes_of-cut (p ∷ front) rest addr a b write = ap (λ w. bytes_from p.addr p.len p.write ++ w) (bytes_of-cut front rest addr a b write)

-- a piece cut in two names the same bytes
pub SameBytes-cut : (front rest : List Piece) (addr a b : ℕ) (write : Bool)
    → SameBytes (front ++ record { addr = addr; len = a + b; write = write } ∷ rest)
    (front ++ record { addr = addr; len = a; write = write } ∷ record { addr = addr + a; len = b; write = write } ∷ rest)
SameBytes-cut front rest addr a b write = record { bytes = bytes_of-cut front rest addr a b write }

-- what a list of bytes reads
abbrev read_bytes : List ℕ → List (ℕ × Bool) → List ℕ
read_bytes mem [] = []
read_bytes mem (b ∷ bs) = if b.1 then read_bytes mem bs else part mem b.0 1 ++ read_bytes mem bs

read_past_writable : (mem : List ℕ) (addr n : ℕ) (bs : List (ℕ × Bool)) → read_bytes mem (bytes_from addr n true ++ bs) ≡ read_bytes mem bs
read_past_writable mem addr zero bs = refl
read_past_writable mem addr (suc n) bs = read_past_writable mem (addr + 1) n bs

part-suc : (mem : List ℕ) (addr n : ℕ) → part mem addr 1 ++ part mem (addr + 1) n ≡ part mem addr (suc n)
part-suc mem addr n =
    let one : 1 + n ≡ suc n = omega arith in
    part-append-part mem addr 1 n ∙ ap (λ (k : ℕ). part mem addr k) one

read_readable : (mem : List ℕ) (addr n : ℕ) (bs : List (ℕ × Bool)) → read_bytes mem (bytes_from addr n false ++ bs) ≡ part mem addr n ++ read_bytes mem bs
read_readable mem addr zero bs = refl
read_readable mem addr (suc n) bs =
    ap (λ (w : List ℕ). part mem addr 1 ++ w) (read_readable mem (addr + 1) n bs)
    ∙ sym (append_assoc (part mem addr 1) (part mem (addr + 1) n) (read_bytes mem bs))
    ∙ ap (λ (w : List ℕ). w ++ read_bytes mem bs) (part-suc mem addr n)

readable_by_bytes : (mem : List ℕ) (ps : List Piece) → readable mem ps ≡ read_bytes mem (bytes_of ps)
readable_by_bytes mem [] = refl
readable_by_bytes mem (p ∷ ps) =
    elim p.write as (λ w. (if w then readable mem ps else part mem p.addr p.len ++ readable mem ps) ≡ read_bytes mem (bytes_from p.addr p.len w ++ bytes_of ps)) [
      | true ↦ readable_by_bytes mem ps ∙ sym (read_past_writable mem p.addr p.len (bytes_of ps))
      | false ↦ ap (λ (w : List ℕ). part mem p.addr p.len ++ w) (readable_by_bytes mem ps) ∙ sym (read_readable mem p.addr p.len (bytes_of ps))
    ]

-- the readable bytes are the same
pub readable-same_bytes : (mem : List ℕ) (ps qs : List Piece) → SameBytes ps qs → readable mem ps ≡ readable mem qs
readable-same_bytes mem ps qs same = readable_by_bytes mem ps ∙ ap (read_bytes mem) same.bytes ∙ sym (readable_by_bytes mem qs)

-- how many bytes of a list are written, or read
abbrev count_bytes : Bool → List (ℕ × Bool) → ℕ
count_bytes true [] = 0
count_bytes true (b ∷ bs) = if b.1 then suc (count_bytes true bs) else count_bytes true bs
count_bytes false [] = 0
count_bytes false (b ∷ bs) = if b.1 then count_bytes false bs else suc (count_bytes false bs)

count_writable : (addr n : ℕ) (bs : List (ℕ × Bool)) → count_bytes true (bytes_from addr n true ++ bs) ≡ n + count_bytes true bs
count_writable addr zero bs = omega arith
count_writable addr (suc n) bs = omega (arith, count_writable (addr + 1) n bs)

count_past_readable : (addr n : ℕ) (bs : List (ℕ × Bool)) → count_bytes true (bytes_from addr n false ++ bs) ≡ count_bytes true bs
count_past_readable addr zero bs = refl
count_past_readable addr (suc n) bs = count_past_readable (addr + 1) n bs

count_readable : (addr n : ℕ) (bs : List (ℕ × Bool)) → count_bytes false (bytes_from addr n false ++ bs) ≡ n + count_bytes false bs
count_readable addr zero bs = omega arith
count_readable addr (suc n) bs = omega (arith, count_readable (addr + 1) n bs)

count_past_writable : (addr n : ℕ) (bs : List (ℕ × Bool)) → count_bytes false (bytes_from addr n true ++ bs) ≡ count_bytes false bs
count_past_writable addr zero bs = refl
count_past_writable addr (suc n) bs = count_past_writable (addr + 1) n bs

room_by_bytes : (ps : List Piece) → room ps ≡ count_bytes true (bytes_of ps)
room_by_bytes [] = refl
room_by_bytes (p ∷ ps) =
    elim p.write as (λ w. (if w then p.len + room ps else room ps) ≡ count_bytes true (bytes_from p.addr p.len w ++ bytes_of ps)) [
      | true ↦ ap (λ (n : ℕ). p.len + n) (room_by_bytes ps) ∙ sym (count_writable p.addr p.len (bytes_of ps))
      | false ↦ room_by_bytes ps ∙ sym (count_past_readable p.addr p.len (bytes_of ps))
    ]

readable_len_by_bytes : (ps : List Piece) → readable_len ps ≡ count_bytes false (bytes_of ps)
readable_len_by_bytes [] = refl
readable_len_by_bytes (p ∷ ps) =
    elim p.write as (λ w. (if w then readable_len ps else p.len + readable_len ps) ≡ count_bytes false (bytes_from p.addr p.len w ++ bytes_of ps)) [
      | true ↦ readable_len_by_bytes ps ∙ sym (count_past_writable p.addr p.len (bytes_of ps))
      | false ↦ ap (λ (n : ℕ). p.len + n) (readable_len_by_bytes ps) ∙ sym (count_readable p.addr p.len (bytes_of ps))
    ]

-- so is the room, and the number of readable bytes
pub room-same_bytes : (ps qs : List Piece) → SameBytes ps qs → room ps ≡ room qs
room-same_bytes ps qs same = room_by_bytes ps ∙ ap (count_bytes true) same.bytes ∙ sym (room_by_bytes qs)

pub readable_len-same_bytes : (ps qs : List Piece) → SameBytes ps qs → readable_len ps ≡ readable_len qs
readable_len-same_bytes ps qs same = readable_len_by_bytes ps ∙ ap (count_bytes false) same.bytes ∙ sym (readable_len_by_bytes qs)

-- a byte lies inside a memory of this length
abbrev IsByteInside : ℕ → ℕ × Bool → Type 0
IsByteInside memory b = b.0 < memory

bytes_from_inside : (memory addr n : ℕ) (write : Bool) → addr + n ≤ memory → All (IsByteInside memory) (bytes_from addr n write)
bytes_from_inside memory addr zero write inside = All-nil (IsByteInside memory)
bytes_from_inside memory addr (suc n) write inside =
    All-cons (IsByteInside memory) (addr, write) (bytes_from (addr + 1) n write) (omega arith) (bytes_from_inside memory (addr + 1) n write (omega arith))

bytes_of_inside : (memory : ℕ) (ps : List Piece) → All (IsInside memory) ps → All (IsByteInside memory) (bytes_of ps)
bytes_of_inside memory [] inside = All-nil (IsByteInside memory)
bytes_of_inside memory (p ∷ ps) inside =
    All-append (IsByteInside memory) (bytes_from p.addr p.len p.write) (bytes_of ps)
    (bytes_from_inside memory p.addr p.len p.write (All-head (IsInside memory) p ps inside))
    (bytes_of_inside memory ps (All-tail (IsInside memory) p ps inside))

-- what writing over a list of bytes leaves
abbrev write_bytes : List ℕ → List (ℕ × Bool) → List ℕ → List ℕ
write_bytes mem [] bytes = mem
write_bytes mem (b ∷ bs) bytes = if b.1 then write_bytes (put_at mem b.0 (take 1 bytes)) bs (drop 1 bytes) else write_bytes mem bs bytes

write_past_readable : (mem : List ℕ) (addr n : ℕ) (bs : List (ℕ × Bool)) (bytes : List ℕ) → write_bytes mem (bytes_from addr n false ++ bs) bytes ≡ write_bytes mem bs bytes
write_past_readable mem addr zero bs bytes = refl
write_past_readable mem addr (suc n) bs bytes = write_past_readable mem (addr + 1) n bs bytes

-- a put of the first byte, and then of n more
put_at-suc : (mem : List ℕ) (addr n : ℕ) (bytes : List ℕ) → addr ≤ length mem
    → put_at (put_at mem addr (take 1 bytes)) (addr + 1) (take n (drop 1 bytes)) ≡ put_at mem addr (take (suc n) bytes)
put_at-suc mem addr n [] inside =
    let none : take n [] ≡ [] = grind (arith, common_steps) in
    ap (λ (w : List ℕ). put_at (put_at mem addr []) (addr + 1) w) none ∙ put_at-nil (put_at mem addr []) (addr + 1)
put_at-suc mem addr n (x ∷ bytes) inside = put_at-put_at_next_at mem addr (x ∷ []) (take n bytes) (addr + 1) refl inside

write_writable : (mem : List ℕ) (addr n : ℕ) (bs : List (ℕ × Bool)) (bytes : List ℕ) → All (IsByteInside (length mem)) (bytes_from addr n true ++ bs)
    → write_bytes mem (bytes_from addr n true ++ bs) bytes ≡ write_bytes (put_at mem addr (take n bytes)) bs (drop n bytes)
write_writable mem addr zero bs bytes inside = ap (λ (m : List ℕ). write_bytes m bs bytes) (sym (put_at-nil mem addr))
write_writable mem addr (suc n) bs bytes inside =
    let rest : List (ℕ × Bool) = bytes_from (addr + 1) n true ++ bs in
    let here : addr < length mem = All-head (IsByteInside (length mem)) (addr, true) rest inside in
    let others : All (IsByteInside (length mem)) rest = All-tail (IsByteInside (length mem)) (addr, true) rest inside in
    let long : length (put_at mem addr (take 1 bytes)) ≡ length mem = length-put_at mem addr (take 1 bytes) (omega (arith, length-take 1 bytes)) in
    let one : 1 + n ≡ suc n = omega arith in
    write_writable (put_at mem addr (take 1 bytes)) (addr + 1) n bs (drop 1 bytes) (rw long others)
    ∙ ap (λ (m : List ℕ). write_bytes m bs (drop n (drop 1 bytes))) (put_at-suc mem addr n bytes (omega arith))
    ∙ ap (λ (w : List ℕ). write_bytes (put_at mem addr (take (suc n) bytes)) bs w) (drop-drop n 1 bytes ∙ ap (λ (k : ℕ). drop k bytes) one)

-- the bytes behind a piece, and the end of a piece that has bytes
inside_behind : (memory addr n : ℕ) (write : Bool) (bs : List (ℕ × Bool)) → All (IsByteInside memory) (bytes_from addr n write ++ bs) → All (IsByteInside memory) bs
inside_behind memory addr zero write bs inside = inside
inside_behind memory addr (suc n) write bs inside =
    inside_behind memory (addr + 1) n write bs (All-tail (IsByteInside memory) (addr, write) (bytes_from (addr + 1) n write ++ bs) inside)

end_inside : (memory addr n : ℕ) (write : Bool) (bs : List (ℕ × Bool)) → All (IsByteInside memory) (bytes_from addr (suc n) write ++ bs) → addr + suc n ≤ memory
end_inside memory addr zero write bs inside =
    let here : addr < memory = All-head (IsByteInside memory) (addr, write) bs inside in
    omega arith
end_inside memory addr (suc n) write bs inside =
    let rest : addr + 1 + suc n ≤ memory = end_inside memory (addr + 1) n write bs (All-tail (IsByteInside memory) (addr, write) (bytes_from (addr + 1) (suc n) write ++ bs) inside) in
    omega arith

length-written : (mem : List ℕ) (addr n : ℕ) (write : Bool) (bs : List (ℕ × Bool)) (bytes : List ℕ) → All (IsByteInside (length mem)) (bytes_from addr n write ++ bs)
    → length (put_at mem addr (take n bytes)) ≡ length mem
length-written mem addr zero write bs bytes inside = ap length (put_at-nil mem addr)
length-written mem addr (suc n) write bs bytes inside =
    length-put_at mem addr (take (suc n) bytes) (omega (arith, end_inside (length mem) addr n write bs inside, length-take (suc n) bytes))

scatter_by_test : (w : Bool) (mem : List ℕ) (addr n : ℕ) (ps : List Piece) (bytes : List ℕ) → All (IsByteInside (length mem)) (bytes_from addr n w ++ bytes_of ps)
    → scatter (put_at mem addr (take n bytes)) ps (drop n bytes) ≡ write_bytes (put_at mem addr (take n bytes)) (bytes_of ps) (drop n bytes)
    → scatter mem ps bytes ≡ write_bytes mem (bytes_of ps) bytes
    → (if w then scatter (put_at mem addr (take n bytes)) ps (drop n bytes) else scatter mem ps bytes) ≡ write_bytes mem (bytes_from addr n w ++ bytes_of ps) bytes
scatter_by_test true mem addr n ps bytes inside written kept = written ∙ sym (write_writable mem addr n (bytes_of ps) bytes inside)
scatter_by_test false mem addr n ps bytes inside written kept = kept ∙ sym (write_past_readable mem addr n (bytes_of ps) bytes)

scatter_by_bytes : (mem : List ℕ) (ps : List Piece) (bytes : List ℕ) → All (IsByteInside (length mem)) (bytes_of ps) → scatter mem ps bytes ≡ write_bytes mem (bytes_of ps) bytes
scatter_by_bytes mem [] bytes inside = refl
scatter_by_bytes mem (p ∷ ps) bytes inside =
    let rest : All (IsByteInside (length mem)) (bytes_of ps) = inside_behind (length mem) p.addr p.len p.write (bytes_of ps) inside in
    let long : length (put_at mem p.addr (take p.len bytes)) ≡ length mem = length-written mem p.addr p.len p.write (bytes_of ps) bytes inside in
    scatter_by_test p.write mem p.addr p.len ps bytes inside
    (scatter_by_bytes (put_at mem p.addr (take p.len bytes)) ps (drop p.len bytes) (rw long rest))
    (scatter_by_bytes mem ps bytes rest)

-- and so is the memory with bytes written over them, where they lie inside it
pub scatter-same_bytes : (mem : List ℕ) (ps qs : List Piece) (bytes : List ℕ) → All (IsInside (length mem)) ps → SameBytes ps qs → scatter mem ps bytes ≡ scatter mem qs bytes
scatter-same_bytes mem ps qs bytes inside same =
    let all : All (IsByteInside (length mem)) (bytes_of ps) = bytes_of_inside (length mem) ps inside in
    scatter_by_bytes mem ps bytes all
    ∙ ap (λ bs. write_bytes mem bs bytes) same.bytes
    ∙ sym (scatter_by_bytes mem qs bytes (All-same (IsByteInside (length mem)) (bytes_of qs) (bytes_of ps) (sym same.bytes) all))
