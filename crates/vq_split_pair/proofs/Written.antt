-- What puts inside a range of memory leave.
use Rattle.std.proofs.Common.{◌≡◌, ℕ, ◌+◌, ◌≤◌, List, [], ◌∷◌, ◌++◌, length, refl, ◌∙◌, ap, arith}
use Rattle.std.specs.Prelude.{All, nat_le}
use Rattle.std.proofs.lemmas.Bool.{le-leb, cond-true}
use Rattle.std.proofs.lemmas.List.Sums.{fold-append}
use Rattle.std.proofs.lemmas.List.Elements.{All-head, All-tail, All-weaker}
use Rattle.guest_mem.specs.Memory.{part, put_at, Apart}
use Rattle.guest_mem.proofs.Parts.{length-put_at, part-put_at_apart}
use Rattle.guest_mem.proofs.Ranges.{Apart-inside}
use Rattle.vt_types.specs.declared.access.Answer.{Answer}
use Rattle.vt_types.specs.declared.access.Answer.TheVariants.{Done, Outside}
use Rattle.vt_types.specs.Access.{AccessValue, Put}
use Rattle.vt_types.specs.Tables.{after_all}
use Rattle.memory_port.specs.MemoryTable.{memory_table}

-- memory after accesses in order
abbrev pub written : List AccessValue → List ℕ → List ℕ
written accesses mem = after_all memory_table accesses mem

-- an access that is a put inside n bytes from address a on
pub record IsPutWithin (a n : ℕ) (access : AccessValue) : Type 0 where
  pub addr : ℕ
  pub bytes : List ℕ
  pub is : access ≡ Put addr bytes
  pub starts : a ≤ addr
  pub ends : addr + length bytes ≤ a + n

-- a put inside memory, and then more accesses
pub written_put : (addr : ℕ) (bytes : List ℕ) (rest : List AccessValue) (mem : List ℕ) → addr + length bytes ≤ length mem
    → written (Put addr bytes ∷ rest) mem ≡ written rest (put_at mem addr bytes)
written_put addr bytes rest mem inside =
    ap (λ (t : Answer × List ℕ × List ℕ). written rest t.2)
    (cond-true (nat_le (addr + length bytes) (length mem)) (Done, [], put_at mem addr bytes) (Outside, [], mem) (le-leb (addr + length bytes) (length mem) inside))

-- accesses in order, and then more
pub written-append : (first second : List AccessValue) (mem : List ℕ) → written (first ++ second) mem ≡ written second (written first mem)
written-append first second mem = fold-append (λ (s : List ℕ) (a : AccessValue). (memory_table a s).2) mem first second

-- the first of accesses that are puts
first_put : (a n : ℕ) (access : AccessValue) (rest : List AccessValue) (mem : List ℕ) (put : IsPutWithin a n access) → a + n ≤ length mem
    → written (access ∷ rest) mem ≡ written rest (put_at mem put.addr put.bytes)
first_put a n access rest mem put inside =
    let ends : put.addr + length put.bytes ≤ a + n = put.ends in
    ap (λ (x : AccessValue). written (x ∷ rest) mem) put.is ∙ written_put put.addr put.bytes rest mem (omega arith)

-- puts inside a range of memory leave its length
pub length-written : (a n : ℕ) (accesses : List AccessValue) (mem : List ℕ) → a + n ≤ length mem → All (IsPutWithin a n) accesses → length (written accesses mem) ≡ length mem
length-written a n [] mem inside puts = refl
length-written a n (access ∷ rest) mem inside puts =
    let put : IsPutWithin a n access = All-head (IsPutWithin a n) access rest puts in
    let ends : put.addr + length put.bytes ≤ a + n = put.ends in
    let long : length (put_at mem put.addr put.bytes) ≡ length mem = length-put_at mem put.addr put.bytes (omega arith) in
    ap length (first_put a n access rest mem put inside)
    ∙ length-written a n rest (put_at mem put.addr put.bytes) (omega arith) (All-tail (IsPutWithin a n) access rest puts)
    ∙ long

-- and what lies apart from the range
pub part-written : (a n : ℕ) (accesses : List AccessValue) (mem : List ℕ) (b k : ℕ) → a + n ≤ length mem → All (IsPutWithin a n) accesses → Apart a n b k
    → part (written accesses mem) b k ≡ part mem b k
part-written a n [] mem b k inside puts apart = refl
part-written a n (access ∷ rest) mem b k inside puts apart =
    let put : IsPutWithin a n access = All-head (IsPutWithin a n) access rest puts in
    let ends : put.addr + length put.bytes ≤ a + n = put.ends in
    let long : length (put_at mem put.addr put.bytes) ≡ length mem = length-put_at mem put.addr put.bytes (omega arith) in
    ap (λ (m : List ℕ). part m b k) (first_put a n access rest mem put inside)
    ∙ part-written a n rest (put_at mem put.addr put.bytes) b k (omega arith) (All-tail (IsPutWithin a n) access rest puts) apart
    ∙ part-put_at_apart mem put.addr put.bytes b k (omega arith) (Apart-inside a n b k put.addr (length put.bytes) put.starts put.ends apart)

-- a put inside a range is inside a wider one
pub IsPutWithin-wider : (a n b k : ℕ) (accesses : List AccessValue) → b ≤ a → a + n ≤ b + k → All (IsPutWithin a n) accesses → All (IsPutWithin b k) accesses
IsPutWithin-wider a n b k accesses low high puts =
    All-weaker (IsPutWithin a n) (IsPutWithin b k) (λ access put.
    let starts : a ≤ put.addr = put.starts in
    let ends : put.addr + length put.bytes ≤ a + n = put.ends in
    record { addr = put.addr; bytes = put.bytes; is = put.is; starts = omega arith; ends = omega arith }) accesses puts
