-- No access changes how long guest memory is, and what gets and puts inside it do.
use Rattle.std.proofs.Common.{◌≡◌, ℕ, ◌+◌, ◌≤◌, List, [], length, replicate, Bool, true, false, refl, ◌∙◌, ap, arith}
use Rattle.std.specs.Prelude.{nat_le, if◌then◌else◌}
use Rattle.std.proofs.lemmas.Bool.{cond-true, le-leb}
use Rattle.std.proofs.lemmas.Bool.Decides.{nat_tests}
use Rattle.std.proofs.lemmas.List.{length-replicate}
use Rattle.guest_mem.specs.Memory.{part, put_at, be64_of}
use Rattle.guest_mem.proofs.Parts.{length-put_at}
use Rattle.guest_mem.proofs.Fields.{length-big_bytes}
use Rattle.vt_types.specs.declared.access.Answer.{Answer}
use Rattle.vt_types.specs.declared.access.Answer.TheVariants.{Done, Got, Outside}
use Rattle.vt_types.specs.Access.{AccessValue, Load, Store, Put, Get, Zero, Swap, CfgLoad, CfgStore, Ssch, Tsch, Stsch, Msch, Csch, TurnOf, Diag}
use Rattle.vt_types.specs.Program.{Program, Do, Mark, End, run}
use Rattle.memory_port.specs.MemoryTable.{memory_table}

-- what an access inside memory keeps, and one past its end keeps too
stays : (inside : Bool) (after : Answer × List ℕ × List ℕ) (mem : List ℕ) → (inside ≡ true → length after.2 ≡ length mem)
    → length (if inside then after else (Outside, [], mem)).2 ≡ length mem
stays true after mem same = same refl
stays false after mem same = refl

-- an access leaves the length
pub length-memory_table : (a : AccessValue) (mem : List ℕ) → length (memory_table a mem).2 ≡ length mem
length-memory_table (Put addr bytes) mem = stays (nat_le (addr + length bytes) (length mem)) _ mem (λ test. length-put_at mem addr bytes (grind (arith, nat_tests)))
length-memory_table (Get addr count) mem = stays (nat_le (addr + count) (length mem)) _ mem (λ test. refl)
length-memory_table (Zero addr count) mem =
    stays (nat_le (addr + count) (length mem)) _ mem (λ test. let long : length {A = ℕ} (replicate count 0) ≡ count = length-replicate {A = ℕ} count 0 in length-put_at mem addr (replicate count 0) (grind (arith, nat_tests)))
length-memory_table (Swap addr value) mem =
    stays (nat_le (addr + 8) (length mem)) _ mem (λ test. let long : length (be64_of value) ≡ 8 = length-big_bytes 8 value in length-put_at mem addr (be64_of value) (grind (arith, nat_tests)))
length-memory_table (Load addr width) mem = refl
length-memory_table (Store addr width value) mem = refl
length-memory_table (CfgLoad func off width) mem = refl
length-memory_table (CfgStore func off width value) mem = refl
length-memory_table (Ssch id addr) mem = refl
length-memory_table (Tsch id addr) mem = refl
length-memory_table (Stsch id addr) mem = refl
length-memory_table (Msch id addr) mem = refl
length-memory_table (Csch id) mem = refl
length-memory_table (TurnOf id) mem = refl
length-memory_table (Diag func id value cookie) mem = refl

-- so does a program of accesses
pub length-run : {X : Type 0} (program : Program X) (mem : List ℕ) → length (run memory_table (λ m. m) program mem).1 ≡ length mem
length-run (Do a rest) mem = length-run (rest (memory_table a mem).0 (memory_table a mem).1) (memory_table a mem).2 ∙ length-memory_table a mem
length-run (Mark rest) mem = length-run rest mem
length-run (End x) mem = refl

-- a get inside memory, and then a program by the bytes
pub run-get : {X : Type 0} (addr count : ℕ) (rest : Answer → List ℕ → Program X) (mem : List ℕ) → addr + count ≤ length mem
    → run memory_table (λ m. m) (Do (Get addr count) rest) mem ≡ run memory_table (λ m. m) (rest Got (part mem addr count)) mem
run-get addr count rest mem inside =
    ap (λ (t : Answer × List ℕ × List ℕ). run memory_table (λ m. m) (rest t.0 t.1) t.2)
    (cond-true (nat_le (addr + count) (length mem)) (Got, part mem addr count, mem) (Outside, [], mem) (le-leb (addr + count) (length mem) inside))

-- a put inside memory, and then a program
pub run-put : {X : Type 0} (addr : ℕ) (bytes : List ℕ) (rest : Answer → List ℕ → Program X) (mem : List ℕ) → addr + length bytes ≤ length mem
    → run memory_table (λ m. m) (Do (Put addr bytes) rest) mem ≡ run memory_table (λ m. m) (rest Done []) (put_at mem addr bytes)
run-put addr bytes rest mem inside =
    ap (λ (t : Answer × List ℕ × List ℕ). run memory_table (λ m. m) (rest t.0 t.1) t.2)
    (cond-true (nat_le (addr + length bytes) (length mem)) (Done, [], put_at mem addr bytes) (Outside, [], mem) (le-leb (addr + length bytes) (length mem) inside))
