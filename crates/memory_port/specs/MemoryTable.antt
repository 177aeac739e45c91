use Rattle.std.specs.Prelude.{◌≡◌, ℕ, ◌+◌, nat_le, List, [], length, replicate, false, if◌then◌else◌}
use Rattle.guest_mem.specs.Memory.{part, put_at, be64_at, be64_of}
use Rattle.vt_types.specs.declared.access.Answer.{Answer}
use Rattle.vt_types.specs.declared.access.Answer.TheVariants.{Word, Done, Got, Outside, NoSuch}
use Rattle.vt_types.specs.Access.{AccessValue, Load, Store, Put, Get, Zero, Swap, CfgLoad, CfgStore, Ssch, Tsch, Stsch, Msch, Csch, TurnOf, Diag}
use Rattle.vt_types.specs.Program.{got, is_got}

-- an access whose range ends inside memory answers as `inside` says; another one answers Outside and changes nothing
abbrev pub if_inside : List ℕ → ℕ → ℕ → Answer × List ℕ × List ℕ → Answer × List ℕ × List ℕ
if_inside mem addr count inside = if nat_le (addr + count) (length mem) then inside else (Outside, [], mem)

-- guest memory alone: what an access answers, the bytes that come with it, and the memory after it; a swap is
-- big-endian; guest memory has no registers and no channel (our own)
abbrev pub memory_table : AccessValue → List ℕ → Answer × List ℕ × List ℕ
memory_table (Put addr bytes) mem = if_inside mem addr (length bytes) (Done, [], put_at mem addr bytes)
memory_table (Get addr count) mem = if_inside mem addr count (Got, part mem addr count, mem)
memory_table (Zero addr count) mem = if_inside mem addr count (Done, [], put_at mem addr (replicate count 0))
memory_table (Swap addr value) mem = if_inside mem addr 8 (Word (be64_at mem addr), [], put_at mem addr (be64_of value))
memory_table (Load addr width) mem = (NoSuch, [], mem)
memory_table (Store addr width value) mem = (NoSuch, [], mem)
memory_table (CfgLoad func off width) mem = (NoSuch, [], mem)
memory_table (CfgStore func off width value) mem = (NoSuch, [], mem)
memory_table (Ssch id addr) mem = (NoSuch, [], mem)
memory_table (Tsch id addr) mem = (NoSuch, [], mem)
memory_table (Stsch id addr) mem = (NoSuch, [], mem)
memory_table (Msch id addr) mem = (NoSuch, [], mem)
memory_table (Csch id) mem = (NoSuch, [], mem)
memory_table (TurnOf id) mem = (NoSuch, [], mem)
memory_table (Diag func id value cookie) mem = (NoSuch, [], mem)

-- one access of guest memory: the table answers it, and the room is as before unless bytes came
pub record MemoryStep (mem : List ℕ) (a : AccessValue) (answer : Answer) (room room2 : List ℕ) (mem2 : List ℕ) : Type 0 where
  pub table : memory_table a mem ≡ (answer, got answer room2, mem2)
  pub leaves : is_got answer ≡ false → room2 ≡ room
