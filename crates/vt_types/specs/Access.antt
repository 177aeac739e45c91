use Rattle.std.specs.Prelude.{ℕ, ◌+◌, ◌-◌, ◌/◌, ◌≤◌, ◌==◌, ◌||◌, List, length, Bool, IsTrue, if◌then◌else◌}
use Rattle.vt_types.specs.declared.access.Access.{Access}
use Rattle.vt_types.specs.declared.access.Access.TheVariants as access
use Rattle.vt_types.specs.Limits.{GUEST_PAGE, LONGEST_BUFFER}

-- an access as contracts see it: the bytes of a put are a list
pub data AccessValue : Type 0 where
  Load : (addr width : ℕ) → AccessValue
  Store : (addr width value : ℕ) → AccessValue
  Put : (addr : ℕ) (bytes : List ℕ) → AccessValue
  Get : (addr count : ℕ) → AccessValue
  Zero : (addr count : ℕ) → AccessValue
  Swap : (addr value : ℕ) → AccessValue
  CfgLoad : (func off width : ℕ) → AccessValue
  CfgStore : (func off width value : ℕ) → AccessValue
  Ssch : (id addr : ℕ) → AccessValue
  Tsch : (id addr : ℕ) → AccessValue
  Stsch : (id addr : ℕ) → AccessValue
  Msch : (id addr : ℕ) → AccessValue
  Csch : (id : ℕ) → AccessValue
  TurnOf : (id : ℕ) → AccessValue
  Diag : (func id value cookie : ℕ) → AccessValue

abbrev pub access_value : Access → AccessValue
access_value (access.Load addr width) = Load addr width
access_value (access.Store addr width value) = Store addr width value
access_value (access.Put addr bytes) = Put addr bytes.now
access_value (access.Get addr count) = Get addr count
access_value (access.Zero addr count) = Zero addr count
access_value (access.Swap addr value) = Swap addr value
access_value (access.CfgLoad func off width) = CfgLoad func off width
access_value (access.CfgStore func off width value) = CfgStore func off width value
access_value (access.Ssch id addr) = Ssch id addr
access_value (access.Tsch id addr) = Tsch id addr
access_value (access.Stsch id addr) = Stsch id addr
access_value (access.Msch id addr) = Msch id addr
access_value (access.Csch id) = Csch id
access_value (access.Turn id) = TurnOf id
access_value (access.Diag func id value cookie) = Diag func id value cookie

-- a width that an access can have, in bytes
abbrev pub is_width : ℕ → Bool
is_width w = w == 1 || w == 2 || w == 4

-- the pages of guest memory that a range touches
abbrev pub pages_touched : ℕ → ℕ → ℕ
pages_touched addr count = if count == 0 then 0 else (addr + count - 1) / GUEST_PAGE - addr / GUEST_PAGE + 1

-- what an access may cost a port: pages of guest memory to make, or bytes to keep
abbrev pub access_cost : AccessValue → ℕ
access_cost (Load addr width) = 0
access_cost (Store addr width value) = 1
access_cost (Put addr bytes) = pages_touched addr (length bytes)
access_cost (Get addr count) = 0
access_cost (Zero addr count) = pages_touched addr count
access_cost (Swap addr value) = pages_touched addr 8
access_cost (CfgLoad func off width) = 0
access_cost (CfgStore func off width value) = 1
access_cost (Ssch id addr) = 0
access_cost (Tsch id addr) = 2
access_cost (Stsch id addr) = 2
access_cost (Msch id addr) = 0
access_cost (Csch id) = 0
access_cost (TurnOf id) = 2
access_cost (Diag func id value cookie) = 0

-- what a line of a raw script can ask for
abbrev pub IsWithinLimits : AccessValue → Type 0
IsWithinLimits (Load addr width) = IsTrue (is_width width)
IsWithinLimits (Store addr width value) = IsTrue (is_width width)
IsWithinLimits (Put addr bytes) = (1 ≤ length bytes) × (length bytes ≤ LONGEST_BUFFER)
IsWithinLimits (Get addr count) = (1 ≤ count) × (count ≤ LONGEST_BUFFER)
IsWithinLimits (Zero addr count) = 1 ≤ count
IsWithinLimits (Swap addr value) = Unit {0}
IsWithinLimits (CfgLoad func off width) = (off ≤ 0xfff) × IsTrue (is_width width)
IsWithinLimits (CfgStore func off width value) = (off ≤ 0xfff) × IsTrue (is_width width)
IsWithinLimits (Ssch id addr) = Unit {0}
IsWithinLimits (Tsch id addr) = Unit {0}
IsWithinLimits (Stsch id addr) = Unit {0}
IsWithinLimits (Msch id addr) = Unit {0}
IsWithinLimits (Csch id) = Unit {0}
IsWithinLimits (TurnOf id) = Unit {0}
IsWithinLimits (Diag func id value cookie) = Unit {0}
