-- Puts, and what stands in memory of them.
use Rattle.std.specs.Prelude.{◌≡◌, ℕ, List, [], ◌∷◌, length, Option, Some, None}
use Rattle.guest_mem.specs.Memory.{part, Apart}
use Rattle.vt_types.specs.Access.{AccessValue, Load, Store, Put, Get, Zero, Swap, CfgLoad, CfgStore, Ssch, Tsch, Stsch, Msch, Csch, TurnOf, Diag}

-- the address and the bytes of a put; no other access has them
abbrev pub put_of : AccessValue → Option (ℕ × List ℕ)
put_of (Put addr bytes) = Some (addr, bytes)
put_of (Load addr width) = None
put_of (Store addr width value) = None
put_of (Get addr count) = None
put_of (Zero addr count) = None
put_of (Swap addr value) = None
put_of (CfgLoad func off width) = None
put_of (CfgStore func off width value) = None
put_of (Ssch id addr) = None
put_of (Tsch id addr) = None
put_of (Stsch id addr) = None
put_of (Msch id addr) = None
put_of (Csch id) = None
put_of (TurnOf id) = None
put_of (Diag func id value cookie) = None

-- there is a put, and it holds of its address and bytes
abbrev pub OfPut : (ℕ → List ℕ → Type 0) → Option (ℕ × List ℕ) → Type 0
OfPut holds None = ⊥
OfPut holds (Some p) = holds p.0 p.1

-- the accesses are puts, and it holds of each
abbrev pub EachPut : (ℕ → List ℕ → Type 0) → List AccessValue → Type 0
EachPut holds [] = Unit {0}
EachPut holds (a ∷ more) = OfPut holds (put_of a) × EachPut holds more

-- what was put stands in memory
abbrev pub Hold : List AccessValue → List ℕ → Type 0
Hold puts mem = EachPut (λ addr bytes. part mem addr (length bytes) ≡ bytes) puts

-- the puts go to locations of a kind, by address and length
abbrev pub AllIn : (ℕ → ℕ → Type 0) → List AccessValue → Type 0
AllIn location puts = EachPut (λ addr bytes. location addr (length bytes)) puts

-- each put is apart from the later ones
abbrev pub AllApart : List AccessValue → Type 0
AllApart [] = Unit {0}
AllApart (a ∷ more) = OfPut (λ addr bytes. AllIn (Apart addr (length bytes)) more) (put_of a) × AllApart more

-- a memory holds the same as another one in each location of a kind
abbrev pub Agree : (ℕ → ℕ → Type 0) → List ℕ → List ℕ → Type 0
Agree location mem mem2 = (addr count : ℕ) → location addr count → part mem2 addr count ≡ part mem addr count
