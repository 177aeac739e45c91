use Rattle.std.specs.Prelude.{ℕ, ◌-◌, ◌==◌, List, [], ◌∷◌, Bool, true, false, Option, None, slice_get, slice_set, if◌then◌else◌}

-- a disk as the contracts of devices see it: its sectors, whether it is read-only, the trip (0 for none), and the
-- outcomes that are still to come
pub record DiskState : Type 0 where
  pub sectors : List (List ℕ)
  pub read_only : Bool
  pub trip : ℕ
  pub outcomes : List Bool

-- whether a disk that is asked answers Ok: by the front of the outcomes, and where none is left it does
abbrev pub next_outcome : List Bool → Bool
next_outcome [] = true
next_outcome (ok ∷ outcomes) = ok

-- the outcomes after it
abbrev pub outcomes_after : List Bool → List Bool
outcomes_after [] = []
outcomes_after (ok ∷ outcomes) = outcomes

-- the disk is asked: whether it answered Ok
abbrev pub ask : DiskState → Bool × DiskState
ask d = (next_outcome d.outcomes, record d { outcomes = outcomes_after d.outcomes })

-- one disk call: with trip 1 it fails unasked and the trip becomes 0; else a trip falls by one, and the disk is asked
abbrev pub disk_call : DiskState → Bool × DiskState
disk_call d = if d.trip == 1 then (false, record d { trip = 0 }) else ask (record d { trip = d.trip - 1 })

-- the bytes of sector n, where the call answered Ok
abbrev pub sector_of : ℕ → Bool × DiskState → Option (List ℕ) × DiskState
sector_of n (ok, d) = (if ok then slice_get d.sectors n else None, d)

-- the bytes in place of sector n, where the call answered Ok
abbrev pub with_sector : ℕ → List ℕ → Bool × DiskState → Bool × DiskState
with_sector n bytes (ok, d) = (ok, if ok then record d { sectors = slice_set d.sectors n bytes } else d)

-- a sector is read by one disk call: its bytes, or None where the call failed
abbrev pub read_call : ℕ → DiskState → Option (List ℕ) × DiskState
read_call n d = sector_of n (disk_call d)

-- a sector is written by one disk call: whether it answered Ok
abbrev pub write_call : ℕ → List ℕ → DiskState → Bool × DiskState
write_call n bytes d = with_sector n bytes (disk_call d)

-- the disk is flushed by one disk call: whether it answered Ok
abbrev pub flush_call : DiskState → Bool × DiskState
flush_call d = disk_call d

-- a sector is read, whatever the trip is: its bytes, or None where the disk failed
abbrev pub peek_call : ℕ → DiskState → Option (List ℕ) × DiskState
peek_call n d = sector_of n (ask d)
