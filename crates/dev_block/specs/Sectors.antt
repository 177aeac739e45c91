use Rattle.std.specs.Prelude.{ℕ, zero, suc, ◌+◌, ◌*◌, ◌<◌, ◌≤◌, ◌==◌, List, [], ◌∷◌, ◌++◌, replicate, Bool, true, false, Option, Some, None, if◌then◌else◌}
use Rattle.guest_mem.specs.Memory.{part}
use Rattle.vt_outside.specs.DiskCall.{DiskState, read_call, write_call, flush_call}
use Rattle.dev_block.specs.declared.request.Segment.{Segment}

-- all of these sectors are on a disk of so many
abbrev pub AreThere : ℕ → ℕ → ℕ → Type 0
AreThere sectors sector count = 0 < count → sector + count ≤ sectors

-- what calls of a disk do one after the other, up to the first that fails

-- another call, where those before it did not fail
abbrev pub and_call : Bool × DiskState → (DiskState → Bool × DiskState) → Bool × DiskState
and_call (true, d) call = call d
and_call (false, d) call = (false, d)

-- the bytes of another sector behind those that were read
abbrev pub joined : List ℕ → Option (List ℕ) × DiskState → Option (List ℕ) × DiskState
joined bytes (Some more, d) = (Some (bytes ++ more), d)
joined bytes (None, d) = (None, d)

-- another sector is read, where the readings before it did not fail
abbrev pub and_read : ℕ → Option (List ℕ) × DiskState → Option (List ℕ) × DiskState
and_read n (Some bytes, d) = joined bytes (read_call n d)
and_read n (None, d) = (None, d)

-- sectors from one on are read in rising order: the bytes of all, or None where a call failed
abbrev pub read_sectors : ℕ → ℕ → DiskState → Option (List ℕ) × DiskState
read_sectors zero sector d = (Some [], d)
read_sectors (suc k) sector d = and_read (sector + k) (read_sectors k sector d)

-- sectors from one on are written in rising order, each with its 512 of these bytes
abbrev pub write_sectors : ℕ → ℕ → List ℕ → DiskState → Bool × DiskState
write_sectors zero sector bytes d = (true, d)
write_sectors (suc k) sector bytes d = and_call (write_sectors k sector bytes d) (write_call (sector + k) (part bytes (512 * k) 512))

-- a sector of zeros. It opens only where a proof says so, since 512 cells are long
unfoldable pub zero_sector : List ℕ
zero_sector = replicate 512 0

-- sectors from one on are filled with zeros in rising order
abbrev pub clear_sectors : ℕ → ℕ → DiskState → Bool × DiskState
clear_sectors zero sector d = (true, d)
clear_sectors (suc k) sector d = and_call (clear_sectors k sector d) (write_call (sector + k) zero_sector)

-- and those of each segment, in the order of the segments
abbrev pub clear_segments : List Segment → DiskState → Bool × DiskState
clear_segments [] d = (true, d)
clear_segments (s ∷ segments) d = and_call (clear_sectors s.count s.sector d) (clear_segments segments)

-- what was written is flushed where the cache is write-through (VIRTIO 1.2, 5.2.6.2)
abbrev pub flush_by : ℕ → DiskState → Bool × DiskState
flush_by mode d = if mode == 0 then flush_call d else (true, d)

-- sectors are written, or filled with zeros, and flushed so
abbrev pub write_through : ℕ → ℕ → List ℕ → ℕ → DiskState → Bool × DiskState
write_through count sector bytes mode d = and_call (write_sectors count sector bytes d) (flush_by mode)

abbrev pub clear_through : List Segment → ℕ → DiskState → Bool × DiskState
clear_through segments mode d = and_call (clear_segments segments d) (flush_by mode)
