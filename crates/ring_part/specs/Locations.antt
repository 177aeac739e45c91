-- The locations of a queue block (VIRTIO 1.2, 2.7; the map is our own).
use Rattle.std.specs.Prelude.{◌≡◌, ℕ, ◌+◌, ◌*◌, ◌<◌, ◌≤◌, List, true, false}
use Rattle.vt_layout.specs.QueueBlock.{DATA_LEN, TABLE_LEN, table_address, data_address}
use Rattle.vq_common.specs.Queue.{DriverQueue, free_slots}
use Rattle.vq_posted.specs.Free.{descriptors_in_use, is_in}
use Rattle.ring_part.specs.RingPuts.{entry_at}

-- a range inside so many bytes from an address on
pub record IsInside (base size addr count : ℕ) : Type 0 where
  pub starts : base ≤ addr
  pub ends : addr + count ≤ base + size

-- a range that belongs to descriptor number k of a block: in the descriptor itself, in its table, or in its data
pub data Owns (base k addr count : ℕ) : Type 0 where
  AtDescriptor : base + 16 * k ≤ addr → addr + count ≤ base + 16 * k + 16 → Owns base k addr count
  AtTable : table_address base k ≤ addr → addr + count ≤ table_address base k + TABLE_LEN → Owns base k addr count
  AtData : data_address base k ≤ addr → addr + count ≤ data_address base k + DATA_LEN → Owns base k addr count

-- one that belongs to one of some descriptors
abbrev pub OwnedBy : ℕ → List ℕ → ℕ → ℕ → Type 0
OwnedBy base ks addr count = (k : ℕ) × (is_in k ks ≡ true) × Owns base k addr count

-- a range that belongs to no unreaped buffer: it is that of a free descriptor, or the next entry of the available ring where
-- a slot is free
pub data IsFreeLocation (q : DriverQueue) (addr count : ℕ) : Type 0 where
  OfDescriptor : (k : ℕ) → is_in k (descriptors_in_use q.unreaped) ≡ false → k < q.cfg.size → Owns q.base k addr count → IsFreeLocation q addr count
  AtEntry : 1 ≤ free_slots q → addr ≡ entry_at q.base q.cfg.size q.available → count ≡ 2 → IsFreeLocation q addr count
