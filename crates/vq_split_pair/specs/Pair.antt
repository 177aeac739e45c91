use Rattle.std.specs.Prelude.{◌≡◌, ℕ, ◌+◌, ◌≤◌, List, drop, sum, IsTrue}
use Rattle.vt_types.specs.Operation.{PostedBuffer}
use Rattle.vq_common.specs.declared.chain.RingCfg.{RingCfg}
use Rattle.vq_common.specs.Chain.{ChainValue, Front}
use Rattle.vt_types.specs.Device.{BLOCK_LEN}
use Rattle.vq_common.specs.Piece.{readable, room}
use Rattle.vq_common.specs.Queue.{DriverQueue, DeviceQueue, IsInBlock, is_ring_size, slots_of}
use Rattle.vq_split_dev.specs.Walk.{split_walk}

-- a queue block lies inside a memory of this length, and this ring is that of the block
pub record IsInMemory (memory : ℕ) (cfg : RingCfg) (base : ℕ) : Type 0 where
  pub size : IsTrue (is_ring_size cfg.size)
  pub in_block : IsInBlock cfg base
  pub inside : base + BLOCK_LEN ≤ memory

-- a device's record of the same ring, which has taken each chain that the driver made available so far
pub record HasTakenAll (q : DriverQueue) (d : DeviceQueue) : Type 0 where
  pub ring : d.cfg ≡ q.cfg
  pub taken : d.taken ≡ q.available

-- the writable room of a buffer: the bytes of its writable pieces
abbrev pub room_of : PostedBuffer → ℕ
room_of b = sum (drop b.readable_pieces b.lengths)

-- the ring shows a chain next that is this buffer: its readable bytes, its writable room and its slots
pub record ShowsBuffer (mem : List ℕ) (d : DeviceQueue) (b : PostedBuffer) : Type 0 where
  pub chain : ChainValue
  pub front : split_walk mem d ≡ Front chain
  pub readable : readable mem chain.pieces ≡ b.readable
  pub room : room chain.pieces ≡ room_of b
  pub slots : chain.slots ≡ slots_of b
