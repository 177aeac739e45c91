-- That a ring of either kind shows a buffer, by its walk.
use Rattle.std.specs.Prelude.{◌≡◌, ℕ, List}
use Rattle.vt_types.specs.Operation.{PostedBuffer}
use Rattle.vq_common.specs.Chain.{ChainValue, Walked, Front}
use Rattle.vq_common.specs.Piece.{readable, room}
use Rattle.vq_common.specs.Queue.{DeviceQueue, slots_of}
use Rattle.vq_split_pair.specs.Pair.{room_of}

-- the walk shows a chain next that is this buffer: its readable bytes, its writable room and its slots
pub record ShowsBuffer (walk : List ℕ → DeviceQueue → Walked) (mem : List ℕ) (d : DeviceQueue) (b : PostedBuffer) : Type 0 where
  pub chain : ChainValue
  pub front : walk mem d ≡ Front chain
  pub readable : readable mem chain.pieces ≡ b.readable
  pub room : room chain.pieces ≡ room_of b
  pub slots : chain.slots ≡ slots_of b
