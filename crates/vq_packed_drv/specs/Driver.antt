use Rattle.std.specs.Prelude.{◌≡◌, ℕ, ◌<◌, ◌≤◌, List, [], ◌∷◌, All}
use Rattle.vt_types.specs.Limits.{MOST_PIECES}
use Rattle.vq_common.specs.declared.position.Position.{Position}
use Rattle.vq_common.specs.Queue.{DriverQueue, GREATEST_RING, Unreaped}
use Rattle.vq_posted.specs.Order.{IsInOrder}
use Rattle.vq_posted.specs.Table.{PostedView}
use Rattle.vq_packed_drv.specs.declared.ring.Ring.{Ring}

-- what contracts see of a driver's end: its record of the queue, and the greatest size that the queue may have
pub record PackedState : Type 0 where
  pub queue : DriverQueue
  pub greatest : ℕ

-- the record that a ring and its unreaped buffers make
abbrev pub packed_queue : Ring → List Unreaped → DriverQueue
packed_queue r us =
    record {
      cfg = r.cfg;
      base = r.base;
      available = r.available.location;
      available_wrap = r.available.wrap;
      used = r.used.location;
      used_wrap = r.used.wrap;
      unreaped = us;
    }

-- the record of a ring by itself, which is all that accesses need to know
abbrev pub ring_queue : Ring → DriverQueue
ring_queue r = packed_queue r []

-- an unreaped buffer of a packed ring of this size: its id stands for its descriptors, and it takes some slots, no more than
-- a buffer's pieces and no more than the ring has
pub record IsPackedBuffer (size : ℕ) (u : Unreaped) : Type 0 where
  pub descriptors : u.descriptors ≡ u.id ∷ []
  pub some : 1 ≤ u.slots
  pub few : u.slots ≤ MOST_PIECES
  pub fits : u.slots ≤ size

-- a driver's record of a packed queue: once it is started its locations are in the ring, and its buffers take no more slots
-- than there are, each with an id of its own
pub record IsPackedQueue (q : DriverQueue) : Type 0 where
  pub size : q.cfg.size ≤ GREATEST_RING
  pub available : 0 < q.cfg.size → q.available < q.cfg.size
  pub used : 0 < q.cfg.size → q.used < q.cfg.size
  pub order : IsInOrder q.cfg.size q.unreaped
  pub each : All (IsPackedBuffer q.cfg.size) q.unreaped

-- what the fields keep: positions in the ring once it is started, and the posted buffers of a ring of this size
pub record IsKept (size : ℕ) (next_available next_used : Position) (posted : PostedView) : Type 0 where
  pub available : 0 < size → next_available.location < size
  pub used : 0 < size → next_used.location < size
  pub ring : posted.size ≡ size
  pub each : All (IsPackedBuffer size) posted.unreaped
