use Rattle.std.specs.Prelude.{◌≡◌, ℕ, ◌^◌, ◌<◌, ◌≤◌, List, [], length, All, true}
use Rattle.vq_common.specs.Queue.{DriverQueue, GREATEST_RING, Unreaped}
use Rattle.vq_posted.specs.Order.{IsInOrder}
use Rattle.vq_posted.specs.Table.{PostedView}
use Rattle.vq_split_drv.specs.declared.ring.Ring.{Ring}

-- what contracts see of a driver's end: its record of the queue, and the greatest size that the queue may have
pub record SplitState : Type 0 where
  pub queue : DriverQueue
  pub greatest : ℕ

-- the record that a ring and its unreaped buffers make; a split ring has no wrap counters
abbrev pub split_queue : Ring → List Unreaped → DriverQueue
split_queue r us =
    record { cfg = r.cfg; base = r.base; available = r.available; available_wrap = true; used = r.used; used_wrap = true; unreaped = us }

-- the record of a ring by itself, which is all that accesses need to know
abbrev pub ring_queue : Ring → DriverQueue
ring_queue r = split_queue r []

-- an unreaped buffer of a split ring has as many slots as descriptors, and its id has 16 bits
pub record IsSplitBuffer (u : Unreaped) : Type 0 where
  pub slots : u.slots ≡ length u.descriptors
  pub id : u.id < 2 ^ 16

-- a driver's record of a split queue: numbers in range, and buffers with descriptors of their own
pub record IsSplitQueue (q : DriverQueue) : Type 0 where
  pub size : q.cfg.size ≤ GREATEST_RING
  pub available : q.available < 2 ^ 16
  pub used : q.used < 2 ^ 16
  pub order : IsInOrder q.cfg.size q.unreaped
  pub each : All IsSplitBuffer q.unreaped

-- what the fields keep: the posted buffers are those of a ring of this size
pub record IsKept (size : ℕ) (posted : PostedView) : Type 0 where
  pub ring : posted.size ≡ size
  pub each : All IsSplitBuffer posted.unreaped
