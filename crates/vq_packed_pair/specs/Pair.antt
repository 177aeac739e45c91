use Rattle.std.specs.Prelude.{◌≡◌, ℕ, List}
use Rattle.vt_types.specs.Operation.{PostedBuffer}
use Rattle.vq_common.specs.Queue.{DriverQueue, DeviceQueue}
use Rattle.vq_packed_dev.specs.Walk.{packed_walk}
use Rattle.vq_packed_pair.specs.Shown.{ShowsBuffer}

-- a device's record of the same ring, which has taken each chain that the driver made available so far: it takes next at
-- the driver's next available position
pub record HasTakenAll (q : DriverQueue) (d : DeviceQueue) : Type 0 where
  pub ring : d.cfg ≡ q.cfg
  pub taken : d.taken ≡ q.available
  pub taken_wrap : d.taken_wrap ≡ q.available_wrap

-- a packed ring shows this buffer next
abbrev pub ShowsNext : List ℕ → DeviceQueue → PostedBuffer → Type 0
ShowsNext mem d b = ShowsBuffer packed_walk mem d b
