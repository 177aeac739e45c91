use Rattle.std.specs.Prelude.{◌≡◌, ℕ, ◌<◌, false}
use Rattle.vq_common.specs.Queue.{DriverQueue}

-- a driver's queue was started, without EVENT_IDX: reaping from it makes no page
pub record IsReady (q : DriverQueue) : Type 0 where
  pub started : 0 < q.cfg.size
  pub unasked : q.cfg.event_idx ≡ false

-- the pages that serving a chain makes at most: 16 for the bytes written into it, and 4 for giving it back
abbrev pub PAGES_OF_SERVE : ℕ
PAGES_OF_SERVE = 20
