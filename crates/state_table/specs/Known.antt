use Rattle.std.specs.Prelude.{ℕ, List, Bool, Option, slice_get}
use Rattle.std.specs.Option.{option_flatten}

-- what is known of a queue that is set: its size, the tags of the buffers that were posted and not yet reaped, and the slots
-- that these take
pub record KnownQueue : Type 0 where
  pub size : ℕ
  pub tags : List ℕ
  pub slots : ℕ

-- what is known of a device: whether it was probed, and reset since; the status that was read last; the accepted features;
-- and its queues
pub record Known : Type 0 where
  pub probed : Bool
  pub reset_since : Bool
  pub status : ℕ
  pub accepted : ℕ
  pub queues : List (Option KnownQueue)

-- a queue, where the device has it and it is set
abbrev pub known_queue : Known → ℕ → Option KnownQueue
known_queue k n = option_flatten (slice_get k.queues n)
