use Rattle.std.specs.Prelude.{◌≡◌, ℕ, length, Option, Some, None}
use Rattle.state_table.specs.Known.{Known, KnownQueue, known_queue}
use Rattle.state_table.specs.Refusal.{has_tag}

-- two views of a queue between which the state table sees no difference: the same size and slots, and the same tags in whatever
-- order
pub record SameQueue (x y : KnownQueue) : Type 0 where
  pub size : x.size ≡ y.size
  pub slots : x.slots ≡ y.slots
  pub tags : (tag : ℕ) → has_tag tag x.tags ≡ has_tag tag y.tags

-- both are unset, or both are set and the same
abbrev pub SameQueues : Option KnownQueue → Option KnownQueue → Type 0
SameQueues None None = Unit {0}
SameQueues None (Some y) = ⊥
SameQueues (Some x) None = ⊥
SameQueues (Some x) (Some y) = SameQueue x y

-- two views of a device
pub record SameKnown (k l : Known) : Type 0 where
  pub probed : k.probed ≡ l.probed
  pub reset_since : k.reset_since ≡ l.reset_since
  pub status : k.status ≡ l.status
  pub accepted : k.accepted ≡ l.accepted
  pub count : length k.queues ≡ length l.queues
  pub queues : (n : ℕ) → SameQueues (known_queue k n) (known_queue l n)
