use Rattle.std.specs.Prelude.{ℕ, List, Bool}
use Rattle.vq_common.specs.declared.chain.RingCfg.{RingCfg}
use Rattle.vq_common.specs.Chain.{ChainValue, Walked, after_take}
use Rattle.vq_common.specs.Queue.{DeviceQueue, Given}
use Rattle.vq_split_dev.specs.Walk.{split_walk, split_taken, split_areas_inside}
use Rattle.vq_split_dev.specs.Give.{split_given}
use Rattle.dev_core.specs.declared.ring.RingKind.{RingKind}
use Rattle.dev_core.specs.declared.ring.RingKind.TheVariants.{Split}

-- a ring that is set: its kind, and the device's record of it
pub record SetRing : Type 0 where
  pub kind : RingKind
  pub queue : DeviceQueue

-- what memory shows next of a ring of a kind (VIRTIO 1.2, 2.7.13)
abbrev pub walk : RingKind → List ℕ → DeviceQueue → Walked
walk Split mem q = split_walk mem q

-- the device's record once a chain is taken
abbrev pub taken : RingKind → DeviceQueue → ChainValue → DeviceQueue
taken Split q c = split_taken q c

-- giving a chain back with so many bytes written (VIRTIO 1.2, 2.7.8)
abbrev pub given : RingKind → List ℕ → DeviceQueue → ChainValue → ℕ → Given
given Split mem q c len = split_given mem q c len

-- the areas of a ring lie inside a memory of this length
abbrev pub areas_of : RingKind → ℕ → RingCfg → Bool
areas_of Split memory cfg = split_areas_inside memory cfg

abbrev pub areas_inside : ℕ → SetRing → Bool
areas_inside memory r = areas_of r.kind memory r.queue.cfg

-- what memory shows next of a ring
abbrev pub shown : List ℕ → SetRing → Walked
shown mem r = walk r.kind mem r.queue

-- the ring once it showed something: a chain is taken
abbrev pub showed : SetRing → Walked → SetRing
showed r w = record r { queue = after_take (taken r.kind) r.queue w }
