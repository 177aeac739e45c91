use Rattle.std.specs.Prelude.{ℕ, zero, suc, ◌+◌, ◌%◌, ◌^◌, ◌&&◌, not, List, length, Bool, true, false, Option, Some, None, is_some, replicate, slice_get, slice_set, if◌then◌else◌}
use Rattle.vt_types.specs.Features.{INDIRECT_DESC, EVENT_IDX}
use Rattle.vq_common.specs.declared.chain.RingCfg.{RingCfg}
use Rattle.vq_common.specs.Queue.{new_device_queue, is_queue_size}
use Rattle.dev_status.specs.Status.{StatusState, feature_word, has_bits, reset_of, write_of}
use Rattle.dev_core.specs.declared.ring.RingKind.TheVariants.{Split}
use Rattle.dev_core.specs.Ring.{SetRing}

-- a queue of a device: its ring where it is set, and whether it was kicked
pub record QueueState : Type 0 where
  pub ring : Option SetRing
  pub kick : Bool

-- what every device has: its status machine, the generation of its configuration, and its queues
pub record DeviceState : Type 0 where
  pub status : StatusState
  pub generation : ℕ
  pub queues : List QueueState

-- a queue that is not set
abbrev pub unset : QueueState
unset = record { ring = None; kick = false }

-- a device at the start: what it offers, and how many queues it has
abbrev pub new_device : ℕ → ℕ → DeviceState
new_device offered queues =
    record { status = record { offered = offered; accepted = 0; status = 0 }; generation = 0; queues = replicate queues unset }

-- a reset makes the status 0, forgets the accepted features and unsets all queues; the generation stays (VIRTIO 1.2, 2.4)
abbrev pub reset_device : DeviceState → DeviceState
reset_device d = record d { status = reset_of d.status; queues = replicate (length d.queues) unset }

-- a write of the status: 0 resets the device (VIRTIO 1.2, 2.1)
abbrev pub write_device_status : ℕ → DeviceState → DeviceState
write_device_status zero d = reset_device d
write_device_status (suc v) d = record d { status = write_of (suc v) d.status }

-- the configuration changed: the generation rises by one, modulo 2^32 (VIRTIO 1.2, 2.5)
abbrev pub next_generation : DeviceState → DeviceState
next_generation d = record d { generation = (d.generation + 1) % 2 ^ 32 }

-- the device with another queue of this number
abbrev pub with_queue : DeviceState → ℕ → QueueState → DeviceState
with_queue d n q = record d { queues = slice_set d.queues n q }

-- a ring at these areas, of this size: its kind and its two features are by the accepted features at the moment when it is
-- set; packed rings are not offered yet
abbrev pub ring_for : ℕ → RingCfg → SetRing
ring_for accepted cfg =
    record {
      kind = Split;
      queue = new_device_queue (record cfg { indirect = has_bits accepted INDIRECT_DESC; event_idx = has_bits accepted EVENT_IDX });
    }

-- a queue may be set where the device has it, it is not set, and the size is allowed
abbrev pub may_set : Option QueueState → RingCfg → Bool
may_set None cfg = false
may_set (Some q) cfg = not (is_some q.ring) && is_queue_size cfg.size

-- a queue is set, without a kick
abbrev pub set_device_queue : DeviceState → ℕ → RingCfg → DeviceState
set_device_queue d n cfg =
    if may_set (slice_get d.queues n) cfg then with_queue d n (record { ring = Some (ring_for d.status.accepted cfg); kick = false }) else d

-- a queue is unset, where the device has it; its kick goes
abbrev pub unset_device_queue : DeviceState → ℕ → DeviceState
unset_device_queue d n = record d { queues = slice_set d.queues n unset }

-- a queue that is set is kicked
abbrev pub kicked : QueueState → QueueState
kicked q = if is_some q.ring then record q { kick = true } else q

abbrev pub kick_queue : DeviceState → ℕ → Option QueueState → DeviceState
kick_queue d n None = d
kick_queue d n (Some q) = with_queue d n (kicked q)

-- whether a queue is set; one that the device doesn't have isn't
abbrev pub is_queue_set : Option QueueState → Bool
is_queue_set None = false
is_queue_set (Some q) = is_some q.ring

-- what is read of a device; of one that is not there everything is 0
abbrev pub status_of : Option DeviceState → ℕ
status_of None = 0
status_of (Some d) = d.status.status

abbrev pub feature_word_of : Option DeviceState → ℕ → ℕ
feature_word_of None index = 0
feature_word_of (Some d) index = feature_word d.status.offered index

abbrev pub accepted_of : Option DeviceState → ℕ
accepted_of None = 0
accepted_of (Some d) = d.status.accepted

abbrev pub generation_of : Option DeviceState → ℕ
generation_of None = 0
generation_of (Some d) = d.generation

abbrev pub queues_of : Option DeviceState → ℕ
queues_of None = 0
queues_of (Some d) = length d.queues

-- a queue of it is set; and it may be set
abbrev pub is_set_in : Option DeviceState → ℕ → Bool
is_set_in None n = false
is_set_in (Some d) n = is_queue_set (slice_get d.queues n)

abbrev pub may_set_in : Option DeviceState → ℕ → RingCfg → Bool
may_set_in None n cfg = false
may_set_in (Some d) n cfg = may_set (slice_get d.queues n) cfg
