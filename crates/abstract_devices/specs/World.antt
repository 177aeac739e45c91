use Rattle.std.specs.Prelude.{ℕ, ◌+◌, List, [], ◌++◌, map, sum, Bool, false, Option, Some, None, replicate, slice_get, slice_set}
use Rattle.std.specs.Option.{option_flatten, option_map}
use Rattle.vt_types.specs.declared.device.Dev.{Dev}
use Rattle.vt_types.specs.Device.{queue_count}
use Rattle.by_device.specs.ByDevice.{ByDevice, all_of, of, with}
use Rattle.device_contents.specs.Contents.{Contents, new_contents}
use Rattle.dev_status.specs.Features.{features_of}
use Rattle.dev_status.specs.Status.{StatusState}
use Rattle.state_table.specs.Known.{Known, KnownQueue}

-- a buffer that the driver made available: its tag, the readable bytes, the bytes of its writable room, and its slots
pub record Buffer : Type 0 where
  pub tag : ℕ
  pub readable : List ℕ
  pub room : ℕ
  pub slots : ℕ

-- a buffer that the device used: the bytes that it wrote, at most as many as there was room for
pub record UsedBuffer : Type 0 where
  pub tag : ℕ
  pub slots : ℕ
  pub written : List ℕ

-- when a used buffer is signalled: always, never, or where no used buffer stood before
pub data SignalMode : Type 0 where
  Always : SignalMode
  Never : SignalMode
  First : SignalMode

-- a queue that is set: its size, whether it was kicked, the available buffers and the used and not yet reaped ones, each
-- in order
pub record AbstractQueue : Type 0 where
  pub size : ℕ
  pub kick : Bool
  pub available : List Buffer
  pub used : List UsedBuffer
  pub mode : SignalMode

-- a device as its driver knows it: whether it was probed, and reset since; its status and accepted features; its queues,
-- set or not; the numbers of the signalled queues, rising; and whether a configuration change was signalled
pub record AbstractDevice : Type 0 where
  pub probed : Bool
  pub reset_since : Bool
  pub status : ℕ
  pub accepted : ℕ
  pub queues : List (Option AbstractQueue)
  pub signalled : List ℕ
  pub config_changed : Bool

-- the disk: its sectors, and whether it is read-only
pub record AbstractDisk : Type 0 where
  pub sectors : List (List ℕ)
  pub read_only : Bool

-- everything: the three devices, what they hold, and the disk
pub record World : Type 0 where
  pub devices : ByDevice AbstractDevice
  pub contents : Contents
  pub disk : AbstractDisk

-- the features that a device offers
abbrev pub offered : World → Dev → ℕ
offered w dev = features_of dev w.disk.read_only

-- one of the three devices, and the world with another in its place
abbrev pub device : World → Dev → AbstractDevice
device w dev = of w.devices dev

abbrev pub with_device : World → Dev → AbstractDevice → World
with_device w dev d = record w { devices = with w.devices dev d }

-- the status machine of a device
abbrev pub status_state : World → Dev → StatusState
status_state w dev = record { offered = offered w dev; accepted = (device w dev).accepted; status = (device w dev).status }

-- a queue, where the device has it and it is set
abbrev pub queue : AbstractDevice → ℕ → Option AbstractQueue
queue d n = option_flatten (slice_get d.queues n)

-- the device with a queue that is set
abbrev pub with_queue : AbstractDevice → ℕ → AbstractQueue → AbstractDevice
with_queue d n q = record d { queues = slice_set d.queues n (Some q) }

-- the tags of the buffers of a queue that were not reaped yet, and the slots that they take
abbrev pub tags_of : AbstractQueue → List ℕ
tags_of q = map (λ (b : Buffer). b.tag) q.available ++ map (λ (u : UsedBuffer). u.tag) q.used

abbrev pub slots_in_use : AbstractQueue → ℕ
slots_in_use q = sum (map (λ (b : Buffer). b.slots) q.available) + sum (map (λ (u : UsedBuffer). u.slots) q.used)

-- what the state table reads of a device
abbrev pub queue_known : AbstractQueue → KnownQueue
queue_known q = record { size = q.size; tags = tags_of q; slots = slots_in_use q }

abbrev pub known_of : AbstractDevice → Known
known_of d =
    record {
      probed = d.probed;
      reset_since = d.reset_since;
      status = d.status;
      accepted = d.accepted;
      queues = map (option_map queue_known) d.queues;
    }

-- a device before it is probed
abbrev pub new_device : Dev → AbstractDevice
new_device dev =
    record {
      probed = false;
      reset_since = false;
      status = 0;
      accepted = 0;
      queues = replicate (queue_count dev) None;
      signalled = [];
      config_changed = false;
    }

-- the starting world, with this disk
abbrev pub new_world : AbstractDisk → World
new_world disk =
    record { devices = all_of new_device; contents = new_contents; disk = disk }
