use Rattle.std.specs.Prelude.{ℕ, List, map, Bool, false, Option, Some, None, replicate, slice_get, slice_set}
use Rattle.std.specs.Option.{option_flatten, option_map}
use Rattle.vt_types.specs.declared.device.Dev.{Dev}
use Rattle.vt_types.specs.Device.{queue_count}
use Rattle.vt_types.specs.Program.{Program, End}
use Rattle.vt_types.specs.Reply.{ReplyValue}
use Rattle.vq_common.specs.Queue.{DriverQueue, Unreaped, slots_of_all}
use Rattle.state_table.specs.Known.{Known, KnownQueue}
use Rattle.by_device.specs.ByDevice.{ByDevice, all_of, of, with}

-- what a driver keeps of a device: whether it was probed, and reset since; the status that it read last; the features that it
-- accepted; and its queues that are set
pub record DeviceRecord : Type 0 where
  pub probed : Bool
  pub reset_since : Bool
  pub status : ℕ
  pub accepted : ℕ
  pub queues : List (Option DriverQueue)

-- what it keeps of all three
abbrev pub DriverRecord : Type 0
DriverRecord = ByDevice DeviceRecord

-- no queue of a device is set
abbrev pub no_queues : Dev → List (Option DriverQueue)
no_queues dev = replicate (queue_count dev) None

-- before the probe
abbrev pub new_device_record : Dev → DeviceRecord
new_device_record dev = record { probed = false; reset_since = false; status = 0; accepted = 0; queues = no_queues dev }

abbrev pub new_record : DriverRecord
new_record = all_of new_device_record

-- a queue, where the device has it and it is set; and the record with a queue that is set
abbrev pub driver_queue : DeviceRecord → ℕ → Option DriverQueue
driver_queue d n = option_flatten (slice_get d.queues n)

abbrev pub with_driver_queue : DriverRecord → Dev → ℕ → DriverQueue → DriverRecord
with_driver_queue known dev n q = with known dev (record (of known dev) { queues = slice_set (of known dev).queues n (Some q) })

-- what the state table reads of a queue, and of a device
abbrev pub queue_known : DriverQueue → KnownQueue
queue_known q = record { size = q.cfg.size; tags = map (λ (u : Unreaped). u.tag) q.unreaped; slots = slots_of_all q.unreaped }

abbrev pub known_of : DeviceRecord → Known
known_of d =
    record {
      probed = d.probed;
      reset_since = d.reset_since;
      status = d.status;
      accepted = d.accepted;
      queues = map (option_map queue_known) d.queues;
    }

-- a reply, and the record after the operation
pub record Ended : Type 0 where
  pub reply : ReplyValue
  pub known : DriverRecord

-- the end of a program
abbrev pub ends : ReplyValue → DriverRecord → Program Ended
ends r known = End (record { reply = r; known = known })
