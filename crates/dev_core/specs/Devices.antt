use Rattle.std.specs.Prelude.{ℕ, false, Option, Some, None}
use Rattle.vt_types.specs.declared.device.Dev.{Dev}
use Rattle.vt_types.specs.declared.device.Dev.TheVariants.{Blk, Net, Con}
use Rattle.vt_types.specs.declared.operation.Event.{Event}
use Rattle.vt_types.specs.declared.operation.Event.TheVariants as event
use Rattle.vt_types.specs.Device.{queue_count}
use Rattle.vt_outside.specs.Tripped.{TrippedView}
use Rattle.dev_status.specs.Features.{features_of}
use Rattle.device_contents.specs.Contents.{Contents, content_after, new_contents}
use Rattle.dev_core.specs.Device.{DeviceState, new_device, next_generation}

-- the devices as one set, apart from any bus: the console, and what the devices hold. The block and the network device are not
-- there yet
pub record Devices : Type 0 where
  pub con : DeviceState
  pub contents : Contents

-- the set as its calls see it: beside the devices, how many spare bytes the console has, and the disk behind the block
-- device, which no device asks yet
pub record SetView : Type 0 where
  pub devices : Devices
  pub spare : ℕ
  pub disk : TrippedView

-- the devices at the start: a console of its starting size
abbrev pub new_devices : Devices
new_devices = record { con = new_device (features_of Con false) (queue_count Con); contents = new_contents }

-- a device, where it is there
abbrev pub device : Devices → Dev → Option DeviceState
device s Blk = None
device s Net = None
device s Con = Some s.con

-- the set with a device changed, where it is there
abbrev pub with_device : (DeviceState → DeviceState) → Devices → Dev → Devices
with_device change s Blk = s
with_device change s Net = s
with_device change s Con = record s { con = change s.con }

-- an event of a backend that serves no buffer: the set after it, and the device whose configuration changed. A change of
-- the configuration raises its generation, also where the values are as before (VIRTIO 1.2, 2.5)
pub record Changed : Type 0 where
  pub configuration : Option Dev
  pub devices : Devices

abbrev pub backend : Devices → Event → Changed
backend s (event.Serve dev queue) = record { configuration = None; devices = s }
backend s (event.Frame bytes) = record { configuration = None; devices = s }
backend s (event.Key bytes) = record { configuration = None; devices = record s { contents = content_after (event.Key bytes) s.con.status s.contents } }
backend s (event.Resize sectors) = record { configuration = None; devices = s }
backend s (event.Link up) = record { configuration = None; devices = s }
backend s (event.Consize cols rows) = record { configuration = Some Con; devices = record s { con = next_generation s.con; contents = content_after (event.Consize cols rows) s.con.status s.contents } }
backend s (event.Diskfail call) = record { configuration = None; devices = s }
