use Rattle.std.specs.Prelude.{Bool, true, false}
use Rattle.vt_types.specs.declared.device.Dev.{Dev}
use Rattle.vt_types.specs.declared.device.Dev.TheVariants.{Blk, Net, Con}
use Rattle.vt_types.specs.declared.operation.Event.{Event}
use Rattle.vt_types.specs.declared.operation.Event.TheVariants as event

-- a device that is there: the console alone today
abbrev pub is_there : Dev → Bool
is_there Blk = false
is_there Net = false
is_there Con = true

-- an event of such a device
abbrev pub is_event_there : Event → Bool
is_event_there (event.Serve dev queue) = is_there dev
is_event_there (event.Frame bytes) = is_there Net
is_event_there (event.Key bytes) = is_there Con
is_event_there (event.Resize sectors) = is_there Blk
is_event_there (event.Link up) = is_there Net
is_event_there (event.Consize cols rows) = is_there Con
is_event_there (event.Diskfail call) = is_there Blk
