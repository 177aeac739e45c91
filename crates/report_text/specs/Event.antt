use Rattle.std.specs.Prelude.{ℕ, List, [], ◌++◌, codes, if◌then◌else◌}
use Rattle.std.specs.Fmt.{decimal}
use Rattle.vt_types.specs.declared.device.Dev.{Dev}
use Rattle.vt_types.specs.declared.device.Dev.TheVariants as dev
use Rattle.vt_types.specs.declared.operation.Event.{Event}
use Rattle.vt_types.specs.declared.operation.Event.TheVariants as event
use Rattle.report_text.specs.Words.{hex, word}

-- a device as a script names it
abbrev pub device_text : Dev → List ℕ
device_text dev.Blk = codes "blk"
device_text dev.Net = codes "net"
device_text dev.Con = codes "con"

-- an event as a script writes it
abbrev pub event_text : Event → List ℕ
event_text (event.Serve dev queue) = codes "serve" ++ word (device_text dev) ++ word (decimal queue)
event_text (event.Frame bytes) = codes "frame" ++ word (hex bytes)
event_text (event.Key bytes) = codes "key" ++ word (hex bytes)
event_text (event.Resize sectors) = codes "resize" ++ word (decimal sectors)
event_text (event.Link up) = codes "link" ++ word (if up then codes "up" else codes "down")
event_text (event.Consize cols rows) = codes "consize" ++ word (decimal cols) ++ word (decimal rows)
event_text (event.Diskfail ahead) = codes "diskfail" ++ word (decimal ahead)

-- the line of an event in a trace
abbrev pub event_line : Event → List ℕ
event_line e = codes "* " ++ event_text e ++ codes "\n"

-- the bytes that come with an event
abbrev pub event_bytes : Event → List ℕ
event_bytes (event.Serve dev queue) = []
event_bytes (event.Frame bytes) = bytes
event_bytes (event.Key bytes) = bytes
event_bytes (event.Resize sectors) = []
event_bytes (event.Link up) = []
event_bytes (event.Consize cols rows) = []
event_bytes (event.Diskfail ahead) = []
