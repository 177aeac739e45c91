use Rattle.std.specs.Prelude.{ℕ, zero, suc, ◌+◌, ◌-◌, ◌&&◌, nat_le, List, [], ◌∷◌, ◌++◌, length, Bool, get_or, if◌then◌else◌}
use Rattle.byteorder.specs.Endian.{little_bytes}
use Rattle.vt_types.specs.declared.device.Dev.{Dev}
use Rattle.vt_types.specs.declared.device.Dev.TheVariants.{Blk, Net, Con}
use Rattle.vt_types.specs.Device.{CONSOLE_PORTS}
use Rattle.device_contents.specs.Contents.{with_console, with_emergency}
use Rattle.dev_core.specs.Devices.{Devices}

-- the configuration of the console: le16 cols, le16 rows, le32 max_nr_ports, le32 emerg_wr, which reads 0 (VIRTIO 1.2, 5.3.4)
abbrev pub console_configuration : ℕ → ℕ → List ℕ
console_configuration cols rows = little_bytes 2 cols ++ (little_bytes 2 rows ++ (little_bytes 4 CONSOLE_PORTS ++ little_bytes 4 0))

-- the configuration of a device; one that is not there has none
abbrev pub configuration : Devices → Dev → List ℕ
configuration s Blk = []
configuration s Net = []
configuration s Con = console_configuration s.contents.console.cols s.contents.console.rows

-- so many bytes of a list from a location on, and zeros past its end
abbrev pub bytes_at : List ℕ → ℕ → ℕ → List ℕ
bytes_at bytes at zero = []
bytes_at bytes at (suc n) = get_or bytes at 0 ∷ bytes_at bytes (at + 1) n

-- bytes of a device's configuration
abbrev pub config_bytes : Devices → Dev → ℕ → ℕ → List ℕ
config_bytes s dev at n = bytes_at (configuration s dev) at n

-- bytes that are written from a location on cover so many from another
abbrev pub covers : ℕ → List ℕ → ℕ → ℕ → Bool
covers at bytes from n = nat_le at from && nat_le (from + n) (at + length bytes)

-- a write of emerg_wr, which covers all of its four bytes: its first byte joins the console's (VIRTIO 1.2, 5.3.4)
abbrev pub write_emergency : Devices → ℕ → List ℕ → Devices
write_emergency s at bytes =
    if covers at bytes 8 4 then record s { contents = with_console (with_emergency (get_or bytes (8 - at) 0)) s.contents } else s

-- a write of a device's configuration; what no field takes is ignored
abbrev pub write_configuration : Devices → Dev → ℕ → List ℕ → Devices
write_configuration s Blk at bytes = s
write_configuration s Net at bytes = s
write_configuration s Con at bytes = write_emergency s at bytes
