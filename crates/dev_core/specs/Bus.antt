use Rattle.std.specs.Prelude.{◌≡◌, ℕ, List, [], Bool, false, Option, Some, None, replicate, if◌then◌else◌}
use Rattle.vt_types.specs.declared.access.Answer.{Answer}
use Rattle.vt_types.specs.declared.device.Dev.{Dev}
use Rattle.vt_types.specs.declared.operation.Event.{Event}
use Rattle.vt_types.specs.declared.operation.Event.TheVariants as event
use Rattle.vt_types.specs.Access.{AccessValue, Load, Store, Put, Get, Zero, Swap, CfgLoad, CfgStore, Ssch, Tsch, Stsch, Msch, Csch, TurnOf, Diag}
use Rattle.vt_types.specs.Limits.{LONGEST_MEMORY}
use Rattle.vt_types.specs.Program.{got, is_got}
use Rattle.vt_types.specs.Status.{DRIVER_OK}
use Rattle.memory_port.specs.MemoryTable.{memory_table}
use Rattle.dev_status.specs.Status.{has_bits}
use Rattle.dev_core.specs.declared.served.Served.{Served}
use Rattle.dev_core.specs.declared.served.Served.TheVariants as served
use Rattle.dev_core.specs.Device.{DeviceState}
use Rattle.dev_core.specs.Devices.{Devices, Changed, new_devices, backend, device}
use Rattle.dev_core.specs.Serve.{Serving, serve}

-- the raw machine: the registers of its bus, the devices, and guest memory as bytes
pub record Raw (R : Type 0) : Type 0 where
  pub registers : R
  pub devices : Devices
  pub memory : List ℕ

-- a bus over its registers: these at the start; what an access of its own answers and leaves; and what a signal of a queue
-- and one of a configuration change, in the registers and in memory
pub record BusTable (R : Type 0) : Type 0 where
  pub start : R
  pub access : AccessValue → Raw R → Answer × Raw R
  pub queue_signal : Dev → ℕ → R → List ℕ → R × List ℕ
  pub config_signal : Dev → R → List ℕ → R × List ℕ

-- how many bytes guest memory has. Proofs open this by name alone, since a list of so many zeros would fill each goal
unfoldable pub MEMORY_LENGTH : ℕ
MEMORY_LENGTH = LONGEST_MEMORY

-- the raw machine at the start: memory is all zeros
abbrev pub new_raw : {R : Type 0} → BusTable R → Raw R
new_raw bus = record { registers = bus.start; devices = new_devices; memory = replicate MEMORY_LENGTH 0 }

-- an access of the bus: no bytes come with the answer
abbrev pub on_bus : {R : Type 0} → Answer × Raw R → Answer × List ℕ × Raw R
on_bus r = (r.0, [], r.1)

-- an access of guest memory leaves registers and devices
abbrev pub on_memory : {R : Type 0} → Raw R → Answer × List ℕ × List ℕ → Answer × List ℕ × Raw R
on_memory raw r = (r.0, r.1, record raw { memory = r.2 })

-- what an access answers, the bytes that come with it, and the raw machine after it: a put, a get, a zeroing and a swap go
-- to guest memory on every bus, and all else to the bus
abbrev pub raw_access : {R : Type 0} → BusTable R → AccessValue → Raw R → Answer × List ℕ × Raw R
raw_access bus (Put addr bytes) raw = on_memory raw (memory_table (Put addr bytes) raw.memory)
raw_access bus (Get addr count) raw = on_memory raw (memory_table (Get addr count) raw.memory)
raw_access bus (Zero addr count) raw = on_memory raw (memory_table (Zero addr count) raw.memory)
raw_access bus (Swap addr value) raw = on_memory raw (memory_table (Swap addr value) raw.memory)
raw_access bus (Load addr width) raw = on_bus (bus.access (Load addr width) raw)
raw_access bus (Store addr width value) raw = on_bus (bus.access (Store addr width value) raw)
raw_access bus (CfgLoad func off width) raw = on_bus (bus.access (CfgLoad func off width) raw)
raw_access bus (CfgStore func off width value) raw = on_bus (bus.access (CfgStore func off width value) raw)
raw_access bus (Ssch id addr) raw = on_bus (bus.access (Ssch id addr) raw)
raw_access bus (Tsch id addr) raw = on_bus (bus.access (Tsch id addr) raw)
raw_access bus (Stsch id addr) raw = on_bus (bus.access (Stsch id addr) raw)
raw_access bus (Msch id addr) raw = on_bus (bus.access (Msch id addr) raw)
raw_access bus (Csch id) raw = on_bus (bus.access (Csch id) raw)
raw_access bus (TurnOf id) raw = on_bus (bus.access (TurnOf id) raw)
raw_access bus (Diag func id value cookie) raw = on_bus (bus.access (Diag func id value cookie) raw)

-- the raw machine with a signal made
abbrev pub signalled : {R : Type 0} → Devices → R × List ℕ → Raw R
signalled s r = record { registers = r.0; devices = s; memory = r.1 }

-- what a serve asks of the bus: a used buffer may signal its queue, and a device that needs a reset signals its configuration
abbrev pub after_serve : {R : Type 0} → BusTable R → Dev → ℕ → R → Serving → Served → Raw R
after_serve bus dev n regs s served.Idle = record { registers = regs; devices = s.devices; memory = s.memory }
after_serve bus dev n regs s served.Quiet = record { registers = regs; devices = s.devices; memory = s.memory }
after_serve bus dev n regs s served.Signal = signalled s.devices (bus.queue_signal dev n regs s.memory)
after_serve bus dev n regs s served.Bad = signalled s.devices (bus.config_signal dev regs s.memory)

-- a device is driven by its driver: DRIVER_OK stands
abbrev pub has_driver : Option DeviceState → Bool
has_driver None = false
has_driver (Some d) = has_bits d.status.status DRIVER_OK

-- a changed configuration signals where DRIVER_OK stands
abbrev pub after_change : {R : Type 0} → BusTable R → R → List ℕ → Devices → Option Dev → Raw R
after_change bus regs mem s None = record { registers = regs; devices = s; memory = mem }
after_change bus regs mem s (Some dev) =
    if has_driver (device s dev) then signalled s (bus.config_signal dev regs mem) else record { registers = regs; devices = s; memory = mem }

abbrev pub changed : {R : Type 0} → BusTable R → Raw R → Changed → Raw R
changed bus raw c = after_change bus raw.registers raw.memory c.devices c.configuration

-- an event on the raw machine
abbrev pub raw_event : {R : Type 0} → BusTable R → Raw R → Event → Raw R
raw_event bus raw (event.Serve dev n) = let s = serve raw.devices dev n raw.memory in after_serve bus dev n raw.registers s s.served
raw_event bus raw (event.Frame bytes) = changed bus raw (backend raw.devices (event.Frame bytes))
raw_event bus raw (event.Key bytes) = changed bus raw (backend raw.devices (event.Key bytes))
raw_event bus raw (event.Resize sectors) = changed bus raw (backend raw.devices (event.Resize sectors))
raw_event bus raw (event.Link up) = changed bus raw (backend raw.devices (event.Link up))
raw_event bus raw (event.Consize cols rows) = changed bus raw (backend raw.devices (event.Consize cols rows))
raw_event bus raw (event.Diskfail call) = changed bus raw (backend raw.devices (event.Diskfail call))

-- one access of the raw machine: its answer, the bytes that come with it and the machine after it are those of the bus; the
-- room is as before unless bytes came
pub record RawStep {R : Type 0} (bus : BusTable R) (old : Raw R) (a : AccessValue) (answer : Answer) (room room2 : List ℕ) (new : Raw R) : Type 0 where
  pub table : raw_access bus a old ≡ (answer, got answer room2, new)
  pub leaves : is_got answer ≡ false → room2 ≡ room
