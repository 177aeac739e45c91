use Rattle.std.specs.Prelude.{◌≡◌, ℕ, List, [], ◌∷◌, true, false, Some, slice_get}
use Rattle.vq_common.specs.declared.chain.RingCfg.{RingCfg}
use Rattle.vq_common.specs.Queue.{new_device_queue}
use Rattle.dev_core.specs.declared.ring.RingKind.TheVariants.{Split}
use Rattle.dev_core.specs.Bus.{Raw}
use Rattle.dev_core.specs.Device.{DeviceState}
use Rattle.dev_core.specs.Devices.{new_devices}
use Rattle.dev_core.specs.Serve.{is_driven}
use Rattle.mmio_regs.specs.MmioTable.{mmio_table}
use Rattle.mmio_regs.specs.Page.{MmioRegisters}
use Rattle.monitor.specs.declared.exits.Exit.{Exit}
use Rattle.monitor.specs.Exit.{trapped}

-- what a list of exits leaves
unfoldable pub after : List Exit → Raw MmioRegisters → Raw MmioRegisters
after [] raw = raw
after (e ∷ es) raw = after es (mmio_table.access (trapped e) raw).1

-- what they leave of the console, where it was just switched on
abbrev pub console_after : List Exit → List ℕ → DeviceState
console_after exits memory = (after exits (record { registers = mmio_table.start; devices = new_devices; memory = memory })).devices.con

-- a device that its driver runs, with a queue that is set
pub record IsBroughtUp (n : ℕ) (ring : RingCfg) (d : DeviceState) : Type 0 where
  pub driven : is_driven d.status ≡ true
  pub queue : slice_get d.queues n ≡ Some (record { ring = Some (record { kind = Split; queue = new_device_queue ring }); kick = false })
