use Rattle.std.specs.Prelude.{ℕ, ◌+◌, ◌-◌, ◌%◌, ◌^◌, ◌==◌, ◌&&◌, nat_le, nat_lt, length, Bool, false, Option, Some, None, slice_get, slice_set, if◌then◌else◌}
use Rattle.byteorder.specs.Endian.{little_number, little_bytes}
use Rattle.vt_types.specs.declared.access.Answer.{Answer}
use Rattle.vt_types.specs.declared.access.Answer.TheVariants as answer
use Rattle.vt_types.specs.declared.device.Dev.{Dev}
use Rattle.vt_types.specs.declared.device.Dev.TheVariants.{Blk, Net, Con}
use Rattle.vt_types.specs.Access.{AccessValue, Load, Store, Put, Get, Zero, Swap, CfgLoad, CfgStore, Ssch, Tsch, Stsch, Msch, Csch, TurnOf, Diag}
use Rattle.vt_types.specs.Device.{GREATEST_QUEUE, device_id}
use Rattle.vt_layout.specs.Interrupts.{USED_BUFFER, CONFIGURATION_CHANGE}
use Rattle.vt_layout.specs.Mmio.{register_at, PAGE_LENGTH, CONFIGURATION, page_address}
use Rattle.vq_common.specs.declared.chain.RingCfg.{RingCfg}
use Rattle.dev_status.specs.Status.{accept_of, feature_word}
use Rattle.dev_core.specs.Bus.{Raw, BusTable}
use Rattle.dev_core.specs.Config.{config_bytes, write_configuration}
use Rattle.dev_core.specs.Device.{DeviceState, QueueState, is_queue_set, set_device_queue, unset_device_queue, kick_queue, write_device_status}
use Rattle.dev_core.specs.Devices.{Devices}
use Rattle.vt_layout.specs.declared.register.MmioRegister.{MmioRegister}
use Rattle.vt_layout.specs.declared.register.MmioRegister.TheVariants.{MagicValue, Version, DeviceId, VendorId, DeviceFeatures, DeviceFeaturesSel, DriverFeatures, DriverFeaturesSel, QueueSel, QueueNumMax, QueueNum, QueueReady, QueueNotify, InterruptStatus, InterruptAck, Status, QueueDescLow, QueueDescHigh, QueueDriverLow, QueueDriverHigh, QueueDeviceLow, QueueDeviceHigh, ShmLenLow, ShmLenHigh, ConfigGeneration}
use Rattle.mmio_regs.specs.declared.page.QueueRegisters.{QueueRegisters}
use Rattle.mmio_regs.specs.Page.{Page, MmioRegisters, new_page, new_registers, with_interrupt, acknowledged, with_low, with_high}

-- a device with its page
pub record DevicePage : Type 0 where
  pub page : Page
  pub device : DeviceState

-- "virt", the lowest byte first, and the version of the registers (VIRTIO 1.2, 4.2.2); the vendor is our own
abbrev pub MAGIC : ℕ
MAGIC = 0x74726976

abbrev pub VERSION : ℕ
VERSION = 2

abbrev pub VENDOR : ℕ
VENDOR = 0x1af4

-- both halves of the length of a shared memory region that is not there (VIRTIO 1.2, 4.2.2)
abbrev pub NO_REGION : ℕ
NO_REGION = 0xffffffff

-- the queue that QueueSel names, where there is one
abbrev pub selected : DevicePage → Option QueueState
selected d = slice_get d.device.queues d.page.queue_select

-- the greatest size of a queue; 0 where there is no such queue
abbrev pub number_max : Option QueueState → ℕ
number_max None = 0
number_max (Some q) = GREATEST_QUEUE

abbrev pub number_of : Bool → ℕ
number_of b = if b then 1 else 0

-- what a register of the console loads (VIRTIO 1.2, 4.2.2); one that is only stored loads 0
abbrev pub load_of : DevicePage → MmioRegister → ℕ
load_of d MagicValue = MAGIC
load_of d Version = VERSION
load_of d DeviceId = device_id Con
load_of d VendorId = VENDOR
load_of d DeviceFeatures = feature_word d.device.status.offered d.page.device_features_select
load_of d DeviceFeaturesSel = 0
load_of d DriverFeatures = 0
load_of d DriverFeaturesSel = 0
load_of d QueueSel = 0
load_of d QueueNumMax = number_max (selected d)
load_of d QueueNum = 0
load_of d QueueReady = number_of (is_queue_set (selected d))
load_of d QueueNotify = 0
load_of d InterruptStatus = d.page.interrupt_status
load_of d InterruptAck = 0
load_of d Status = d.device.status.status
load_of d QueueDescLow = 0
load_of d QueueDescHigh = 0
load_of d QueueDriverLow = 0
load_of d QueueDriverHigh = 0
load_of d QueueDeviceLow = 0
load_of d QueueDeviceHigh = 0
load_of d ShmLenLow = NO_REGION
load_of d ShmLenHigh = NO_REGION
load_of d ConfigGeneration = d.device.generation

-- the registers of a queue change, where the device has the queue
abbrev pub change_registers : DevicePage → ℕ → (QueueRegisters → QueueRegisters) → Option QueueRegisters → DevicePage
change_registers d n change None = d
change_registers d n change (Some q) = record d { page = record d.page { queues = slice_set d.page.queues n (change q) } }

-- those of the queue that QueueSel names, while it is not set
abbrev pub change_selected : (QueueRegisters → QueueRegisters) → DevicePage → DevicePage
change_selected change d =
    if is_queue_set (selected d) then d else change_registers d d.page.queue_select change (slice_get d.page.queues d.page.queue_select)

-- the ring that the registers of a queue describe; its features are by what is accepted when it is set
abbrev pub described : QueueRegisters → RingCfg
described q = record { desc = q.desc; driver = q.driver; device = q.device; size = q.num; indirect = false; event_idx = false }

-- QueueReady: 1 sets the queue, 0 unsets it, and another value is ignored
abbrev pub store_ready : ℕ → DevicePage → Option QueueRegisters → DevicePage
store_ready value d None = d
store_ready value d (Some q) =
    if value == 1
    then record d { device = set_device_queue d.device d.page.queue_select (described q) }
    else (if value == 0 then record d { device = unset_device_queue d.device d.page.queue_select } else d)

-- Status: 0 resets the device and its page
abbrev pub store_status : ℕ → DevicePage → DevicePage
store_status v d =
    record {
      page = if v == 0 then new_page (length d.page.queues) else d.page;
      device = write_device_status v d.device;
    }

-- what a store to a register leaves (VIRTIO 1.2, 4.2.2); a register that is only loaded ignores it
abbrev pub store_of : MmioRegister → ℕ → DevicePage → DevicePage
store_of MagicValue value d = d
store_of Version value d = d
store_of DeviceId value d = d
store_of VendorId value d = d
store_of DeviceFeatures value d = d
store_of DeviceFeaturesSel value d = record d { page = record d.page { device_features_select = value } }
store_of DriverFeatures value d = record d { device = record d.device { status = accept_of d.page.driver_features_select value d.device.status } }
store_of DriverFeaturesSel value d = record d { page = record d.page { driver_features_select = value } }
store_of QueueSel value d = record d { page = record d.page { queue_select = value } }
store_of QueueNumMax value d = d
store_of QueueNum value d = change_selected (λ q. record q { num = value % 2 ^ 16 }) d
store_of QueueReady value d = store_ready value d (slice_get d.page.queues d.page.queue_select)
store_of QueueNotify value d = record d { device = kick_queue d.device value (slice_get d.device.queues value) }
store_of InterruptStatus value d = d
store_of InterruptAck value d = record d { page = acknowledged value d.page }
store_of Status value d = store_status (value % 2 ^ 8) d
store_of QueueDescLow value d = change_selected (λ q. record q { desc = with_low q.desc value }) d
store_of QueueDescHigh value d = change_selected (λ q. record q { desc = with_high q.desc value }) d
store_of QueueDriverLow value d = change_selected (λ q. record q { driver = with_low q.driver value }) d
store_of QueueDriverHigh value d = change_selected (λ q. record q { driver = with_high q.driver value }) d
store_of QueueDeviceLow value d = change_selected (λ q. record q { device = with_low q.device value }) d
store_of QueueDeviceHigh value d = change_selected (λ q. record q { device = with_high q.device value }) d
store_of ShmLenLow value d = d
store_of ShmLenHigh value d = d
store_of ConfigGeneration value d = d

-- the console with its page, as the raw machine has them
abbrev pub console_page : Raw MmioRegisters → DevicePage
console_page raw = record { page = raw.registers.con; device = raw.devices.con }

abbrev pub with_console_page : Raw MmioRegisters → DevicePage → Raw MmioRegisters
with_console_page raw d = record raw { registers = record raw.registers { con = d.page }; devices = record raw.devices { con = d.device } }

-- the offset in the console's page that an address reaches; the pages of devices that are not there, and all other
-- addresses, are gaps
abbrev pub console_offset : ℕ → Option ℕ
console_offset addr = if nat_le (page_address Con) addr && nat_lt addr (page_address Con + PAGE_LENGTH) then Some (addr - page_address Con) else None

-- a load of a register; where there is none at this offset and of this width, 0
abbrev pub load_register : DevicePage → Option MmioRegister → ℕ
load_register d None = 0
load_register d (Some r) = load_of d r

abbrev pub store_register : Option MmioRegister → ℕ → DevicePage → DevicePage
store_register None value d = d
store_register (Some r) value d = store_of r value d

-- the configuration is reached in widths of 1, 2 and 4 bytes, aligned to the width; another access loads 0
abbrev pub load_config : Devices → ℕ → ℕ → ℕ
load_config s at width = if at % width == 0 then little_number width (config_bytes s Con at width) else 0

abbrev pub store_config : Devices → ℕ → ℕ → ℕ → Devices
store_config s at width value = if at % width == 0 then write_configuration s Con at (little_bytes width value) else s

-- a load and a store at an offset of the console's page: registers lie below the configuration
abbrev pub load_at : Raw MmioRegisters → ℕ → Option ℕ → ℕ
load_at raw width None = 0
load_at raw width (Some off) =
    if nat_lt off CONFIGURATION then load_register (console_page raw) (register_at off width) else load_config raw.devices (off - CONFIGURATION) width

abbrev pub store_at : Raw MmioRegisters → ℕ → ℕ → Option ℕ → Raw MmioRegisters
store_at raw width value None = raw
store_at raw width value (Some off) =
    if nat_lt off CONFIGURATION
    then with_console_page raw (store_register (register_at off width) value (console_page raw))
    else record raw { devices = store_config raw.devices (off - CONFIGURATION) width value }

-- the table of the bus: what an access answers and leaves. This bus has loads and stores; guest memory's own accesses go
-- past it, and it has no configuration space and no channel
abbrev pub mmio_access : AccessValue → Raw MmioRegisters → Answer × Raw MmioRegisters
mmio_access (Load addr width) raw = (answer.Word (load_at raw width (console_offset addr)), raw)
mmio_access (Store addr width value) raw = (answer.Done, store_at raw width value (console_offset addr))
mmio_access (Put addr bytes) raw = (answer.NoSuch, raw)
mmio_access (Get addr count) raw = (answer.NoSuch, raw)
mmio_access (Zero addr count) raw = (answer.NoSuch, raw)
mmio_access (Swap addr value) raw = (answer.NoSuch, raw)
mmio_access (CfgLoad func off width) raw = (answer.NoSuch, raw)
mmio_access (CfgStore func off width value) raw = (answer.NoSuch, raw)
mmio_access (Ssch id addr) raw = (answer.NoSuch, raw)
mmio_access (Tsch id addr) raw = (answer.NoSuch, raw)
mmio_access (Stsch id addr) raw = (answer.NoSuch, raw)
mmio_access (Msch id addr) raw = (answer.NoSuch, raw)
mmio_access (Csch id) raw = (answer.NoSuch, raw)
mmio_access (TurnOf id) raw = (answer.NoSuch, raw)
mmio_access (Diag func id value cookie) raw = (answer.NoSuch, raw)

-- a signal sets its bit of InterruptStatus in the page of the device (VIRTIO 1.2, 4.2.2); a device that is not there has
-- no page
abbrev pub signal : ℕ → Dev → MmioRegisters → MmioRegisters
signal bit Blk regs = regs
signal bit Net regs = regs
signal bit Con regs = record regs { con = with_interrupt bit regs.con }

-- the MMIO bus
abbrev pub mmio_table : BusTable MmioRegisters
mmio_table =
    record {
      start = new_registers;
      access = mmio_access;
      queue_signal = λ dev n regs mem. (signal USED_BUFFER dev regs, mem);
      config_signal = λ dev regs mem. (signal CONFIGURATION_CHANGE dev regs, mem);
    }
