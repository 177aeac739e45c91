use Rattle.std.specs.Prelude.{ℕ, ◌+◌, ◌*◌, List, [], ◌∷◌, map, true, false, Option, Some, None, slice_get}
use Rattle.vt_types.specs.declared.device.Dev.{Dev}
use Rattle.vt_types.specs.declared.device.Dev.TheVariants.{Blk, Net, Con}
use Rattle.vt_layout.specs.declared.layout.Row.{Row}
use Rattle.vt_layout.specs.declared.register.MmioRegister.{MmioRegister}
use Rattle.vt_layout.specs.declared.register.MmioRegister.TheVariants.{MagicValue, Version, DeviceId, VendorId, DeviceFeatures, DeviceFeaturesSel, DriverFeatures, DriverFeaturesSel, QueueSel, QueueNumMax, QueueNum, QueueReady, QueueNotify, InterruptStatus, InterruptAck, Status, QueueDescLow, QueueDescHigh, QueueDriverLow, QueueDriverHigh, QueueDeviceLow, QueueDeviceHigh, ShmLenLow, ShmLenHigh, ConfigGeneration}
use Rattle.vt_layout.specs.Layout.{find_from}

-- the bytes of a page of registers (our own)
abbrev pub PAGE_LENGTH : ℕ
PAGE_LENGTH = 0x1000

-- the location of a device's page among the pages (our own)
abbrev pub page_number : Dev → ℕ
page_number Blk = 0
page_number Net = 1
page_number Con = 2

-- where a device's page of registers begins (our own)
abbrev pub page_address : Dev → ℕ
page_address dev = 0x40000000 + page_number dev * PAGE_LENGTH

-- the offset of a page at which the device's configuration begins (VIRTIO 1.2, 4.2.2)
abbrev pub CONFIGURATION : ℕ
CONFIGURATION = 0x100

-- registers of 32 bits that are only loaded, only stored, and both
abbrev pub loaded : ℕ → Row
loaded off = record { off = off; width = 4; load = true; store = false }

abbrev pub stored : ℕ → Row
stored off = record { off = off; width = 4; load = false; store = true }

abbrev pub both : ℕ → Row
both off = record { off = off; width = 4; load = true; store = true }

-- a register of an MMIO page: where it stands, and how it is reached (VIRTIO 1.2, 4.2.2)
abbrev pub row_of : MmioRegister → Row
row_of MagicValue = loaded 0x000
row_of Version = loaded 0x004
row_of DeviceId = loaded 0x008
row_of VendorId = loaded 0x00c
row_of DeviceFeatures = loaded 0x010
row_of DeviceFeaturesSel = stored 0x014
row_of DriverFeatures = stored 0x020
row_of DriverFeaturesSel = stored 0x024
row_of QueueSel = stored 0x030
row_of QueueNumMax = loaded 0x034
row_of QueueNum = stored 0x038
row_of QueueReady = both 0x044
row_of QueueNotify = stored 0x050
row_of InterruptStatus = loaded 0x060
row_of InterruptAck = stored 0x064
row_of Status = both 0x070
row_of QueueDescLow = stored 0x080
row_of QueueDescHigh = stored 0x084
row_of QueueDriverLow = stored 0x090
row_of QueueDriverHigh = stored 0x094
row_of QueueDeviceLow = stored 0x0a0
row_of QueueDeviceHigh = stored 0x0a4
row_of ShmLenLow = loaded 0x0b0
row_of ShmLenHigh = loaded 0x0b4
row_of ConfigGeneration = loaded 0x0fc

-- the registers in the order of their offsets
abbrev pub registers : List MmioRegister
registers =
    MagicValue
    ∷ Version
    ∷ DeviceId
    ∷ VendorId
    ∷ DeviceFeatures
    ∷ DeviceFeaturesSel
    ∷ DriverFeatures
    ∷ DriverFeaturesSel
    ∷ QueueSel
    ∷ QueueNumMax
    ∷ QueueNum
    ∷ QueueReady
    ∷ QueueNotify
    ∷ InterruptStatus
    ∷ InterruptAck
    ∷ Status
    ∷ QueueDescLow
    ∷ QueueDescHigh
    ∷ QueueDriverLow
    ∷ QueueDriverHigh
    ∷ QueueDeviceLow
    ∷ QueueDeviceHigh
    ∷ ShmLenLow
    ∷ ShmLenHigh
    ∷ ConfigGeneration
    ∷ []

-- the rows of an MMIO page
abbrev pub mmio_rows : List Row
mmio_rows = map row_of registers

-- the register of a row, counted from 0
abbrev pub register_of : ℕ → Option MmioRegister
register_of n = slice_get registers n

abbrev pub register_found : Option ℕ → Option MmioRegister
register_found None = None
register_found (Some n) = register_of n

-- the register at exactly this offset of a page, of exactly this width; None where there is none
abbrev pub register_at : ℕ → ℕ → Option MmioRegister
register_at off width = register_found (find_from 0 mmio_rows off width)

-- the address of a register of a device
abbrev pub register_address : Dev → MmioRegister → ℕ
register_address dev r = page_address dev + (row_of r).off

-- and of a byte of its configuration
abbrev pub config_address : Dev → ℕ → ℕ
config_address dev off = page_address dev + CONFIGURATION + off

-- the registers that MMIO and PCI share, in the order of `CommonRegs`
abbrev pub shared : List MmioRegister
shared =
    DeviceFeaturesSel
    ∷ DeviceFeatures
    ∷ DriverFeaturesSel
    ∷ DriverFeatures
    ∷ Status
    ∷ ConfigGeneration
    ∷ QueueSel
    ∷ QueueNum
    ∷ QueueReady
    ∷ QueueDescLow
    ∷ QueueDriverLow
    ∷ QueueDeviceLow
    ∷ []

-- their offsets
abbrev pub shared_offsets : List ℕ
shared_offsets = map (λ (r : MmioRegister). (row_of r).off) shared
