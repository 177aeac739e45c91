use Rattle.std.specs.Prelude.{◌≡◌, ℕ, ◌+◌, ◌*◌, ◌<◌}
use Rattle.vt_types.specs.Device.{BLOCK_LEN, MOST_BLOCKS}
use Rattle.vt_types.specs.Limits.{LONGEST_BUFFER}

-- the memory map of a driver's queue block, which begins at `base` (our own)

-- the descriptors, the driver area and the device area of a block, with what lies between them
unfoldable pub QUEUE_AREAS : ℕ
QUEUE_AREAS = 40960

-- a queue block begins at a multiple of its length: one for each of the queues
pub record IsQueueBlock (base : ℕ) : Type 0 where
  pub number : ℕ
  pub known : number < MOST_BLOCKS
  pub location : base ≡ (number + 1) * BLOCK_LEN

-- from a block to its driver area, to its device area, to its indirect tables and to its data
abbrev pub DRIVER_AREA : ℕ
DRIVER_AREA = 0x4000

abbrev pub DEVICE_AREA : ℕ
DEVICE_AREA = 0x6000

abbrev pub TABLES : ℕ
TABLES = 0x20000

abbrev pub DATA : ℕ
DATA = 0x400000

-- the bytes of an indirect table, a descriptor for each piece that a buffer may have, and those of the data of one buffer
abbrev pub TABLE_LEN : ℕ
TABLE_LEN = 128

abbrev pub DATA_LEN : ℕ
DATA_LEN = LONGEST_BUFFER

-- the driver area
abbrev pub driver_area : ℕ → ℕ
driver_area base = base + DRIVER_AREA

-- the device area
abbrev pub device_area : ℕ → ℕ
device_area base = base + DEVICE_AREA

-- the indirect table of the buffer whose head (packed: whose id) is this
abbrev pub table_address : ℕ → ℕ → ℕ
table_address base head = base + TABLES + TABLE_LEN * head

-- the data of that buffer
abbrev pub data_address : ℕ → ℕ → ℕ
data_address base head = base + DATA + DATA_LEN * head
