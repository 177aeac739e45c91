use Rattle.std.specs.Prelude.{ℕ, ◌+◌, ◌*◌}
use Rattle.vt_types.specs.declared.device.Dev.{Dev}
use Rattle.vt_types.specs.declared.device.Dev.TheVariants.{Blk, Net, Con}

-- a device's number (VIRTIO 1.2, 5)
abbrev pub device_id : Dev → ℕ
device_id Blk = 2
device_id Net = 1
device_id Con = 3

-- how many queues a device has: requests; receive and transmit; receive and transmit
abbrev pub queue_count : Dev → ℕ
queue_count Blk = 1
queue_count Net = 2
queue_count Con = 2

-- how many bytes a device's configuration has: up to write_zeroes_may_unmap and its padding; mac and status; cols,
-- rows, max_nr_ports and emerg_wr
abbrev pub config_length : Dev → ℕ
config_length Blk = 60
config_length Net = 8
config_length Con = 12

-- the columns and the rows of a console at the start (our own)
abbrev pub START_COLS : ℕ
START_COLS = 80

abbrev pub START_ROWS : ℕ
START_ROWS = 25

-- the ports of a console (VIRTIO 1.2, 5.3.4; without MULTIPORT there is one)
abbrev pub CONSOLE_PORTS : ℕ
CONSOLE_PORTS = 1

-- the greatest size of a queue, in descriptors (our own: VIRTIO 1.2, 2.7, lets a queue have up to 32768)
abbrev pub GREATEST_QUEUE : ℕ
GREATEST_QUEUE = 256

-- the bytes of a queue's block in guest memory (our own)
abbrev pub BLOCK_LEN : ℕ
BLOCK_LEN = 0x1000000

-- how many blocks there are: one for each queue of the three devices (our own)
abbrev pub MOST_BLOCKS : ℕ
MOST_BLOCKS = 5

-- the number of the block of a device's first queue: the blocks are those of the block device's queue, of the network
-- device's two and of the console's two (our own)
abbrev pub first_block : Dev → ℕ
first_block Blk = 0
first_block Net = 1
first_block Con = 3

-- the address of a queue's block in guest memory: blocks lie one after the other, and one length lies before the first
-- (our own)
abbrev pub queue_block : Dev → ℕ → ℕ
queue_block dev queue = (first_block dev + queue + 1) * BLOCK_LEN
