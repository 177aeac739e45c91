use Rattle.std.specs.Prelude.{ℕ, ◌^◌}

-- the features that every device may have (VIRTIO 1.2, 6)
abbrev pub INDIRECT_DESC : ℕ
INDIRECT_DESC = 2 ^ 28

abbrev pub EVENT_IDX : ℕ
EVENT_IDX = 2 ^ 29

abbrev pub VERSION_1 : ℕ
VERSION_1 = 2 ^ 32

abbrev pub RING_PACKED : ℕ
RING_PACKED = 2 ^ 34

-- those of the block device (5.2.3)
abbrev pub BLK_SEG_MAX : ℕ
BLK_SEG_MAX = 2 ^ 2

abbrev pub BLK_RO : ℕ
BLK_RO = 2 ^ 5

abbrev pub BLK_SIZE : ℕ
BLK_SIZE = 2 ^ 6

abbrev pub BLK_FLUSH : ℕ
BLK_FLUSH = 2 ^ 9

abbrev pub BLK_CONFIG_WCE : ℕ
BLK_CONFIG_WCE = 2 ^ 11

abbrev pub BLK_DISCARD : ℕ
BLK_DISCARD = 2 ^ 13

abbrev pub BLK_WRITE_ZEROES : ℕ
BLK_WRITE_ZEROES = 2 ^ 14

-- those of the network device (5.1.3)
abbrev pub NET_MAC : ℕ
NET_MAC = 2 ^ 5

abbrev pub NET_STATUS : ℕ
NET_STATUS = 2 ^ 16

-- those of the console (5.3.3)
abbrev pub CON_SIZE : ℕ
CON_SIZE = 2 ^ 0

abbrev pub CON_EMERG_WRITE : ℕ
CON_EMERG_WRITE = 2 ^ 2
