use Rattle.std.specs.Prelude.{ℕ, Bool, if◌then◌else◌}
use Rattle.vt_types.specs.declared.device.Dev.{Dev}
use Rattle.vt_types.specs.declared.device.Dev.TheVariants.{Blk, Net, Con}

-- the features that a device offers, beside INDIRECT_DESC, EVENT_IDX and VERSION_1: the block device SEG_MAX, BLK_SIZE,
-- FLUSH, CONFIG_WCE, DISCARD and WRITE_ZEROES, and RO on a read-only disk; the network device MAC and STATUS; the console
-- SIZE and EMERG_WRITE (VIRTIO 1.2, 5.1.3, 5.2.3, 5.3.3 and 6)
abbrev pub features_of : Dev → Bool → ℕ
features_of Blk read_only = if read_only then 0x130006a64 else 0x130006a44
features_of Net read_only = 0x130010020
features_of Con read_only = 0x130000005
