use Rattle.std.specs.Prelude.{ℕ, zero, suc, ◌+◌, ◌==◌, List, [], ◌∷◌, drop, Bool, true, false, Option, Some, None, if◌then◌else◌}
use Rattle.byteorder.specs.Endian.{little_number}
use Rattle.guest_mem.specs.Memory.{part}
use Rattle.dev_status.specs.Status.{has_bits}
use Rattle.vt_types.specs.Features.{BLK_FLUSH, BLK_CONFIG_WCE, BLK_DISCARD, BLK_WRITE_ZEROES}
use Rattle.dev_block.specs.declared.request.Header.{Header}
use Rattle.dev_block.specs.declared.request.RequestType.{RequestType}
use Rattle.dev_block.specs.declared.request.RequestType.TheVariants.{In, Out, Flush, GetId, Discard, WriteZeroes}
use Rattle.dev_block.specs.declared.request.Segment.{Segment}

-- the types of a request (VIRTIO 1.2, 5.2.6)
abbrev pub VIRTIO_BLK_T_IN : ℕ
VIRTIO_BLK_T_IN = 0

abbrev pub VIRTIO_BLK_T_OUT : ℕ
VIRTIO_BLK_T_OUT = 1

abbrev pub VIRTIO_BLK_T_FLUSH : ℕ
VIRTIO_BLK_T_FLUSH = 4

abbrev pub VIRTIO_BLK_T_GET_ID : ℕ
VIRTIO_BLK_T_GET_ID = 8

abbrev pub VIRTIO_BLK_T_DISCARD : ℕ
VIRTIO_BLK_T_DISCARD = 11

abbrev pub VIRTIO_BLK_T_WRITE_ZEROES : ℕ
VIRTIO_BLK_T_WRITE_ZEROES = 13

-- the one flag that a segment of write zeroes may have, which allows to unmap its sectors (5.2.6)
abbrev pub VIRTIO_BLK_WRITE_ZEROES_FLAG_UNMAP : ℕ
VIRTIO_BLK_WRITE_ZEROES_FLAG_UNMAP = 1

-- the cache mode: 0 is write-through, else written sectors last only once they are flushed. The driver sets it where
-- CONFIG_WCE was accepted; else it goes by FLUSH (5.2.5.2)
abbrev pub cache_mode : ℕ → ℕ → ℕ
cache_mode writeback accepted = if has_bits accepted BLK_CONFIG_WCE then writeback else if has_bits accepted BLK_FLUSH then 1 else 0

-- the header of a request, in its first 16 bytes: le32 type, le32 reserved (which is not looked at), le64 sector (5.2.6)
abbrev pub header_in : List ℕ → Header
header_in bytes = record { kind = little_number 4 bytes; sector = little_number 8 (drop 8 bytes) }

-- the header of the readable bytes
abbrev pub header_of : List ℕ → Header
header_of readable = header_in (part readable 0 16)

-- the type with a number, where there is one
abbrev pub type_of : ℕ → Option RequestType
type_of number =
    if number == VIRTIO_BLK_T_IN then Some In
    else if number == VIRTIO_BLK_T_OUT then Some Out
    else if number == VIRTIO_BLK_T_FLUSH then Some Flush
    else if number == VIRTIO_BLK_T_GET_ID then Some GetId
    else if number == VIRTIO_BLK_T_DISCARD then Some Discard
    else if number == VIRTIO_BLK_T_WRITE_ZEROES then Some WriteZeroes
    else None

-- three types want a feature of their own (5.2.6.2)
abbrev pub is_supported : RequestType → ℕ → Bool
is_supported In accepted = true
is_supported Out accepted = true
is_supported Flush accepted = has_bits accepted BLK_FLUSH
is_supported GetId accepted = true
is_supported Discard accepted = has_bits accepted BLK_DISCARD
is_supported WriteZeroes accepted = has_bits accepted BLK_WRITE_ZEROES

-- the types that change the disk
abbrev pub is_change : RequestType → Bool
is_change In = false
is_change Out = true
is_change Flush = false
is_change GetId = false
is_change Discard = true
is_change WriteZeroes = true

-- a segment of a discard or write zeroes request: le64 sector, le32 number of sectors, le32 flags (5.2.6)
abbrev pub segment_in : List ℕ → Segment
segment_in bytes = record { sector = little_number 8 bytes; count = little_number 4 (drop 8 bytes); flags = little_number 4 (drop 12 bytes) }

-- so many segments in bytes, from a location on
abbrev pub segments_at : ℕ → List ℕ → ℕ → List Segment
segments_at zero bytes at = []
segments_at (suc n) bytes at = segment_in (part bytes at 16) ∷ segments_at n bytes (at + 16)

-- the id of the device: `VT-DISK-0` and zeros, 20 bytes (5.2.6; the text is our own)
abbrev pub DEVICE_ID : List ℕ
DEVICE_ID = 86 ∷ 84 ∷ 45 ∷ 68 ∷ 73 ∷ 83 ∷ 75 ∷ 45 ∷ 48 ∷ 0 ∷ 0 ∷ 0 ∷ 0 ∷ 0 ∷ 0 ∷ 0 ∷ 0 ∷ 0 ∷ 0 ∷ 0 ∷ []
