use Rattle.std.specs.Prelude.{ℕ, ◌+◌, ◌-◌, ◌*◌, ◌%◌, ◌^◌, ◌==◌, List, [], ◌∷◌, ◌++◌, length, take, drop, true, false, Option, Some, None, nat_lt, if◌then◌else◌}
use Rattle.byteorder.specs.Endian.{little_bytes}
use Rattle.vt_types.specs.Access.{AccessValue, Put}
use Rattle.vt_types.specs.Operation.{PostedBuffer}
use Rattle.port_access.specs.Accesses.{data_puts}
use Rattle.vq_common.specs.declared.descriptor.Descriptor.{Descriptor}
use Rattle.vq_common.specs.Descriptor.{descriptor_bytes, flags_of}
use Rattle.vt_layout.specs.QueueBlock.{driver_area, table_address, data_address}
use Rattle.vq_common.specs.Queue.{DriverQueue, slots_of, with_buffer}
use Rattle.vq_posted.specs.Free.{free_descriptors, head_of, numbers}

-- the descriptors that a buffer gets: the lowest free ones, rising, the head first
abbrev pub descriptors_for : DriverQueue → PostedBuffer → List ℕ
descriptors_for q b = take (slots_of b) (free_descriptors q.cfg.size q.unreaped)

-- the descriptor of a piece: WRITE where it isn't readable, and NEXT with the location that follows, where one does
abbrev pub descriptor_of : ℕ → ℕ → ℕ → Option ℕ → Descriptor
descriptor_of addr readable len None = record { addr = addr; len = len; flags = flags_of false (readable == 0); next = 0 }
descriptor_of addr readable len (Some next) = record { addr = addr; len = len; flags = flags_of true (readable == 0); next = next }

-- descriptors of pieces that lie one after the other from an address on; the first `readable` of them are readable, and
-- each but the last names the location that follows
abbrev pub descriptors_of : ℕ → ℕ → List ℕ → List ℕ → List Descriptor
descriptors_of addr readable [] locations = []
descriptors_of addr readable (len ∷ []) locations = descriptor_of addr readable len None ∷ []
descriptors_of addr readable (len ∷ more) locations = descriptor_of addr readable len (Some (head_of locations)) ∷ descriptors_of (addr + len) (readable - 1) more (drop 1 locations)

-- the location that follows a location of a table of `count` locations, where one does
abbrev pub location_after : ℕ → ℕ → Option ℕ
location_after n count = if nat_lt (n + 1) count then Some (n + 1) else None

-- a put of each descriptor at its location of a table
abbrev pub puts_of : ℕ → List ℕ → List Descriptor → List AccessValue
puts_of table locations [] = []
puts_of table locations (d ∷ ds) = Put (table + 16 * head_of locations) (descriptor_bytes d) ∷ puts_of table (drop 1 locations) ds

-- descriptors as the bytes of a table
abbrev pub table_bytes : List Descriptor → List ℕ
table_bytes [] = []
table_bytes (d ∷ ds) = descriptor_bytes d ++ table_bytes ds

-- the puts of a buffer's own descriptors
abbrev pub direct_puts : DriverQueue → PostedBuffer → List ℕ → List AccessValue
direct_puts q b locations =
    puts_of q.base locations (descriptors_of (data_address q.base (head_of locations)) b.readable_pieces b.lengths (drop 1 locations))

-- the puts of a buffer's table and of the descriptor that names it
abbrev pub indirect_puts : DriverQueue → PostedBuffer → ℕ → List AccessValue
indirect_puts q b head =
    Put (table_address q.base head) (table_bytes (descriptors_of (data_address q.base head) b.readable_pieces b.lengths (numbers 1 (length b.lengths))))
    ∷ Put (q.base + 16 * head) (descriptor_bytes (record { addr = table_address q.base head; len = 16 * length b.lengths; flags = 4; next = 0 }))
    ∷ []

-- the puts that make a buffer available: the ring entry, and then the index (VIRTIO 1.2, 2.7.13)
abbrev pub available_puts : DriverQueue → ℕ → List AccessValue
available_puts q head =
    Put (driver_area q.base + (4 + 2 * (q.available % q.cfg.size))) (little_bytes 2 head)
    ∷ Put (driver_area q.base + 2) (little_bytes 2 ((q.available + 1) % 2 ^ 16))
    ∷ []

-- the puts of a buffer's descriptors
abbrev pub chain_puts : DriverQueue → PostedBuffer → List ℕ → List AccessValue
chain_puts q b locations = if b.indirect then indirect_puts q b (head_of locations) else direct_puts q b locations

-- the accesses of a post with these descriptors: the data, the descriptors, the ring entry, the index
abbrev pub post_puts : DriverQueue → PostedBuffer → List ℕ → List AccessValue
post_puts q b locations =
    data_puts (data_address q.base (head_of locations)) b.readable
    ++ chain_puts q b locations
    ++ available_puts q (head_of locations)

abbrev pub split_post_accesses : DriverQueue → PostedBuffer → List AccessValue
split_post_accesses q b = post_puts q b (descriptors_for q b)

-- the record once a buffer is posted
abbrev pub split_posted : DriverQueue → PostedBuffer → DriverQueue
split_posted q b =
    record q {
      available = (q.available + 1) % 2 ^ 16;
      unreaped = with_buffer (record { tag = b.tag; id = head_of (descriptors_for q b); descriptors = descriptors_for q b; slots = slots_of b; readable = length b.readable }) q.unreaped;
    }
