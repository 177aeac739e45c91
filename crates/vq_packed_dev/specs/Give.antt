use Rattle.std.specs.Prelude.{ℕ, ◌+◌, ◌*◌, ◌==◌, ◌&&◌, ◌||◌, ◌++◌, List, Bool, if◌then◌else◌}
use Rattle.byteorder.specs.Endian.{little_bytes}
use Rattle.guest_mem.specs.Memory.{le16_at, put_at}
use Rattle.vq_common.specs.declared.position.Position.{Position}
use Rattle.vq_common.specs.Chain.{ChainValue}
use Rattle.vq_common.specs.Position.{location_after, wrap_after, is_among, event_position}
use Rattle.vq_common.specs.Queue.{DeviceQueue, Given}

-- where the next used descriptor is written
abbrev pub used_position : DeviceQueue → Position
used_position q = record { location = q.used; wrap = q.used_wrap }

-- the flags of a used descriptor: WRITE where bytes were written, AVAIL and USED as the wrap counter (VIRTIO 1.2, 2.8.1
-- and 2.8.3)
abbrev pub used_flags : ℕ → Bool → ℕ
used_flags len wrap = (if len == 0 then 0 else 2) + (if wrap then 0x8080 else 0)

-- the length, the id and the flags of a used descriptor in its last eight bytes (VIRTIO 1.2, 2.8.13)
abbrev pub used_bytes : ℕ → ℕ → Bool → List ℕ
used_bytes id len wrap = little_bytes 4 len ++ (little_bytes 2 id ++ little_bytes 2 (used_flags len wrap))

-- they are written over the descriptor at the used position
abbrev pub packed_given_memory : List ℕ → DeviceQueue → ℕ → ℕ → List ℕ
packed_given_memory mem q id len = put_at mem (q.cfg.desc + (16 * q.used + 8)) (used_bytes id len q.used_wrap)

-- the positions that a used buffer takes have the one that the driver waits for (VIRTIO 1.2, 2.8.10 and 2.8.14)
abbrev pub is_awaited : List ℕ → DeviceQueue → ℕ → Bool
is_awaited mem q slots = is_among q.cfg.size slots (used_position q) (event_position (le16_at mem q.cfg.driver))

-- whether a used buffer of so many slots is to be signalled, by what the driver's area says once it is written: flags 0
-- enable signals, 1 disable them, and 2 with EVENT_IDX ask for the one at a position (VIRTIO 1.2, 2.8.10 and 2.8.14)
abbrev pub packed_signals : List ℕ → DeviceQueue → ℕ → Bool
packed_signals mem q slots =
    le16_at mem (q.cfg.driver + 2) == 0 || (le16_at mem (q.cfg.driver + 2) == 2 && q.cfg.event_idx && is_awaited mem q slots)

-- giving a chain back
abbrev pub packed_given : List ℕ → DeviceQueue → ChainValue → ℕ → Given
packed_given mem q c len =
    record {
      memory = packed_given_memory mem q c.id len;
      queue = record q { used = location_after q.cfg.size q.used c.slots; used_wrap = wrap_after q.cfg.size q.used q.used_wrap c.slots };
      signals = packed_signals (packed_given_memory mem q c.id len) q c.slots;
    }
