use Rattle.std.specs.Prelude.{ℕ, ◌+◌, ◌*◌, ◌%◌, ◌^◌, ◌==◌, ◌++◌, not, List, Bool, if◌then◌else◌}
use Rattle.std.specs.Int.RustNames.{bit_and}
use Rattle.byteorder.specs.Endian.{little_bytes}
use Rattle.guest_mem.specs.Memory.{le16_at, put_at}
use Rattle.vq_common.specs.Chain.{ChainValue}
use Rattle.vq_common.specs.Queue.{DeviceQueue, Given}

-- the next used index
abbrev pub next_used : DeviceQueue → ℕ
next_used q = (q.used + 1) % 2 ^ 16

-- the used element is written, and then the used index (VIRTIO 1.2, 2.7.8)
abbrev pub split_given_memory : List ℕ → DeviceQueue → ℕ → ℕ → List ℕ
split_given_memory mem q id len =
    put_at (put_at mem (q.cfg.device + (4 + 8 * (q.used % q.cfg.size))) (little_bytes 4 id ++ little_bytes 4 len)) (q.cfg.device + 2) (little_bytes 2 (next_used q))

-- whether a used buffer is to be signalled, by what the driver's area says once the index is written: without EVENT_IDX
-- unless the flag VIRTQ_AVAIL_F_NO_INTERRUPT stands, with it where the index before was used_event (VIRTIO 1.2, 2.7.7)
abbrev pub split_signals : List ℕ → DeviceQueue → Bool
split_signals mem q =
    if q.cfg.event_idx then le16_at mem (q.cfg.driver + (4 + 2 * q.cfg.size)) == q.used else not (bit_and (le16_at mem q.cfg.driver) 1 == 1)

-- giving a chain back
abbrev pub split_given : List ℕ → DeviceQueue → ChainValue → ℕ → Given
split_given mem q c len =
    record {
      memory = split_given_memory mem q c.id len;
      queue = record q { used = next_used q };
      signals = split_signals (split_given_memory mem q c.id len) q;
    }
