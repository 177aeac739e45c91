use Rattle.std.specs.Prelude.{ℕ, ◌+◌, ◌*◌, ◌%◌, ◌^◌, ◌==◌, drop, Bool, Option, None, if◌then◌else◌}
use Rattle.byteorder.specs.Endian.{little_number, little_bytes}
use Rattle.vt_types.specs.Access.{AccessValue, Get, Put}
use Rattle.vt_types.specs.Program.{Program, Do, Mark, End}
use Rattle.port_access.specs.Accesses.{bytes_or_zeros, mark_unless}
use Rattle.vt_layout.specs.QueueBlock.{driver_area, device_area}
use Rattle.vq_common.specs.Queue.{DriverQueue, Unreaped, ReapedValue, unreaped_with, without}
use Rattle.vq_posted.specs.Reap.{reap_named}

-- the record once a buffer is reaped
abbrev pub split_reaped : DriverQueue → Unreaped → DriverQueue
split_reaped q u = record q { used = (q.used + 1) % 2 ^ 16; unreaped = without u.id q.unreaped }

-- the driver asks for the next signal by used_event, the next used index (VIRTIO 1.2, 2.7.7)
abbrev pub used_event_put : DriverQueue → AccessValue
used_event_put q = Put (driver_area q.base + (4 + 2 * q.cfg.size)) (little_bytes 2 q.used)

-- the buffer that a used element names, where this is an unreaped one with no more written bytes than a buffer may
-- have
abbrev pub reap_element : DriverQueue → ℕ → Option Unreaped → Program (Option ReapedValue × DriverQueue)
reap_element q len o = reap_named split_reaped used_event_put q len o

-- reaping: the used index is got, and where it is not the next one of the record, the used element (VIRTIO 1.2, 2.7.14);
-- without EVENT_IDX the first get is the marked access
abbrev pub split_reap_program : DriverQueue → Program (Option ReapedValue × DriverQueue)
split_reap_program q =
    Do (Get (device_area q.base + 2) 2) (λ _ idx.
    if little_number 2 (bytes_or_zeros 2 idx) == q.used
    then Mark (End (None, q))
    else mark_unless q.cfg.event_idx (Do (Get (device_area q.base + (4 + 8 * (q.used % q.cfg.size))) 8) (λ _ element.
    reap_element q (little_number 4 (drop 4 (bytes_or_zeros 8 element))) (unreaped_with (little_number 4 (bytes_or_zeros 8 element)) q.unreaped))))

-- arming and disarming: the flag VIRTQ_AVAIL_F_NO_INTERRUPT (VIRTIO 1.2, 2.7.7)
abbrev pub split_signals_program : DriverQueue → Bool → Program DriverQueue
split_signals_program q on = Do (Put (driver_area q.base) (little_bytes 2 (if on then 0 else 1))) (λ _ _. Mark (End q))
