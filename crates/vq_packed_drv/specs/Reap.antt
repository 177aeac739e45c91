use Rattle.std.specs.Prelude.{◌+◌, ◌*◌, ◌++◌, Bool, Option, None, if◌then◌else◌}
use Rattle.byteorder.specs.Endian.{little_bytes}
use Rattle.vt_types.specs.Access.{AccessValue, Get, Put}
use Rattle.vt_types.specs.Program.{Program, Do, Mark, End}
use Rattle.port_access.specs.Accesses.{bytes_or_zeros, mark_unless}
use Rattle.vq_common.specs.declared.packed_descriptor.PackedDescriptor.{PackedDescriptor}
use Rattle.vq_common.specs.declared.position.Position.{Position}
use Rattle.vt_layout.specs.QueueBlock.{driver_area}
use Rattle.vq_common.specs.PackedDescriptor.{is_used, packed_descriptor_in}
use Rattle.vq_common.specs.Position.{position_after, event_word}
use Rattle.vq_common.specs.Queue.{DriverQueue, Unreaped, ReapedValue, unreaped_with, without}
use Rattle.vq_posted.specs.Reap.{reap_named}

-- the position of the next used descriptor
abbrev pub used_position : DriverQueue → Position
used_position q = record { location = q.used; wrap = q.used_wrap }

-- the record once a buffer is reaped
abbrev pub packed_reaped : DriverQueue → Unreaped → DriverQueue
packed_reaped q u =
    let after = position_after q.cfg.size (used_position q) u.slots in
    record q { used = after.location; used_wrap = after.wrap; unreaped = without u.id q.unreaped }

-- a signal is asked for at the next used position: its event word, and the flags for one position (VIRTIO 1.2, 2.8.14)
abbrev pub event_put : DriverQueue → AccessValue
event_put q = Put (driver_area q.base) (little_bytes 2 (event_word (used_position q)) ++ little_bytes 2 2)

-- the buffer that a used descriptor names, where this is an unreaped one with no more written bytes than a buffer may
-- have
abbrev pub reap_buffer : DriverQueue → PackedDescriptor → Program (Option ReapedValue × DriverQueue)
reap_buffer q d = reap_named packed_reaped event_put q d.len (unreaped_with d.id q.unreaped)

-- what the descriptor at the next used position leads to; without EVENT_IDX its get is the marked access
abbrev pub reap_by : DriverQueue → PackedDescriptor → Program (Option ReapedValue × DriverQueue)
reap_by q d = if is_used q.used_wrap d.flags then mark_unless q.cfg.event_idx (reap_buffer q d) else Mark (End (None, q))

-- reaping: the descriptor at the next used position is got (VIRTIO 1.2, 2.8.22)
abbrev pub packed_reap_program : DriverQueue → Program (Option ReapedValue × DriverQueue)
packed_reap_program q = Do (Get (q.base + 16 * q.used) 16) (λ _ got. reap_by q (packed_descriptor_in (bytes_or_zeros 16 got)))

-- arming and disarming: the flags of the driver area enable signals or disable them (VIRTIO 1.2, 2.8.14)
abbrev pub packed_signals_program : DriverQueue → Bool → Program DriverQueue
packed_signals_program q on = Do (Put (driver_area q.base + 2) (little_bytes 2 (if on then 0 else 1))) (λ _ _. Mark (End q))
