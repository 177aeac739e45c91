-- The end of a reap, for both kinds of ring. `reaped` is the record once a buffer is reaped, and `ask` the put by which the
-- driver then asks for the next signal.
use Rattle.std.specs.Prelude.{ℕ, ◌+◌, ◌==◌, nat_le, [], true, false, Option, Some, None, if◌then◌else◌}
use Rattle.vt_types.specs.Access.{AccessValue, Get}
use Rattle.vt_types.specs.Limits.{LONGEST_BUFFER}
use Rattle.vt_types.specs.Program.{Program, Do, Mark, End}
use Rattle.port_access.specs.Accesses.{bytes_or_zeros, mark_unless}
use Rattle.vt_layout.specs.QueueBlock.{data_address}
use Rattle.vq_common.specs.Queue.{DriverQueue, Unreaped, ReapedValue}

-- with EVENT_IDX the next signal is asked for, and this put is the marked access
abbrev pub ask_program : (DriverQueue → AccessValue) → DriverQueue → Program (Unit {0})
ask_program ask q = if q.cfg.event_idx then Do (ask q) (λ _ _. Mark (End tt)) else End tt

-- the end of a reap: the next signal is asked for where it is due
abbrev pub reap_end : (DriverQueue → Unreaped → DriverQueue) → (DriverQueue → AccessValue) → DriverQueue → Unreaped → ReapedValue → Program (Option ReapedValue × DriverQueue)
reap_end reaped ask q u r =
    let after = reaped q u in
    if after.cfg.event_idx then Do (ask after) (λ _ _. Mark (End (Some r, after))) else End (Some r, after)

-- the written bytes are got where there are any
abbrev pub reap_bytes : (DriverQueue → Unreaped → DriverQueue) → (DriverQueue → AccessValue) → DriverQueue → Unreaped → ℕ → Program (Option ReapedValue × DriverQueue)
reap_bytes reaped ask q u len =
    if len == 0
    then reap_end reaped ask q u (record { tag = u.tag; len = 0; bytes = [] })
    else Do (Get (data_address q.base u.id + u.readable) len) (λ _ bytes. reap_end reaped ask q u (record { tag = u.tag; len = len; bytes = bytes_or_zeros len bytes }))

-- nothing counts as used: the last get is the marked access where no earlier one is
abbrev pub reap_nothing : DriverQueue → Program (Option ReapedValue × DriverQueue)
reap_nothing q = mark_unless (if q.cfg.event_idx then false else true) (End (None, q))

-- what the device says is used: an unreaped buffer with no more written bytes than a buffer may have, else nothing
abbrev pub reap_named : (DriverQueue → Unreaped → DriverQueue) → (DriverQueue → AccessValue) → DriverQueue → ℕ → Option Unreaped → Program (Option ReapedValue × DriverQueue)
reap_named reaped ask q len None = reap_nothing q
reap_named reaped ask q len (Some u) = if nat_le len LONGEST_BUFFER then reap_bytes reaped ask q u len else reap_nothing q
