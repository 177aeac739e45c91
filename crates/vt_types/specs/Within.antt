use Rattle.std.specs.Prelude.{◌≡◌, ℕ, ◌≤◌, List, All, length, take, sum}
use Rattle.vt_types.specs.declared.operation.Event.{Event}
use Rattle.vt_types.specs.declared.operation.Event.TheVariants as event
use Rattle.vt_types.specs.declared.operation.EventAt.{EventAt}
use Rattle.vt_types.specs.Limits.{LONGEST_PIECE, MOST_PIECES, LONGEST_FRAME, LONGEST_KEYS}
use Rattle.vt_types.specs.Operation as op
use Rattle.vt_types.specs.Operation.{Operation, PostedBuffer, device_of_field}

-- the bounds that every event of a script keeps (our own)
abbrev pub IsEventWithin : Event → Type 0
IsEventWithin (event.Serve dev queue) = Unit {0}
IsEventWithin (event.Frame bytes) = (1 ≤ length bytes) × (length bytes ≤ LONGEST_FRAME)
IsEventWithin (event.Key bytes) = (1 ≤ length bytes) × (length bytes ≤ LONGEST_KEYS)
IsEventWithin (event.Resize sectors) = Unit {0}
IsEventWithin (event.Link up) = Unit {0}
IsEventWithin (event.Consize cols rows) = Unit {0}
IsEventWithin (event.Diskfail call) = (1 ≤ call) × (call ≤ 65535)

-- those of a piece's length
pub record IsPieceWithin (n : ℕ) : Type 0 where
  pub low : 1 ≤ n
  pub high : n ≤ LONGEST_PIECE

-- those of a buffer: some pieces, not too many, and the bytes of the readable ones
pub record IsBufferWithin (b : PostedBuffer) : Type 0 where
  pub some : 1 ≤ length b.lengths
  pub few : length b.lengths ≤ MOST_PIECES
  pub each : All IsPieceWithin b.lengths
  pub split : b.readable_pieces ≤ length b.lengths
  pub readable : length b.readable ≡ sum (take b.readable_pieces b.lengths)

-- those of an operation: a buffer's, and a field is one of the device's
abbrev pub IsOperationWithin : Operation → Type 0
IsOperationWithin (op.Probe dev) = Unit {0}
IsOperationWithin (op.Reset dev) = Unit {0}
IsOperationWithin (op.Features dev) = Unit {0}
IsOperationWithin (op.GetStatus dev) = Unit {0}
IsOperationWithin (op.Accept dev features) = Unit {0}
IsOperationWithin (op.SetStatus dev step) = Unit {0}
IsOperationWithin (op.SetQueue dev queue size) = Unit {0}
IsOperationWithin (op.Post dev queue buffer) = IsBufferWithin buffer
IsOperationWithin (op.Notify dev queue) = Unit {0}
IsOperationWithin (op.Reap dev queue) = Unit {0}
IsOperationWithin (op.Arm dev queue) = Unit {0}
IsOperationWithin (op.Disarm dev queue) = Unit {0}
IsOperationWithin (op.ReadConfig dev field) = device_of_field field ≡ dev
IsOperationWithin (op.WriteConfig dev field value) = device_of_field field ≡ dev
IsOperationWithin (op.IrqQueues dev) = Unit {0}
IsOperationWithin (op.IrqConfig dev) = Unit {0}

-- those of the events of an operation
abbrev pub AreEventsWithin : List EventAt → Type 0
AreEventsWithin events = All (λ e. IsEventWithin e.event) events
