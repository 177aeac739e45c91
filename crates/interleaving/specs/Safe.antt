use Rattle.std.specs.Prelude.{◌≡◌, ℕ, ◌+◌, List, length}
use Rattle.vt_types.specs.declared.operation.EventAt.{EventAt}
use Rattle.vt_types.specs.Operation.{Operation}
use Rattle.vt_types.specs.Program.{Program, Do, Mark, End}
use Rattle.vt_types.specs.Reply.{ReplyValue}
use Rattle.abstract_devices.specs.World.{World}
use Rattle.abstract_devices.specs.Operate.{happen_all, operate}
use Rattle.dev_core.specs.Bus.{Raw, raw_access}
use Rattle.vt_machine.specs.Trace.{raw_events}
use Rattle.drv_core.specs.Driver.{DriverRecord, Ended}
use Rattle.interleaving.specs.BusDefinition.{BusDefinition}

-- What is known in the middle of an operation: how many events may still come, the world without the operation, the world with
-- it where its last mark was, and the raw machine. Before the first mark the operation counts as done at its start, so that one
-- that is refused and marks nothing is no case of its own.
abbrev pub Knows : Type 0 → Type 1
Knows R = ℕ → World → World → Raw R → Type 0

-- and at the end of a program, of its result and the reply of the operation as well
abbrev pub Ending : Type 0 → Type 0 → Type 1
Ending R X = X → ℕ → World → World → ReplyValue → Raw R → Type 0

-- between two operations: the world, the raw machine and the driver's record
abbrev pub Relation : Type 0 → Type 1
Relation R = World → Raw R → DriverRecord → Type 0

-- it holds whatever events come now, of those that may
abbrev pub Whenever : {R : Type 0} → BusDefinition R → Knows R → Knows R
Whenever bus holds n w v raw =
    (events : List EventAt) (left : ℕ) → n ≡ length events + left → holds left (happen_all w events) (happen_all v events) (raw_events bus.table raw events)

-- the program runs, with whatever events before each access, to an end of which `ending` holds; a mark places the operation
-- on the world as it is
abbrev pub Runs : {R X : Type 0} → BusDefinition R → Operation → Ending R X → Program X → ℕ → World → World → ReplyValue → Raw R → Type 0
Runs bus op ending (Do a rest) n w v reply raw =
    Whenever bus (λ n w v raw. let did = raw_access bus.table a raw in Runs bus op ending (rest did.0 did.1) n w v reply did.2) n w v raw
Runs bus op ending (Mark rest) n w v reply raw =
    let now = operate bus.kind w op in Runs bus op ending rest n w now.world now.reply raw
Runs bus op ending (End x) n w v reply raw = ending x n w v reply raw

-- the same as a record
pub record Safe {R X : Type 0} (bus : BusDefinition R) (op : Operation) (ending : Ending R X) (program : Program X) (n : ℕ) (w v : World) (reply : ReplyValue) (raw : Raw R) : Type 0 where
  pub runs : Runs bus op ending program n w v reply raw

-- the end of an operation: its reply, and the relation whatever events follow
pub record Ends {R : Type 0} (bus : BusDefinition R) (rel : Relation R) (e : Ended) (n : ℕ) (w v : World) (reply : ReplyValue) (raw : Raw R) : Type 0 where
  pub reply_is : reply ≡ e.reply
  pub related : Whenever bus (λ n w v raw. rel v raw e.known) n w v raw
