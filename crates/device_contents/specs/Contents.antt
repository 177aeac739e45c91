use Rattle.std.specs.Prelude.{ℕ, List, [], ◌∷◌, ◌++◌, Bool, true}
use Rattle.vt_types.specs.Device.{START_COLS, START_ROWS}
use Rattle.vt_types.specs.declared.operation.Event.{Event}
use Rattle.vt_types.specs.declared.operation.Event.TheVariants as event
use Rattle.dev_status.specs.Status.{StatusState}
use Rattle.dev_console.specs.Console.{ConsoleAnswer, with_input}

-- the block device: its capacity in sectors, and its writeback byte
pub record BlockContent : Type 0 where
  pub capacity : ℕ
  pub writeback : ℕ

-- the network device: whether the link is up, the frames that wait, and the frames that were sent
pub record NetworkContent : Type 0 where
  pub up : Bool
  pub waiting : List (List ℕ)
  pub sent : List (List ℕ)

-- the console: its size in characters, the input that waits, and its bytes
pub record ConsoleContent : Type 0 where
  pub cols : ℕ
  pub rows : ℕ
  pub waiting : List ℕ
  pub console : List ℕ

-- what the devices hold, in both halves
pub record Contents : Type 0 where
  pub block : BlockContent
  pub network : NetworkContent
  pub console : ConsoleContent

-- at the start. The block device is not there yet: nothing reads its capacity
abbrev pub new_contents : Contents
new_contents =
    record {
      block = record { capacity = 0; writeback = 1 };
      network = record { up = true; waiting = []; sent = [] };
      console = record { cols = START_COLS; rows = START_ROWS; waiting = []; console = [] };
    }

-- a change of what the console holds
abbrev pub with_console : (ConsoleContent → ConsoleContent) → Contents → Contents
with_console change c = record c { console = change c.console }

-- keys were pressed
abbrev pub with_keys : List ℕ → ConsoleContent → ConsoleContent
with_keys bytes c = record c { waiting = with_input c.waiting bytes }

-- it has another size
abbrev pub with_size : ℕ → ℕ → ConsoleContent → ConsoleContent
with_size cols rows c = record c { cols = cols; rows = rows }

-- a buffer was answered
abbrev pub with_answer : ConsoleAnswer → ConsoleContent → ConsoleContent
with_answer a c = record c { waiting = a.waiting; console = a.console }

-- a byte was written to emerg_wr
abbrev pub with_emergency : ℕ → ConsoleContent → ConsoleContent
with_emergency byte c = record c { console = c.console ++ byte ∷ [] }

-- what an event that serves no buffer makes of them. Of the device whose event it is this may read the status and the accepted
-- features; the devices that are there read neither
abbrev pub content_after : Event → StatusState → Contents → Contents
content_after (event.Serve dev n) s c = c
content_after (event.Frame bytes) s c = c
content_after (event.Key bytes) s c = with_console (with_keys bytes) c
content_after (event.Resize sectors) s c = c
content_after (event.Link up) s c = c
content_after (event.Consize cols rows) s c = with_console (with_size cols rows) c
content_after (event.Diskfail call) s c = c
