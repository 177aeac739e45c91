use Rattle.std.specs.Prelude.{ℕ, ◌-◌, ◌==◌, List, [], ◌++◌, take, drop, length, if◌then◌else◌}

-- a console: the input that waits, the bytes that were written, and how many more are spare
pub record ConsoleState : Type 0 where
  pub waiting : List ℕ
  pub console : List ℕ
  pub spare : ℕ

-- the answer to a buffer: the bytes written into it, and what waits and what the console has then
pub record ConsoleAnswer : Type 0 where
  pub written : List ℕ
  pub waiting : List ℕ
  pub console : List ℕ

-- a buffer of the receive queue takes the first waiting bytes, as many as it has room for (VIRTIO 1.2, 5.3.6)
abbrev pub receive_answer : ℕ → List ℕ → List ℕ → ConsoleAnswer
receive_answer room waiting console = record { written = take room waiting; waiting = drop room waiting; console = console }

-- of a buffer of the transmit queue the readable bytes join the console bytes (VIRTIO 1.2, 5.3.6)
abbrev pub transmit_answer : List ℕ → List ℕ → List ℕ → ConsoleAnswer
transmit_answer readable waiting console = record { written = []; waiting = waiting; console = console ++ readable }

-- nothing comes of a queue that a console doesn't have
abbrev pub no_answer : List ℕ → List ℕ → ConsoleAnswer
no_answer waiting console = record { written = []; waiting = waiting; console = console }

-- the answer on a queue: 0 is the receive queue, 1 the transmit queue (VIRTIO 1.2, 5.3.2)
abbrev pub console_answer : ℕ → List ℕ → ℕ → List ℕ → List ℕ → ConsoleAnswer
console_answer queue readable room waiting console =
    if queue == 0
    then receive_answer room waiting console
    else (if queue == 1
    then transmit_answer readable waiting console
    else no_answer waiting console)

-- the greatest number of waiting bytes (our own)
abbrev pub MOST_WAITING : ℕ
MOST_WAITING = 4096

-- the waiting bytes once these have come: what would pass the greatest number is dropped
abbrev pub with_input : List ℕ → List ℕ → List ℕ
with_input waiting bytes = waiting ++ take (MOST_WAITING - length waiting) bytes
