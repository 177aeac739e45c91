use Rattle.std.specs.Prelude.{◌≡◌, ℕ, ◌+◌, List, length}
use Rattle.vq_common.specs.declared.chain.Piece.{Piece}
use Rattle.vq_common.specs.Piece.{readable, room, scatter}
use Rattle.dev_console.specs.Console.{ConsoleState, ConsoleAnswer, console_answer}

-- the answer to a chain: its readable bytes and its room decide, whichever way it is cut
abbrev pub chain_answer : ℕ → List ℕ → List Piece → ConsoleState → ConsoleAnswer
chain_answer queue mem pieces s = console_answer queue (readable mem pieces) (room pieces) s.waiting s.console

-- an answer is given: its bytes are in the writable pieces, their number is told, and each byte that joins the console
-- takes a spare one
pub record Serves (answer : ConsoleAnswer) (pieces : List Piece) (mem mem2 : List ℕ) (old new : ConsoleState) (count : ℕ) : Type 0 where
  pub memory : mem2 ≡ scatter mem pieces answer.written
  pub number : count ≡ length answer.written
  pub waiting : new.waiting ≡ answer.waiting
  pub console : new.console ≡ answer.console
  pub spare : new.spare + length new.console ≡ old.spare + length old.console
