use Rattle.std.specs.Prelude.{◌≡◌, ℕ, ◌+◌, List, length, Option, Some, None}
use Rattle.vq_common.specs.declared.chain.Piece.{Piece}
use Rattle.vq_common.specs.Piece.{readable, room, scatter}
use Rattle.dev_net.specs.Network.{NetworkState, NetworkAnswer, net_answer}

-- the answer to a chain: its readable bytes and its room decide, whichever way it is cut
abbrev pub chain_answer : ℕ → List ℕ → List Piece → NetworkState → NetworkAnswer
chain_answer queue mem pieces s = net_answer queue (readable mem pieces) (room pieces) s.waiting s.sent

-- the memory once these bytes are written over the writable pieces; it stays where the buffer is not used
abbrev pub memory_after : List ℕ → List Piece → Option (List ℕ) → List ℕ
memory_after mem pieces None = mem
memory_after mem pieces (Some bytes) = scatter mem pieces bytes

-- how many bytes were written
abbrev pub written_count : Option (List ℕ) → Option ℕ
written_count None = None
written_count (Some bytes) = Some (length bytes)

-- an answer is given: its bytes are in the writable pieces, their number is told, and each frame that is sent takes a spare one
pub record Serves (answer : NetworkAnswer) (pieces : List Piece) (mem mem2 : List ℕ) (old new : NetworkState) (count : Option ℕ) : Type 0 where
  pub memory : mem2 ≡ memory_after mem pieces answer.written
  pub number : count ≡ written_count answer.written
  pub waiting : new.waiting ≡ answer.waiting
  pub sent : new.sent ≡ answer.sent
  pub spare : new.spare + length new.sent ≡ old.spare + length old.sent
