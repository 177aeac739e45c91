use Rattle.std.specs.Prelude.{◌≡◌, ℕ, ◌≤◌, List, Bool, true, false, IsTrue, Option, Some, None, if◌then◌else◌}
use Rattle.arrayvec.specs.ArrayVec.{ArrayVec}
use Rattle.vq_common.specs.declared.chain.Piece.{Piece}
use Rattle.vq_common.specs.declared.chain.Chain.{Chain}
use Rattle.vq_common.specs.declared.chain.RingCfg.{RingCfg}
use Rattle.vq_common.specs.declared.chain.Take.{Take}
use Rattle.vq_common.specs.declared.chain.Take.TheVariants as take
use Rattle.vq_common.specs.Piece.{keeps_rules}
use Rattle.vq_common.specs.Queue.{DeviceQueue, IsDeviceQueue}

-- a chain as contracts see it: its id, the locations that it takes of the ring, and its pieces in order
pub record ChainValue : Type 0 where
  pub id : ℕ
  pub slots : ℕ
  pub pieces : List Piece

-- the value of a chain
abbrev pub chain_value : Chain → ChainValue
chain_value c = record { id = c.id; slots = c.slots; pieces = c.pieces.items }

-- what a ring shows next: nothing, something malformed, or a chain
pub data Walked : Type 0 where
  Empty : Walked
  Bad : Walked
  Front : ChainValue → Walked

-- the same of what `take` answers
abbrev pub walked : Take → Walked
walked take.Empty = Empty
walked take.Bad = Bad
walked (take.Front c) = Front (chain_value c)

-- what is shown where a chain was found, or was not
abbrev pub shown_if : Bool → Chain → Walked
shown_if true c = Front (chain_value c)
shown_if false c = Bad

-- what is shown of a chain with these pieces: they keep the rules, or the chain is malformed
abbrev pub chain_if_valid : ℕ → ℕ → ℕ → Option (List Piece) → Walked
chain_if_valid memory id slots None = Bad
chain_if_valid memory id slots (Some ps) = if keeps_rules memory ps then Front (record { id = id; slots = slots; pieces = ps }) else Bad

-- the list of pieces in an answer
abbrev pub pieces_in : Option (ArrayVec Piece) → Option (List Piece)
pieces_in None = None
pieces_in (Some v) = Some v.items

-- the record after a take
abbrev pub after_take : (DeviceQueue → ChainValue → DeviceQueue) → DeviceQueue → Walked → DeviceQueue
after_take taken q Empty = q
after_take taken q Bad = q
after_take taken q (Front c) = taken q c

-- a take answers the walk, and takes the chain where there is one
pub record TakesBy (walk : List ℕ → DeviceQueue → Walked) (taken : DeviceQueue → ChainValue → DeviceQueue) (mem : List ℕ) (old : DeviceQueue) (answer : Walked) (new : DeviceQueue) : Type 0 where
  pub shows : answer ≡ walk mem old
  pub record_after : new ≡ after_take taken old answer

-- the record before the last take comes back
abbrev pub UndoesTake : (RingCfg → ℕ) → (DeviceQueue → ChainValue → DeviceQueue) → DeviceQueue → ChainValue → DeviceQueue → Type 0
UndoesTake positions taken old c new = (before : DeviceQueue) → IsDeviceQueue positions before → old ≡ taken before c → new ≡ before

-- what is known of a chain that the walk shows
pub record IsShown (areas_inside : ℕ → RingCfg → Bool) (memory : ℕ) (q : DeviceQueue) (c : ChainValue) : Type 0 where
  pub rules : IsTrue (keeps_rules memory c.pieces)
  pub slots : c.slots ≤ q.cfg.size
  pub areas : IsTrue (areas_inside memory q.cfg)
