-- The first waiting buffer is served: taken, answered and given back.
use Rattle.std.proofs.Common.{◌≡◌, ℕ, ◌≤◌, List, [], ◌∷◌, ◌++◌, length, map, subst, append-nil}
use Rattle.vq_common.specs.Chain.{ChainValue}
use Rattle.vq_common.specs.Piece.{scatter}
use Rattle.vq_common.specs.Queue.{DeviceQueue, DriverQueue, Given}
use Rattle.vq_split_dev.specs.Walk.{split_taken}
use Rattle.vq_split_dev.specs.Give.{split_given}
use Rattle.vq_split_pair.specs.Pair.{room_of}
use Rattle.abstract_devices.specs.World.{AbstractQueue}
use Rattle.abstract_devices.specs.Serve.{signals}
use Rattle.ring_part.specs.Held.{Held, UsedHeld, used_of, chain_of_held, available_of}
use Rattle.ring_part.specs.RingPart.{RingPart}
use Rattle.ring_part.proofs.Taken.{taken_part}
use Rattle.guest_mem.specs.Memory.{part as bytes_at, Apart}
use Rattle.vt_types.specs.Device.{BLOCK_LEN}
use Rattle.ring_part.specs.Locations.{IsFreeLocation}
use Rattle.ring_part.proofs.Free.{free_stays}
use Rattle.ring_part.proofs.Given.{given, signalled, given_length, given_elsewhere}

-- the abstract queue once its front buffer is used
abbrev pub used_front : AbstractQueue → Held → List Held → List ℕ → AbstractQueue
used_front a h rest written = record a { available = map available_of rest; used = a.used ++ used_of (record { held = h; written = written }) ∷ [] }

-- what the device leaves
abbrev pub served_ring : List ℕ → DeviceQueue → ChainValue → List ℕ → Given
served_ring mem d c written = split_given (scatter mem c.pieces written) (split_taken d c) c (length written)

-- the first that waits was served: the ring part, and whether it is signalled
pub record Served (mem : List ℕ) (a : AbstractQueue) (d : DeviceQueue) (q : DriverQueue) (used : List UsedHeld) (taken : List Held) (h : Held) (rest : List Held) (written : List ℕ) : Type 0 where
  pub part : RingPart (served_ring mem d (chain_of_held q.base h) written).memory (used_front a h rest written) (served_ring mem d (chain_of_held q.base h) written).queue q (used ++ record { held = h; written = written } ∷ []) taken rest
  pub signals : (served_ring mem d (chain_of_held q.base h) written).signals ≡ signals a.mode a.used

pub served : {mem : List ℕ} {a : AbstractQueue} {d : DeviceQueue} {q : DriverQueue} {used : List UsedHeld} {taken : List Held} {h : Held} {rest : List Held} (written : List ℕ)
    → RingPart mem a d q used taken (h ∷ rest) → length written ≤ room_of h.buffer → Served mem a d q used taken h rest written
served {mem} {a} {d} {q} {used} {taken} {h} {rest} written part few =
    let mid = taken_part (chain_of_held q.base h) part in
    let u : UsedHeld = record { held = h; written = written } in
    let g : Given = served_ring mem d (chain_of_held q.base h) written in
    record {
      part = subst (λ ts. RingPart g.memory (used_front a h rest written) g.queue q (used ++ u ∷ []) ts rest) (append-nil taken) (given taken h [] rest written mid few);
      signals = signalled taken h [] rest written mid few;
    }

-- what a serve leaves of memory: its length, free locations, and all that is apart from the block
module _ {mem : List ℕ} {a : AbstractQueue} {d : DeviceQueue} {q : DriverQueue} {used : List UsedHeld} {taken : List Held} {h : Held} {rest : List Held} (written : List ℕ) (part : RingPart mem a d q used taken (h ∷ rest)) (few : length written ≤ room_of h.buffer) where
  abbrev mid : RingPart mem (record a { available = map available_of rest }) (split_taken d (chain_of_held q.base h)) q used (taken ++ h ∷ []) rest
  mid = taken_part (chain_of_held q.base h) part

  abbrev left : List ℕ
  left = (served_ring mem d (chain_of_held q.base h) written).memory

  pub served_length : length left ≡ length mem
  served_length = given_length taken h [] rest written mid few

  pub served_free : (b n : ℕ) → IsFreeLocation q b n → bytes_at left b n ≡ bytes_at mem b n
  served_free b n free = free_stays taken h [] rest written mid few b n free

  pub served_elsewhere : (b n : ℕ) → Apart q.base BLOCK_LEN b n → bytes_at left b n ≡ bytes_at mem b n
  served_elsewhere b n apart = given_elsewhere taken h [] rest written mid few b n apart
