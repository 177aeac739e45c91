use Rattle.std.specs.Prelude.{◌≡◌, ℕ, ◌≤◌, List, [], ◌∷◌, ◌++◌, map, length, IsTrue, Some}
use Rattle.vt_types.specs.Operation.{PostedBuffer}
use Rattle.vq_common.specs.declared.chain.RingCfg.{RingCfg}
use Rattle.vq_common.specs.Buffer.{IsPostable}
use Rattle.vq_common.specs.Chain.{ChainValue}
use Rattle.vt_layout.specs.QueueBlock.{data_address}
use Rattle.vq_common.specs.Piece.{pieces_from}
use Rattle.vq_common.specs.Queue.{Unreaped, slots_of, unreaped_with, without}
use Rattle.vq_split_pair.specs.Pair.{room_of}
use Rattle.abstract_devices.specs.World.{Buffer, UsedBuffer}
use Rattle.abstract_devices.specs.Operate.{buffer_of}

-- a buffer that was posted and is not reaped yet, with its descriptors: the head and the others
pub record Held : Type 0 where
  pub buffer : PostedBuffer
  pub head : ℕ
  pub others : List ℕ

-- one that the device used, with the bytes that it wrote
pub record UsedHeld : Type 0 where
  pub held : Held
  pub written : List ℕ

-- a ring can hold it: it may be posted and has as many descriptors as slots; a table only where the ring has tables, of no
-- more descriptors than the ring (VIRTIO 1.2, 2.7.5.3)
pub record CanStand (cfg : RingCfg) (h : Held) : Type 0 where
  pub postable : IsPostable h.buffer
  pub count : length (h.head ∷ h.others) ≡ slots_of h.buffer
  pub table : IsTrue h.buffer.indirect → length h.buffer.lengths ≤ cfg.size
  pub feature : IsTrue h.buffer.indirect → IsTrue cfg.indirect

-- no more was written than it has room
pub record FitsRoom (u : UsedHeld) : Type 0 where
  pub room : length u.written ≤ room_of u.held.buffer

-- what the driver keeps of it
abbrev pub unreaped_of : Held → Unreaped
unreaped_of h =
    record { tag = h.buffer.tag; id = h.head; descriptors = h.head ∷ h.others; slots = slots_of h.buffer; readable = length h.buffer.readable }

-- what the abstract queue has of it, available or used
abbrev pub available_of : Held → Buffer
available_of h = buffer_of h.buffer

abbrev pub used_of : UsedHeld → UsedBuffer
used_of u = record { tag = u.held.buffer.tag; slots = slots_of u.held.buffer; written = u.written }

-- all that are held: the used ones, those that the device has taken, and those that wait
abbrev pub held_of : List UsedHeld → List Held
held_of used = map (λ (u : UsedHeld). u.held) used

abbrev pub all_held : List UsedHeld → List Held → List Held → List Held
all_held used taken waiting = held_of used ++ (taken ++ waiting)

-- a list has these buffers and no others, in whatever order: the first is found by its head, and without it the others are
-- there
abbrev pub HasThese : List Unreaped → List Held → Type 0
HasThese us [] = us ≡ []
HasThese us (h ∷ hs) = (unreaped_with h.head us ≡ Some (unreaped_of h)) × HasThese (without h.head us) hs

-- the chain of a held buffer, its pieces one after the other in its data location
abbrev pub chain_of_held : ℕ → Held → ChainValue
chain_of_held base h = record { id = h.head; slots = slots_of h.buffer; pieces = pieces_from (data_address base h.head) h.buffer.readable_pieces h.buffer.lengths }
