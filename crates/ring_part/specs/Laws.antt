-- What the calls of both ends, over one guest memory, make of the relation.
use Rattle.std.specs.Prelude.{◌≡◌, ℕ, ◌+◌, ◌≤◌, List, [], ◌∷◌, ◌++◌, map, length, Bool, Option, Some, None, if◌then◌else◌}
use Rattle.byteorder.specs.Endian.{little_bytes}
use Rattle.guest_mem.specs.Memory.{Apart}
use Rattle.vt_types.specs.Access.{AccessValue, Put}
use Rattle.vt_types.specs.Operation.{PostedBuffer}
use Rattle.vt_layout.specs.QueueBlock.{device_area}
use Rattle.vq_common.specs.Chain.{ChainValue, Walked, Empty, Front}
use Rattle.vt_types.specs.Device.{BLOCK_LEN}
use Rattle.vq_common.specs.Queue.{DeviceQueue, DriverQueue, ReapedValue}
use Rattle.vq_split_drv.specs.Post.{split_post_accesses}
use Rattle.vq_split_drv.specs.Reap.{used_event_put}
use Rattle.vq_split_pair.specs.Pair.{room_of}
use Rattle.memory_port.specs.Puts.{Agree, AllIn}
use Rattle.abstract_devices.specs.World.{AbstractQueue}
use Rattle.abstract_devices.specs.Operate.{buffer_of}
use Rattle.abstract_devices.specs.Serve.{signals}
use Rattle.ring_part.specs.Held.{Held, UsedHeld, available_of, chain_of_held, used_of}
use Rattle.ring_part.specs.RingPart.{RingPart}
use Rattle.ring_part.specs.RingPuts.{element_puts, next}

-- memory is as long as it was, and as it was in each location that is apart from these puts
pub record ChangedBy (puts : List AccessValue) (mem mem2 : List ℕ) : Type 0 where
  pub long : length mem2 ≡ length mem
  pub others : Agree (λ addr count. AllIn (Apart addr count) puts) mem mem2

-- where the device writes what it used: the bytes, the element, and the used index
abbrev pub give_puts : ℕ → ℕ → ℕ → UsedHeld → List AccessValue
give_puts base size n u = element_puts base size n (u ∷ []) ++ Put (device_area base + 2) (little_bytes 2 (next n)) ∷ []

-- where the driver asks for the next signal once it has reaped
abbrev pub reap_puts : DriverQueue → List AccessValue
reap_puts q = if q.cfg.event_idx then used_event_put q ∷ [] else []

-- a buffer that was posted is the last of those that wait
abbrev pub PostKeeps : List ℕ → DriverQueue → PostedBuffer → DriverQueue → List ℕ → Type 0
PostKeeps mem q b q2 mem2 =
    (a : AbstractQueue) (d : DeviceQueue) (used : List UsedHeld) (taken waiting : List Held) → RingPart mem a d q used taken waiting
    → (h : Held) × (h.buffer ≡ b) × RingPart mem2 (record a { available = a.available ++ buffer_of b ∷ [] }) d q2 used taken (waiting ++ h ∷ []) × ChangedBy (split_post_accesses q b) mem mem2

-- the first of those that wait is shown, and is the last of those taken; where none waits the ring is empty
abbrev pub TakesFirst : List ℕ → AbstractQueue → DeviceQueue → DriverQueue → List UsedHeld → List Held → List Held → Walked → DeviceQueue → Type 0
TakesFirst mem a d q used taken [] shown d2 = (shown ≡ Empty) × (d2 ≡ d)
TakesFirst mem a d q used taken (h ∷ rest) shown d2 =
    (shown ≡ Front (chain_of_held q.base h)) × RingPart mem (record a { available = map available_of rest }) d2 q used (taken ++ h ∷ []) rest

abbrev pub TakeKeeps : List ℕ → DeviceQueue → Walked → DeviceQueue → Type 0
TakeKeeps mem d shown d2 =
    (a : AbstractQueue) (q : DriverQueue) (used : List UsedHeld) (taken waiting : List Held) → RingPart mem a d q used taken waiting → TakesFirst mem a d q used taken waiting shown d2

-- a taken buffer that is given back is the last of the used ones, and is signalled by the abstract rule
abbrev pub GiveKeeps : List ℕ → DeviceQueue → ChainValue → List ℕ → Bool → DeviceQueue → List ℕ → Type 0
GiveKeeps mem d c written signalled d2 mem2 =
    (a : AbstractQueue) (q : DriverQueue) (used : List UsedHeld) (before : List Held) (h : Held) (after waiting : List Held) → RingPart mem a d q used (before ++ h ∷ after) waiting
    → c ≡ chain_of_held q.base h → length written ≤ room_of h.buffer → let u : UsedHeld = record { held = h; written = written } in
    RingPart mem2 (record a { used = a.used ++ used_of u ∷ [] }) d2 q (used ++ u ∷ []) (before ++ after) waiting × (signalled ≡ signals a.mode a.used) × ChangedBy (give_puts q.base q.cfg.size d.used u) mem mem2

-- the first of the used ones is answered; where there is none nothing is, and all stays
abbrev pub ReapsFirst : List ℕ → AbstractQueue → DeviceQueue → DriverQueue → List UsedHeld → List Held → List Held → Option ReapedValue → DriverQueue → List ℕ → Type 0
ReapsFirst mem a d q [] taken waiting r q2 mem2 = (r ≡ None) × (q2 ≡ q) × (mem2 ≡ mem)
ReapsFirst mem a d q (u ∷ used) taken waiting r q2 mem2 =
    (r ≡ Some (record { tag = u.held.buffer.tag; len = length u.written; bytes = u.written })) × RingPart mem2 (record a { used = map used_of used }) d q2 used taken waiting × ChangedBy (reap_puts q2) mem mem2

abbrev pub ReapKeeps : List ℕ → DriverQueue → Option ReapedValue → DriverQueue → List ℕ → Type 0
ReapKeeps mem q r q2 mem2 =
    (a : AbstractQueue) (d : DeviceQueue) (used : List UsedHeld) (taken waiting : List Held) → RingPart mem a d q used taken waiting → ReapsFirst mem a d q used taken waiting r q2 mem2

-- bytes that are written apart from the block leave the relation
abbrev pub WriteKeeps : List ℕ → ℕ → ℕ → List ℕ → Type 0
WriteKeeps mem addr count mem2 =
    (a : AbstractQueue) (d : DeviceQueue) (q : DriverQueue) (used : List UsedHeld) (taken waiting : List Held) → RingPart mem a d q used taken waiting → Apart addr count q.base BLOCK_LEN
    → RingPart mem2 a d q used taken waiting
