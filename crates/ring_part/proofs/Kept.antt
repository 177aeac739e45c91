-- The ring part depends on what it reads, and on nothing else of memory.
use Rattle.std.proofs.Common.{◌≡◌, ℕ, ◌+◌, ◌*◌, ◌%◌, ◌^◌, ◌<◌, List, ◌++◌, length, Bool, true, sym, subst, arith}
use Rattle.vt_layout.specs.QueueBlock.{driver_area, device_area}
use Rattle.vq_common.specs.Queue.{DeviceQueue, DriverQueue}
use Rattle.vq_posted.specs.Free.{is_in}
use Rattle.vq_split_pair.specs.Pair.{IsInMemory}
use Rattle.abstract_devices.specs.World.{AbstractQueue}
use Rattle.memory_port.specs.Puts.{AllIn, Agree}
use Rattle.memory_port.proofs.PutLaws.{hold-same, all_in-weaker}
use Rattle.ring_part.specs.Held.{Held, UsedHeld, CanStand, held_of, all_held}
use Rattle.ring_part.specs.RingPuts.{all_puts, entry_at, entry_puts, element_at, element_puts, index_puts}
use Rattle.ring_part.specs.RingPart.{RingPart}
use Rattle.ring_part.proofs.Records.{locations_of}
use Rattle.ring_part.specs.Locations.{Owns, OwnedBy}
use Rattle.ring_part.proofs.PutLocations.{all_owned, entries_in, asks_in}
use Rattle.ring_part.proofs.Lists.{all_front, all_back, in_front, in_back}
use Rattle.ring_part.proofs.Elements.{elements_kinds}
use Rattle.ring_part.proofs.Facts as facts

-- all locations that the ring part reads are of a kind, but where the driver asks for signals
pub record Reads (P : ℕ → ℕ → Type 0) (d : DeviceQueue) (q : DriverQueue) (used : List UsedHeld) (taken waiting : List Held) : Type 0 where
  pub available : P (driver_area q.base + 2) 2
  pub used_index : P (device_area q.base + 2) 2
  pub entry : (i : ℕ) → i < length waiting → P (entry_at q.base q.cfg.size ((d.taken + i) % 2 ^ 16)) 2
  pub element : (i : ℕ) → i < length used → P (element_at q.base q.cfg.size ((q.used + i) % 2 ^ 16)) 8
  pub owned : (k a n : ℕ) → is_in k (locations_of (all_held used taken waiting)) ≡ true → k < 1024 → Owns q.base k a n → P a n

-- and that location
pub record ReadsAsked (P : ℕ → ℕ → Type 0) (q : DriverQueue) : Type 0 where
  pub event : P (driver_area q.base + (4 + 2 * q.cfg.size)) 2
  pub flags : P (driver_area q.base) 2

module _ (P : ℕ → ℕ → Type 0) {mem : List ℕ} {a : AbstractQueue} {d : DeviceQueue} {q : DriverQueue} {used : List UsedHeld} {taken waiting : List Held} (part : RingPart mem a d q used taken waiting) (reads : Reads P d q used taken waiting) where
  low : (k : ℕ) → is_in k (locations_of (all_held used taken waiting)) ≡ true → k < 1024
  low k m = let less = facts.below part k m in let size = facts.size_low part in omega arith

  pub indices_kind : ReadsAsked P q → AllIn P (index_puts q.cfg q.base a.mode q.available d.used q.used)
  indices_kind asked = (reads.available, (reads.used_index, asks_in P q.cfg q.base a.mode q.used asked.event asked.flags))

  pub entries_kind : AllIn P (entry_puts q.base q.cfg.size d.taken waiting)
  entries_kind = entries_in P q.base q.cfg.size d.taken waiting (facts.taken_low part) reads.entry

  pub elements_kind : AllIn P (element_puts q.base q.cfg.size q.used used)
  elements_kind =
      elements_kinds P q.cfg q.base q.cfg.size q.used used part.queue.used (all_front (CanStand q.cfg) (held_of used) (taken ++ waiting) part.buffers.each) part.buffers.fit reads.element
      (λ b n (k, m, owns). let all = in_front k (held_of used) (taken ++ waiting) m in reads.owned k b n all (low k all) owns)

  pub puts_kind : AllIn P (all_puts q.cfg q.base (taken ++ waiting))
  puts_kind =
      all_in-weaker (OwnedBy q.base (locations_of (taken ++ waiting))) P (λ b n (k, m, owns). let all = in_back k (held_of used) (taken ++ waiting) m in reads.owned k b n all (low k all) owns)
      (all_puts q.cfg q.base (taken ++ waiting))
      (all_owned q.cfg q.base (taken ++ waiting) (all_back (CanStand q.cfg) (held_of used) (taken ++ waiting) part.buffers.each))

  -- a memory that agrees on these has the ring part too
  pub kept : ReadsAsked P q → (mem2 : List ℕ) → length mem2 ≡ length mem → Agree P mem mem2 → RingPart mem2 a d q used taken waiting
  kept asked mem2 long same =
      record {
        same = part.same;
        block = subst (λ n. IsInMemory n q.cfg q.base) (sym long) part.block;
        queue = part.queue;
        buffers = part.buffers;
        lists = part.lists;
        counts = part.counts;
        indices = hold-same P mem mem2 same (index_puts q.cfg q.base a.mode q.available d.used q.used) (indices_kind asked) part.indices;
        entries = hold-same P mem mem2 same (entry_puts q.base q.cfg.size d.taken waiting) entries_kind part.entries;
        elements = hold-same P mem mem2 same (element_puts q.base q.cfg.size q.used used) elements_kind part.elements;
        puts = hold-same P mem mem2 same (all_puts q.cfg q.base (taken ++ waiting)) puts_kind part.puts;
      }

-- a kick of the abstract queue is none of it
pub kicked : {mem : List ℕ} {a : AbstractQueue} {d : DeviceQueue} {q : DriverQueue} {used : List UsedHeld} {taken waiting : List Held} (kick : Bool) → RingPart mem a d q used taken waiting
    → RingPart mem (record a { kick = kick }) d q used taken waiting
kicked kick part =
    record {
      same = part.same;
      block = part.block;
      queue = part.queue;
      buffers = part.buffers;
      lists = record { available = part.lists.available; finished = part.lists.finished };
      counts = part.counts;
      indices = part.indices;
      entries = part.entries;
      elements = part.elements;
      puts = part.puts;
    }
