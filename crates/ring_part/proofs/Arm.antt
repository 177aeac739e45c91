-- The driver asks for a signal per used buffer, or for none.
use Rattle.std.proofs.Common.{◌≡◌, ℕ, ◌+◌, ◌≤◌, List, [], ◌∷◌, ◌++◌, length, false, sym, ◌∙◌, subst, arith, inl}
use Rattle.std.proofs.lemmas.Bool.{cond-false}
use Rattle.byteorder.specs.Endian.{little_bytes}
use Rattle.guest_mem.specs.Memory.{part as bytes_at, put_at, Apart}
use Rattle.guest_mem.proofs.Parts.{length-put_at, part-put_at_apart, part-put_at_same}
use Rattle.guest_mem.proofs.Ranges.{Apart-swapped}
use Rattle.vt_types.specs.Access.{AccessValue, Put}
use Rattle.vt_layout.specs.QueueBlock.{driver_area, device_area}
use Rattle.vq_common.specs.Queue.{DeviceQueue, DriverQueue}
use Rattle.vq_split_pair.specs.Pair.{IsInMemory}
use Rattle.abstract_devices.specs.World.{AbstractQueue, SignalMode}
use Rattle.memory_port.specs.Puts.{Hold}
use Rattle.memory_port.proofs.PutLaws.{hold-same}
use Rattle.ring_part.specs.Held.{Held, UsedHeld}
use Rattle.ring_part.specs.RingPuts.{all_puts, entry_puts, element_puts, asks_put, flag_of, is_first}
use Rattle.ring_part.specs.RingPart.{RingPart}
use Rattle.ring_part.proofs.Owned.{owned_areas}
use Rattle.ring_part.proofs.Kept.{Reads, entries_kind, elements_kind, puts_kind}
use Rattle.ring_part.proofs.Facts as facts

module _ {mem : List ℕ} {a : AbstractQueue} {d : DeviceQueue} {q : DriverQueue} {used : List UsedHeld} {taken waiting : List Held} (part : RingPart mem a d q used taken waiting) (off : q.cfg.event_idx ≡ false) (mode : SignalMode) (other : is_first mode ≡ false) where
  abbrev flags : ℕ
  flags = driver_area q.base

  size_low : q.cfg.size ≤ 1024
  size_low = facts.size_low part

  reads : Reads (Apart flags 2) d q used taken waiting
  reads =
      record {
        available = inl (omega arith);
        used_index = inl (omega arith);
        entry = λ i less. inl (omega arith);
        element = λ i less. inl (omega arith);
        owned = λ k b n m low owns. Apart-swapped b n flags 2 (owned_areas q.base k b n flags 2 low (omega arith) (omega arith) owns);
      }

  -- the flags are put
  pub armed : RingPart (put_at mem flags (little_bytes 2 (flag_of mode))) (record a { mode = mode }) d q used taken waiting
  armed =
      let bytes : List ℕ = little_bytes 2 (flag_of mode) in
      let P = Apart flags 2 in
      let mem2 : List ℕ = put_at mem flags bytes in
      let inside : q.base + 0x1000000 ≤ length mem = part.block.inside in
      let long : length mem2 ≡ length mem = length-put_at mem flags bytes (omega arith) in
      let same : (b n : ℕ) → P b n → bytes_at mem2 b n ≡ bytes_at mem b n = λ b n apart. part-put_at_apart mem flags bytes b n (omega arith) apart in
      let new : asks_put q.cfg q.base mode q.used ≡ Put flags bytes = cond-false q.cfg.event_idx _ _ off in
      record {
        same = record { ring = part.same.ring; size = part.same.size; mode = other ∙ sym off };
        block = subst (λ n. IsInMemory n q.cfg q.base) (sym long) part.block;
        queue = part.queue;
        buffers = part.buffers;
        lists = record { available = part.lists.available; finished = part.lists.finished };
        counts = part.counts;
        indices = (
          same (driver_area q.base + 2) 2 reads.available ∙ part.indices.0,
          (
            same (device_area q.base + 2) 2 reads.used_index ∙ part.indices.1.0,
            subst (λ (p : AccessValue). Hold (p ∷ []) mem2) (sym new) (part-put_at_same mem flags bytes (omega arith), tt),
          ),
        );
        entries = hold-same P mem mem2 same (entry_puts q.base q.cfg.size d.taken waiting) (entries_kind P part reads) part.entries;
        elements = hold-same P mem mem2 same (element_puts q.base q.cfg.size q.used used) (elements_kind P part reads) part.elements;
        puts = hold-same P mem mem2 same (all_puts q.cfg q.base (taken ++ waiting)) (puts_kind P part reads) part.puts;
      }
