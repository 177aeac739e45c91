-- The first used buffer is reaped.
use Rattle.std.proofs.Common.{◌≡◌, ℕ, ◌+◌, ◌*◌, ◌%◌, ◌^◌, ◌<◌, ◌≤◌, List, [], ◌∷◌, ◌++◌, length, drop, map, true, false, Some, refl, sym, ◌∙◌, ap, subst, arith, inl, inr}
use Rattle.std.specs.Prelude.{◌==◌}
use Rattle.std.proofs.Math.Nat.{mod-lt}
use Rattle.std.proofs.Math.Seq.{drop-append_seam}
use Rattle.std.proofs.lemmas.Bool.{cond-true, cond-false, or_left, eq-eqb}
use Rattle.std.proofs.lemmas.List.Elements.{All-head, All-tail}
use Rattle.byteorder.specs.Endian.{little_bytes, little_number}
use Rattle.byteorder.specs.Numbers.{little_number-reads_back}
use Rattle.vt_types.specs.Limits.{LONGEST_BUFFER}
use Rattle.guest_mem.specs.Memory.{part as bytes_at, put_at, le16_at, Apart}
use Rattle.guest_mem.proofs.Fields.{length-little_bytes, little_number-little_bytes}
use Rattle.guest_mem.proofs.Parts.{length-put_at, part-put_at_apart, part-put_at_same}
use Rattle.guest_mem.proofs.Ranges.{Apart-swapped}
use Rattle.vt_types.specs.Access.{AccessValue, Put}
use Rattle.vt_layout.specs.QueueBlock.{driver_area, device_area, data_address}
use Rattle.vq_common.specs.Queue.{DeviceQueue, DriverQueue, unreaped_with}
use Rattle.vq_split_pair.specs.Pair.{IsInMemory}
use Rattle.vq_split_drv.specs.Reap.{split_reaped}
use Rattle.vq_split_drv.proofs.Queues.{IsSplitQueue-reaped}
use Rattle.abstract_devices.specs.World.{AbstractQueue}
use Rattle.memory_port.specs.Puts.{Hold, Agree}
use Rattle.memory_port.proofs.PutLaws.{hold-same}
use Rattle.ring_part.specs.Held.{Held, UsedHeld, CanStand, FitsRoom, unreaped_of, held_of, used_of}
use Rattle.ring_part.specs.RingPuts.{all_puts, entry_puts, element_at, element_puts, asks_put, flag_of, next}
use Rattle.ring_part.specs.RingPart.{RingPart}
use Rattle.ring_part.proofs.Owned.{owned_areas, owned_inside}
use Rattle.ring_part.proofs.Facts.{le16_standing}
use Rattle.ring_part.proofs.Elements.{room_fits, written_owned}
use Rattle.ring_part.proofs.Kept.{Reads, entries_kind, elements_kind, puts_kind}
use Rattle.ring_part.proofs.Facts as facts

-- nothing was used: the used index is the driver's
pub reap_none : {mem : List ℕ} {a : AbstractQueue} {d : DeviceQueue} {q : DriverQueue} {taken waiting : List Held} → RingPart mem a d q [] taken waiting → le16_at mem (device_area q.base + 2) ≡ q.used
reap_none {mem} {a} {d} {q} part =
    let low : q.used < 2 ^ 16 = part.queue.used in
    let same : d.used ≡ (q.used + 0) % 2 ^ 16 = part.counts.to_reap in
    le16_standing mem (device_area q.base + 2) d.used (facts.used_low part) part.indices.1.0 ∙ omega arith

-- what the driver finds
pub record Finds (mem : List ℕ) (d : DeviceQueue) (q : DriverQueue) (u : UsedHeld) : Type 0 where
  pub index : le16_at mem (device_area q.base + 2) ≡ q.used → ⊥
  pub id : little_number 4 (bytes_at mem (element_at q.base q.cfg.size q.used) 8) ≡ u.held.head
  pub len : little_number 4 (drop 4 (bytes_at mem (element_at q.base q.cfg.size q.used) 8)) ≡ length u.written
  pub found : unreaped_with u.held.head q.unreaped ≡ Some (unreaped_of u.held)
  pub few : length u.written ≤ LONGEST_BUFFER
  pub bytes : bytes_at mem (data_address q.base u.held.head + length u.held.buffer.readable) (length u.written) ≡ u.written
  pub inside : data_address q.base u.held.head + length u.held.buffer.readable + length u.written ≤ length mem

-- two numbers of four bytes are read
first_of : (x y : ℕ) → x < 2 ^ 32 → little_number 4 (little_bytes 4 x ++ little_bytes 4 y) ≡ x
first_of x y low = little_number-reads_back 4 x (little_bytes 4 y) low

second_of : (x y : ℕ) → y < 2 ^ 32 → little_number 4 (drop 4 (little_bytes 4 x ++ little_bytes 4 y)) ≡ y
second_of x y low =
    let back : drop 4 (little_bytes 4 x ++ little_bytes 4 y) ≡ little_bytes 4 y
    = ap (λ n. drop n (little_bytes 4 x ++ little_bytes 4 y)) (sym (length-little_bytes 4 x)) ∙ drop-append_seam (little_bytes 4 x) (little_bytes 4 y)
    in
    ap (little_number 4) back ∙ little_number-little_bytes 4 y low

module _ {mem : List ℕ} {a : AbstractQueue} {d : DeviceQueue} {q : DriverQueue} {u : UsedHeld} {used : List UsedHeld} {taken waiting : List Held} (part : RingPart mem a d q (u ∷ used) taken waiting) where
  can : CanStand q.cfg u.held
  can = All-head (CanStand q.cfg) u.held (held_of used ++ (taken ++ waiting)) part.buffers.each

  few : length u.written ≤ LONGEST_BUFFER
  few = omega (arith, (All-head FitsRoom u used part.buffers.fit).room, room_fits u.held.buffer can.postable)

  head_low : u.held.head < q.cfg.size
  head_low = facts.below part u.held.head (or_left (u.held.head == u.held.head) _ (eq-eqb u.held.head u.held.head refl))

  size_low : q.cfg.size ≤ 1024
  size_low = facts.size_low part

  pub finds : Finds mem d q u
  finds =
      let (element, (written, others)) = part.elements in
      let low : q.used < 2 ^ 16 = part.queue.used in
      let number : d.used ≡ (q.used + length (u ∷ used)) % 2 ^ 16 = part.counts.to_reap in
      record {
        index = λ e.
            let is : d.used ≡ q.used = sym (le16_standing mem (device_area q.base + 2) d.used (facts.used_low part) part.indices.1.0) ∙ e in
            absurd (omega (arith, facts.lengths_fit part, size_low));
        id = ap (little_number 4) element ∙ first_of u.held.head (length u.written) (omega (arith, head_low, size_low));
        len = ap (λ w. little_number 4 (drop 4 w)) element ∙ second_of u.held.head (length u.written) (omega (arith, few));
        found = part.buffers.these.0;
        few = few;
        bytes = written;
        inside =
            let block = owned_inside q.base u.held.head (data_address q.base u.held.head + length u.held.buffer.readable) (length u.written) (omega (arith, head_low, size_low)) (written_owned q.cfg q.base u.held u.written can (All-head FitsRoom u used part.buffers.fit).room) in
            omega (arith, part.block.inside, block.ends);
      }

  abbrev after : DriverQueue
  after = split_reaped q (unreaped_of u.held)

  abbrev less : AbstractQueue
  less = record a { used = map used_of used }

  abbrev event : ℕ
  event = driver_area q.base + (4 + 2 * q.cfg.size)

  slot_low : (n : ℕ) → n % q.cfg.size < q.cfg.size
  slot_low n = mod-lt n (facts.size_some part)

  reads : Reads (Apart event 2) d q (u ∷ used) taken waiting
  reads =
      record {
        available = inr (omega arith);
        used_index = inl (omega (arith, size_low));
        entry = λ i less. let slot = slot_low ((d.taken + i) % 2 ^ 16) in inr (omega arith);
        element = λ i less. inl (omega (arith, size_low));
        owned = λ k b n m low owns. Apart-swapped b n event 2 (owned_areas q.base k b n event 2 low (omega arith) (omega (arith, size_low)) owns);
      }

  -- the ring part without it, in a memory that differs only in what the driver asks for
  reaped_in : (mem2 : List ℕ) → length mem2 ≡ length mem → Agree (Apart event 2) mem mem2 → Hold (asks_put q.cfg q.base a.mode (next q.used) ∷ []) mem2 → RingPart mem2 less d after used taken waiting
  reaped_in mem2 long same asks =
      let P = Apart event 2 in
      let number : d.used ≡ (q.used + length (u ∷ used)) % 2 ^ 16 = part.counts.to_reap in
      let elements = hold-same P mem mem2 same (element_puts q.base q.cfg.size q.used (u ∷ used)) (elements_kind P part reads) part.elements in
      record {
        same = part.same;
        block = subst (λ n. IsInMemory n q.cfg q.base) (sym long) part.block;
        queue = IsSplitQueue-reaped q (unreaped_of u.held) part.queue part.buffers.these.0;
        buffers = record {
          these = part.buffers.these.1;
          each = All-tail (CanStand q.cfg) u.held (held_of used ++ (taken ++ waiting)) part.buffers.each;
          fit = All-tail FitsRoom u used part.buffers.fit;
        };
        lists = record { available = part.lists.available; finished = refl };
        counts = record { to_reap = omega arith; in_flight = part.counts.in_flight; to_take = part.counts.to_take };
        indices = (same (driver_area q.base + 2) 2 reads.available ∙ part.indices.0, (same (device_area q.base + 2) 2 reads.used_index ∙ part.indices.1.0, asks));
        entries = hold-same P mem mem2 same (entry_puts q.base q.cfg.size d.taken waiting) (entries_kind P part reads) part.entries;
        elements = elements.1.1;
        puts = hold-same P mem mem2 same (all_puts q.cfg q.base (taken ++ waiting)) (puts_kind P part reads) part.puts;
      }

  -- without EVENT_IDX memory stays
  pub reaped : q.cfg.event_idx ≡ false → RingPart mem less d after used taken waiting
  reaped off =
      let old : asks_put q.cfg q.base a.mode q.used ≡ Put (driver_area q.base) (little_bytes 2 (flag_of a.mode)) = cond-false q.cfg.event_idx _ _ off in
      let new : asks_put q.cfg q.base a.mode (next q.used) ≡ Put (driver_area q.base) (little_bytes 2 (flag_of a.mode)) = cond-false q.cfg.event_idx _ _ off in
      reaped_in mem refl (λ b n apart. refl) (subst (λ (p : AccessValue). Hold (p ∷ []) mem) (old ∙ sym new) part.indices.1.1)

  -- with it the driver asks for the next signal
  pub reaped_asking : q.cfg.event_idx ≡ true → RingPart (put_at mem event (little_bytes 2 (next q.used))) less d after used taken waiting
  reaped_asking on =
      let bytes : List ℕ = little_bytes 2 (next q.used) in
      let new : asks_put q.cfg q.base a.mode (next q.used) ≡ Put event bytes = cond-true q.cfg.event_idx _ _ on in
      let inside : q.base + 0x1000000 ≤ length mem = part.block.inside in
      reaped_in (put_at mem event bytes) (length-put_at mem event bytes (omega (arith, size_low)))
      (λ b n apart. part-put_at_apart mem event bytes b n (omega (arith, size_low)) apart)
      (subst (λ (p : AccessValue). Hold (p ∷ []) (put_at mem event bytes)) (sym new) (part-put_at_same mem event bytes (omega (arith, size_low)), tt))
