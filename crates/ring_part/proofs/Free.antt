-- Free locations: puts there leave the ring part, and giving a buffer back leaves what stands there.
use Rattle.std.proofs.Common.{◌≡◌, ℕ, ◌+◌, ◌%◌, ◌^◌, ◌<◌, ◌≤◌, List, ◌∷◌, ◌++◌, length, false, inl, inr, refl, sym, ◌∙◌, ap, subst, arith, length-append}
use Rattle.std.proofs.Math.Nat.{mod-lt}
use Rattle.std.proofs.lemmas.Bool.{false≢true, cases_order, or_left, eq-eqb}
use Rattle.std.specs.Prelude.{◌==◌}
use Rattle.guest_mem.specs.Memory.{part as bytes_at, put_at, Apart}
use Rattle.guest_mem.proofs.Parts.{length-put_at, part-put_at_apart}
use Rattle.guest_mem.proofs.Ranges.{Apart-swapped}
use Rattle.vq_common.specs.Queue.{DeviceQueue, DriverQueue, free_slots}
use Rattle.vq_posted.specs.Free.{is_in, descriptors_in_use}
use Rattle.vq_split_pair.specs.Pair.{room_of}
use Rattle.abstract_devices.specs.World.{AbstractQueue}
use Rattle.ring_part.specs.Held.{Held, UsedHeld, held_of, all_held}
use Rattle.ring_part.specs.RingPuts.{entry_at}
use Rattle.ring_part.specs.RingPart.{RingPart}
use Rattle.ring_part.proofs.Records.{locations_of, in_use, slots_in}
use Rattle.vt_types.specs.Device.{BLOCK_LEN}
use Rattle.ring_part.specs.Locations.{IsInside, Owns, IsFreeLocation, OfDescriptor, AtEntry}
use Rattle.ring_part.proofs.Owned.{owned_apart, owned_areas, owned_inside}
use Rattle.ring_part.proofs.Lists.{in_front, in_back, few_slots}
use Rattle.ring_part.proofs.Slots.{different_slots}
use Rattle.ring_part.proofs.Kept.{Reads, ReadsAsked, kept}
use Rattle.ring_part.proofs.Given.{result, given_driver, given_owned}
use Rattle.ring_part.proofs.Facts as facts

module _ {mem : List ℕ} {a : AbstractQueue} {d : DeviceQueue} {q : DriverQueue} {used : List UsedHeld} {taken waiting : List Held} (part : RingPart mem a d q used taken waiting) where
  size_low : q.cfg.size ≤ 1024
  size_low = facts.size_low part

  slot_low : (n : ℕ) → n % q.cfg.size < q.cfg.size
  slot_low n = mod-lt n (facts.size_some part)

  -- fewer wait than there are slots
  fewer : 1 ≤ free_slots q → length waiting < q.cfg.size
  fewer some =
      omega (arith, slots_in q.unreaped (all_held used taken waiting) part.buffers.these, few_slots q.cfg (all_held used taken waiting) part.buffers.each, length-append (held_of used) (taken ++ waiting), length-append taken waiting)

  reads_but_owned : (k b n : ℕ) → is_in k (descriptors_in_use q.unreaped) ≡ false → k < 1024 → Owns q.base k b n → Reads (Apart b n) d q used taken waiting
  reads_but_owned k b n free low owns =
      record {
        available = owned_areas q.base k b n _ 2 low (omega arith) (omega arith) owns;
        used_index = owned_areas q.base k b n _ 2 low (omega arith) (omega arith) owns;
        entry = λ i less. let slot = slot_low ((d.taken + i) % 2 ^ 16) in owned_areas q.base k b n _ 2 low (omega arith) (omega (arith, size_low)) owns;
        element = λ i less. let slot = slot_low ((q.used + i) % 2 ^ 16) in owned_areas q.base k b n _ 8 low (omega arith) (omega (arith, size_low)) owns;
        owned = λ j c m is small theirs. owned_apart q.base k j b n c m low small (λ e. false≢true (sym free ∙ in_use q.unreaped (all_held used taken waiting) part.buffers.these k ∙ ap (λ j. is_in j (locations_of (all_held used taken waiting))) e ∙ is)) owns theirs;
      }

  asked_but_owned : (k b n : ℕ) → k < 1024 → Owns q.base k b n → ReadsAsked (Apart b n) q
  asked_but_owned k b n low owns = record { event = owned_areas q.base k b n _ 2 low (omega arith) (omega (arith, size_low)) owns; flags = owned_areas q.base k b n _ 2 low (omega arith) (omega arith) owns }

  abbrev next_entry : ℕ
  next_entry = entry_at q.base q.cfg.size q.available

  entry_other : (i : ℕ) → i < length waiting → 1 ≤ free_slots q → (d.taken + i) % 2 ^ 16 % q.cfg.size ≡ q.available % q.cfg.size → ⊥
  entry_other i less some e =
      different_slots q.cfg.size part.block.size d.taken i (length waiting) less (omega (arith, fewer some)) (e ∙ ap (λ n. n % q.cfg.size) part.counts.to_take)

  reads_but_entry : 1 ≤ free_slots q → Reads (Apart next_entry 2) d q used taken waiting
  reads_but_entry some =
      let slot = slot_low q.available in
      record {
        available = inr (omega arith);
        used_index = inl (omega (arith, size_low));
        entry = λ i less.
            elim (cases_order ((d.taken + i) % 2 ^ 16 % q.cfg.size) (q.available % q.cfg.size)) [
              | inl same ↦ absurd (entry_other i less some same)
              | inr order ↦ elim order [ inl below ↦ inr (omega arith) | inr above ↦ inl (omega arith) ]
            ];
        element = λ i less. inl (omega (arith, size_low));
        owned = λ k c m is low owns. Apart-swapped c m next_entry 2 (owned_areas q.base k c m next_entry 2 low (omega arith) (omega (arith, size_low)) owns);
      }

  asked_but_entry : ReadsAsked (Apart next_entry 2) q
  asked_but_entry = let slot = slot_low q.available in record { event = inl (omega arith); flags = inr (omega arith) }

  inside : q.base + 0x1000000 ≤ length mem
  inside = part.block.inside

  -- a free location lies inside memory
  pub free_inside : (b n : ℕ) → IsFreeLocation q b n → b + n ≤ length mem
  free_inside b n (OfDescriptor k free low owns) = let block = owned_inside q.base k b n (omega (arith, size_low)) owns in omega (arith, inside, block.ends)
  free_inside b n (AtEntry some location two) = let slot = slot_low q.available in omega (arith, inside, size_low)

  -- and in the block
  pub free_in_block : (b n : ℕ) → IsFreeLocation q b n → IsInside q.base BLOCK_LEN b n
  free_in_block b n (OfDescriptor k free low owns) = owned_inside q.base k b n (omega (arith, size_low)) owns
  free_in_block b n (AtEntry some location two) = let slot = slot_low q.available in record { starts = omega (arith, location); ends = omega (arith, location, two, size_low) }

  -- a put there leaves the ring part
  pub free_put : (b : ℕ) (bytes : List ℕ) → IsFreeLocation q b (length bytes) → RingPart (put_at mem b bytes) a d q used taken waiting
  free_put b bytes (OfDescriptor k free low owns) =
      let small : k < 1024 = omega (arith, size_low) in
      let fits : b + length bytes ≤ length mem = free_inside b (length bytes) (OfDescriptor k free low owns) in
      kept (Apart b (length bytes)) part (reads_but_owned k b (length bytes) free small owns) (asked_but_owned k b (length bytes) small owns) (put_at mem b bytes) (length-put_at mem b bytes fits)
      (λ c n apart. part-put_at_apart mem b bytes c n fits apart)
  free_put b bytes (AtEntry some location two) =
      let fits : b + length bytes ≤ length mem = free_inside b (length bytes) (AtEntry some location two) in
      kept (Apart next_entry 2) part (reads_but_entry some) asked_but_entry (put_at mem b bytes) (length-put_at mem b bytes fits)
      (λ c n apart. part-put_at_apart mem b bytes c n fits (subst (λ k. Apart b k c n) (sym two) (subst (λ p. Apart p 2 c n) (sym location) apart)))

-- giving a buffer back leaves what stands at a free location
pub free_stays : {mem : List ℕ} {a : AbstractQueue} {d : DeviceQueue} {q : DriverQueue} {used : List UsedHeld} (before : List Held) (h : Held) (after waiting : List Held) (written : List ℕ)
    (part : RingPart mem a d q used (before ++ h ∷ after) waiting) (few : length written ≤ room_of h.buffer) (b n : ℕ) → IsFreeLocation q b n
    → bytes_at (result before h after waiting written part few).memory b n ≡ bytes_at mem b n
free_stays {q = q} {used = used} before h after waiting written part few b n (OfDescriptor k free low owns) =
    given_owned before h after waiting written part few k b n (omega (arith, facts.size_low part))
    (λ e. false≢true (sym free ∙ ap (λ j. is_in j (descriptors_in_use q.unreaped)) (sym e) ∙ in_use q.unreaped (all_held used (before ++ h ∷ after) waiting) part.buffers.these h.head
    ∙ in_back h.head (held_of used) ((before ++ h ∷ after) ++ waiting) (in_front h.head (before ++ h ∷ after) waiting (in_back h.head before (h ∷ after) (or_left (h.head == h.head) _ (eq-eqb h.head h.head refl))))))
    owns
free_stays {q = q} before h after waiting written part few b n (AtEntry some location two) =
    let slot : q.available % q.cfg.size < q.cfg.size = mod-lt q.available (facts.size_some part) in
    given_driver before h after waiting written part few b n (omega arith) (omega (arith, facts.size_low part))
