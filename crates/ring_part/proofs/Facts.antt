-- What the ring part says of sizes and numbers.
use Rattle.std.proofs.Common.{◌≡◌, ℕ, ◌+◌, ◌^◌, ◌<◌, ◌≤◌, List, ◌++◌, length, true, IsTrue, sym, ◌∙◌, ap, subst, arith, length-append}
use Rattle.std.proofs.Math.Nat.{mod-lt}
use Rattle.std.proofs.lemmas.List.{length-map}
use Rattle.guest_mem.specs.Memory.{part, le16_at}
use Rattle.guest_mem.proofs.Fields.{little_number-little_bytes}
use Rattle.byteorder.specs.Endian.{little_bytes, little_number}
use Rattle.vq_common.specs.Queue.{DeviceQueue, DriverQueue}
use Rattle.vq_posted.specs.Free.{is_distinct, is_in, descriptors_in_use}
use Rattle.vq_posted.proofs.Members.{all_at}
use Rattle.vq_split_pair.proofs.PostParts.{size_bounds}
use Rattle.abstract_devices.specs.World.{AbstractQueue}
use Rattle.ring_part.specs.Held.{Held, UsedHeld, held_of, all_held}
use Rattle.ring_part.specs.RingPart.{RingPart}
use Rattle.ring_part.proofs.Records.{locations_of, in_use, distinct_in, slots_in}
use Rattle.ring_part.proofs.Lists.{slots_of_held, few_slots}

-- two bytes that were put are a number
pub le16_standing : (mem : List ℕ) (a n : ℕ) → n < 2 ^ 16 → part mem a 2 ≡ little_bytes 2 n → le16_at mem a ≡ n
le16_standing mem a n low is = ap (little_number 2) is ∙ little_number-little_bytes 2 n low

module _ {mem : List ℕ} {a : AbstractQueue} {d : DeviceQueue} {q : DriverQueue} {used : List UsedHeld} {taken waiting : List Held} (part : RingPart mem a d q used taken waiting) where
  -- no descriptor comes twice
  pub distinct : IsTrue (is_distinct (locations_of (all_held used taken waiting)))
  distinct = distinct_in q.unreaped (all_held used taken waiting) part.buffers.these part.queue.order.distinct

  -- each is below the size
  pub below : (n : ℕ) → is_in n (locations_of (all_held used taken waiting)) ≡ true → n < q.cfg.size
  below n m = all_at (λ n. n < q.cfg.size) (descriptors_in_use q.unreaped) n part.queue.order.below (in_use q.unreaped (all_held used taken waiting) part.buffers.these n ∙ m)

  pub below_record : (n : ℕ) → is_in n (descriptors_in_use q.unreaped) ≡ true → n < q.cfg.size
  below_record n m = all_at (λ n. n < q.cfg.size) (descriptors_in_use q.unreaped) n part.queue.order.below m

  -- the slots are no more than the size, nor are the buffers
  pub slots_fit : slots_of_held (all_held used taken waiting) ≤ q.cfg.size
  slots_fit = omega (arith, part.queue.order.slots, slots_in q.unreaped (all_held used taken waiting) part.buffers.these)

  pub lengths_fit : length used + (length taken + length waiting) ≤ q.cfg.size
  lengths_fit =
      let few = few_slots q.cfg (all_held used taken waiting) part.buffers.each in
      let same : length (held_of used) ≡ length used = length-map used (λ (u : UsedHeld). u.held) in
      omega (arith, slots_fit, few, same, length-append (held_of used) (taken ++ waiting), length-append taken waiting)

  -- the size is 1 to 1,024
  pub size_low : q.cfg.size ≤ 1024
  size_low = part.queue.size

  pub size_some : 1 ≤ q.cfg.size
  size_some = (size_bounds q.cfg.size part.block.size).0

  -- the device's indices have 16 bits
  pub used_low : d.used < 2 ^ 16
  used_low = subst (λ n. n < 2 ^ 16) (sym part.counts.to_reap) (mod-lt (q.used + length used) (omega arith))

  pub taken_low : d.taken < 2 ^ 16
  taken_low = subst (λ n. n < 2 ^ 16) (sym part.counts.in_flight) (mod-lt (d.used + length taken) (omega arith))
