-- A driver's record of a split queue: just set, with one buffer more, and with one fewer.
use Rattle.std.proofs.Common.{◌≡◌, ℕ, ◌+◌, ◌<◌, ◌≤◌, [], length, take, false, Some, refl, sym, ap, subst, arith}
use Rattle.std.specs.Prelude.{All, IsTrue}
use Rattle.std.proofs.Math.Nat.{mod-lt}
use Rattle.std.proofs.lemmas.List.Elements.{All-nil}
use Rattle.vt_types.specs.Operation.{PostedBuffer}
use Rattle.vq_common.specs.declared.chain.RingCfg.{RingCfg}
use Rattle.vq_common.specs.Buffer.{IsPostable}
use Rattle.vq_common.specs.Queue.{DriverQueue, Unreaped, free_slots, holds_tag, is_ring_size, new_driver_queue, slots_of, unreaped_with}
use Rattle.vq_common.proofs.PostLaws.{readable-le, slots_of-some}
use Rattle.vq_common.proofs.QueueLaws.{ring_size_facts}
use Rattle.vq_posted.specs.Free.{free_descriptors, head_of}
use Rattle.vq_posted.specs.Order.{IsBuffer, IsInOrder}
use Rattle.vq_posted.proofs.Buffers.{joins, leaves}
use Rattle.vq_posted.proofs.Members.{all_with, all_without}
use Rattle.vq_posted.proofs.Rising.{in_order_with, in_order_without}
use Rattle.vq_split_drv.specs.Driver.{IsSplitBuffer, IsSplitQueue}
use Rattle.vq_split_drv.specs.Post.{descriptors_for, split_posted}
use Rattle.vq_split_drv.specs.Reap.{split_reaped}
use Rattle.vq_split_drv.proofs.Buffers.{head_of_free, length-descriptors_for}

-- no buffers are in order
pub in_order_none : (size : ℕ) → IsInOrder size []
in_order_none size = record { each = All-nil IsBuffer; below = All-nil (λ n. n < size); distinct = refl; slots = omega arith; ids = refl; tags = refl }

-- a queue that was just set
pub IsSplitQueue-new : (cfg : RingCfg) (base : ℕ) → IsTrue (is_ring_size cfg.size) → IsSplitQueue (new_driver_queue cfg base)
IsSplitQueue-new cfg base size =
    record { size = (ring_size_facts cfg.size size).few; available = omega arith; used = omega arith; order = in_order_none cfg.size; each = All-nil IsSplitBuffer }

-- what is kept of a buffer that is posted
abbrev pub unreaped_for : DriverQueue → PostedBuffer → Unreaped
unreaped_for q b = record { tag = b.tag; id = head_of (descriptors_for q b); descriptors = descriptors_for q b; slots = slots_of b; readable = length b.readable }

-- a buffer with a tag of its own is posted
pub IsSplitQueue-posted : (q : DriverQueue) (b : PostedBuffer) → IsSplitQueue q → IsPostable b → slots_of b ≤ free_slots q → holds_tag b.tag q.unreaped ≡ false → IsSplitQueue (split_posted q b)
IsSplitQueue-posted q b is postable room new =
    let u : Unreaped = unreaped_for q b in
    let count : length (descriptors_for q b) ≡ slots_of b = length-descriptors_for q b is room in
    let (some, few) = slots_of-some b postable in
    let buffer : IsBuffer u = record { some = omega arith; few = omega arith; id = refl; slots = omega arith; readable = readable-le b postable } in
    let lowest : descriptors_for q b ≡ take (length (descriptors_for q b)) (free_descriptors q.cfg.size q.unreaped) = ap (λ (n : ℕ). take n (free_descriptors q.cfg.size q.unreaped)) (sym count) in
    let (front, back, j) = joins u q.unreaped in
    record {
      size = is.size;
      available = mod-lt (q.available + 1) (omega arith);
      used = is.used;
      order = in_order_with q.cfg.size u q.unreaped is.order buffer lowest room new;
      each =
          subst (All IsSplitBuffer) (sym j.all)
          (all_with IsSplitBuffer front u back (subst (All IsSplitBuffer) j.others is.each) (record { slots = sym count; id = head_of_free q.cfg.size (slots_of b) q.unreaped is.size }));
    }

-- one of them is reaped
pub IsSplitQueue-reaped : (q : DriverQueue) (u : Unreaped) → IsSplitQueue q → unreaped_with u.id q.unreaped ≡ Some u → IsSplitQueue (split_reaped q u)
IsSplitQueue-reaped q u is found =
    let (front, back, l) = leaves u.id u q.unreaped found in
    record {
      size = is.size;
      available = is.available;
      used = mod-lt (q.used + 1) (omega arith);
      order = in_order_without q.cfg.size u.id u q.unreaped is.order found;
      each = subst (All IsSplitBuffer) (sym l.others) (all_without IsSplitBuffer front u back (subst (All IsSplitBuffer) l.all is.each));
    }
