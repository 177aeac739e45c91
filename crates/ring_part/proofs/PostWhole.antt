-- A whole post: all its puts, and the index last.
use Rattle.std.proofs.Common.{◌≡◌, ℕ, ◌+◌, ◌%◌, ◌<◌, ◌≤◌, List, [], ◌∷◌, ◌++◌, length, false, IsTrue, refl, sym, ◌∙◌, ap, subst, arith, append_assoc}
use Rattle.std.specs.Prelude.{All}
use Rattle.std.proofs.Math.Nat.{mod-lt}
use Rattle.byteorder.specs.Endian.{little_bytes}
use Rattle.guest_mem.specs.Memory.{put_at}
use Rattle.vt_types.specs.Access.{AccessValue, Put}
use Rattle.vt_types.specs.Operation.{PostedBuffer}
use Rattle.vt_types.specs.Tables.{after_all}
use Rattle.port_access.specs.Accesses.{data_puts}
use Rattle.vq_common.specs.Buffer.{IsPostable}
use Rattle.vt_layout.specs.QueueBlock.{data_address, driver_area}
use Rattle.vq_common.specs.Queue.{DeviceQueue, DriverQueue, free_slots, holds_tag, slots_of}
use Rattle.vq_common.proofs.PostLaws.{slots_of-some}
use Rattle.vq_posted.specs.Free.{head_of, is_distinct, is_in}
use Rattle.vq_posted.proofs.Buffers.{lowest_free-apart}
use Rattle.vq_posted.proofs.Members.{all_at}
use Rattle.vq_split_drv.specs.Post.{chain_puts, descriptors_for, split_post_accesses, split_posted}
use Rattle.vq_split_drv.proofs.Buffers.{descriptors_for-below, descriptors_for-distinct, length-descriptors_for}
use Rattle.vq_split_pair.proofs.Written.{written, written-append, written_put}
use Rattle.memory_port.specs.MemoryTable.{memory_table}
use Rattle.abstract_devices.specs.World.{AbstractQueue}
use Rattle.abstract_devices.specs.Operate.{buffer_of}
use Rattle.ring_part.specs.Held.{Held, UsedHeld, CanStand}
use Rattle.ring_part.specs.Laws.{ChangedBy}
use Rattle.ring_part.specs.Locations.{IsFreeLocation, OfDescriptor, AtEntry, OwnedBy}
use Rattle.ring_part.specs.RingPart.{RingPart}
use Rattle.ring_part.specs.RingPuts.{entry_at, held_puts, next}
use Rattle.memory_port.specs.Puts.{AllApart, AllIn}
use Rattle.ring_part.proofs.Facts as facts
use Rattle.ring_part.proofs.Posted.{front_puts, held_for, posted_now, head_first}
use Rattle.ring_part.proofs.Free.{free_inside}
use Rattle.ring_part.proofs.PostPuts.{front_apart, puts_kept}
use Rattle.ring_part.proofs.PutsApart.{puts_change}
use Rattle.ring_part.proofs.PutLocations.{held_owned}
use Rattle.memory_port.proofs.PutLaws.{all_in-append, all_in-weaker}

-- a buffer that fits is posted, with a tag of its own
module _ {mem : List ℕ} {a : AbstractQueue} {d : DeviceQueue} {q : DriverQueue} {used : List UsedHeld} {taken waiting : List Held} (part : RingPart mem a d q used taken waiting) (b : PostedBuffer)
    (postable : IsPostable b) (room : slots_of b ≤ free_slots q) (new_tag : holds_tag b.tag q.unreaped ≡ false) (table : IsTrue b.indirect → length b.lengths ≤ q.cfg.size) (feature : IsTrue b.indirect → IsTrue q.cfg.indirect) where
  abbrev h : Held
  h = held_for q b

  abbrev front : List AccessValue
  front = front_puts q b (descriptors_for q b)

  count : length (descriptors_for q b) ≡ slots_of b
  count = length-descriptors_for q b part.queue room

  got : descriptors_for q b ≡ h.head ∷ h.others
  got = let (some, few) = slots_of-some b postable in head_first q b (descriptors_for q b) (omega (arith, count))

  can : CanStand q.cfg h
  can = record { postable = postable; count = ap length (sym got) ∙ count; table = table; feature = feature }

  below : All (λ k. k < q.cfg.size) (h.head ∷ h.others)
  below = subst (All (λ k. k < q.cfg.size)) got (descriptors_for-below q b)

  distinct : IsTrue (is_distinct (h.head ∷ h.others))
  distinct = subst (λ (ns : List ℕ). IsTrue (is_distinct ns)) got (descriptors_for-distinct q b)

  slot_low : q.available % q.cfg.size < q.cfg.size
  slot_low = mod-lt q.available (facts.size_some part)

  -- all puts but that of the index are in free locations
  pub front_free : AllIn (IsFreeLocation q) front
  front_free =
      let (some, few) = slots_of-some b postable in
      subst (λ (ns : List ℕ). AllIn (IsFreeLocation q) (front_puts q b ns)) (sym got)
      (all_in-append (IsFreeLocation q) (held_puts q.cfg q.base h) (Put (entry_at q.base q.cfg.size q.available) (little_bytes 2 h.head) ∷ [])
      (all_in-weaker (OwnedBy q.base (h.head ∷ h.others)) (IsFreeLocation q) (λ addr count (k, m, owns). OfDescriptor k (lowest_free-apart q.cfg.size (slots_of b) q.unreaped k (ap (is_in k) got ∙ m)) (all_at (λ k. k < q.cfg.size) (h.head ∷ h.others) k below m) owns)
      (held_puts q.cfg q.base h)
      (held_owned q.cfg q.base h can))
      (AtEntry (omega arith) refl refl, tt))

  -- and lie apart
  pub front_lies_apart : AllApart front
  front_lies_apart =
      subst (λ (ns : List ℕ). AllApart (front_puts q b ns)) (sym got)
      (front_apart q h can below distinct (facts.size_low part) (entry_at q.base q.cfg.size q.available) (little_bytes 2 h.head) refl (omega arith) (omega (arith, slot_low, facts.size_low part)))

  abbrev index_at : ℕ
  index_at = driver_area q.base + 2

  abbrev index : List ℕ
  index = little_bytes 2 (next q.available)

  -- the index is put last
  pub index_is_last : split_post_accesses q b ≡ front ++ Put index_at index ∷ []
  index_is_last =
      let locations : List ℕ = descriptors_for q b in
      sym (append_assoc (data_puts (data_address q.base (head_of locations)) b.readable ++ chain_puts q b locations) (Put (entry_at q.base q.cfg.size q.available) (little_bytes 2 (head_of locations)) ∷ []) (Put index_at index ∷ []))

  all_is : index_at + 2 ≤ length (written front mem) → after_all memory_table (split_post_accesses q b) mem ≡ put_at (written front mem) index_at index
  all_is fits = ap (λ (puts : List AccessValue). written puts mem) index_is_last ∙ written-append front (Put index_at index ∷ []) mem ∙ written_put index_at index [] (written front mem) fits

  -- after all puts of a post it is the last that waits
  pub posted_all : RingPart (after_all memory_table (split_post_accesses q b) mem) (record a { available = a.available ++ buffer_of b ∷ [] }) d (split_posted q b) used taken (waiting ++ h ∷ [])
  posted_all =
      let (kept, stand) = puts_kept front mem part front_free front_lies_apart in
      let inside : q.base + 0x1000000 ≤ length (written front mem) = kept.block.inside in
      subst (λ (m : List ℕ). RingPart m (record a { available = a.available ++ buffer_of b ∷ [] }) d (split_posted q b) used taken (waiting ++ h ∷ []))
      (sym (all_is (omega (arith, inside)))) (posted_now kept b postable room new_tag table feature stand)

  -- and nothing else is changed
  pub post_changes : ChangedBy (split_post_accesses q b) mem (after_all memory_table (split_post_accesses q b) mem)
  post_changes =
      let inside : q.base + 0x1000000 ≤ length mem = part.block.inside in
      puts_change (split_post_accesses q b) mem
      (subst (AllIn (λ b n. b + n ≤ length mem)) (sym index_is_last)
      (all_in-append (λ b n. b + n ≤ length mem) front (Put index_at index ∷ []) (all_in-weaker (IsFreeLocation q) (λ b n. b + n ≤ length mem) (free_inside part) front front_free) (omega arith, tt)))
