-- A buffer is posted: the available index is put once its other puts stand.
use Rattle.std.proofs.Common.{◌≡◌, ℕ, suc, ◌+◌, ◌%◌, ◌^◌, ◌<◌, ◌≤◌, List, [], ◌∷◌, ◌++◌, length, drop, true, IsTrue, refl, sym, ◌∙◌, ap, subst, arith, inl, inr, append_assoc, length-append}
use Rattle.std.specs.Prelude.{All}
use Rattle.std.proofs.Math.Nat.{mod-lt}
use Rattle.std.proofs.lemmas.List.{map-append}
use Rattle.std.proofs.lemmas.List.Elements.{All-push}
use Rattle.byteorder.specs.Endian.{little_bytes}
use Rattle.guest_mem.specs.Memory.{part as bytes_at, put_at, Apart}
use Rattle.guest_mem.proofs.Parts.{length-put_at, part-put_at_apart, part-put_at_same}
use Rattle.guest_mem.proofs.Ranges.{Apart-swapped}
use Rattle.vt_types.specs.Access.{AccessValue, Put}
use Rattle.vt_types.specs.Operation.{PostedBuffer}
use Rattle.vq_common.specs.Buffer.{IsPostable}
use Rattle.vt_layout.specs.QueueBlock.{driver_area, device_area, data_address}
use Rattle.vq_common.specs.Queue.{DeviceQueue, DriverQueue, free_slots, slots_of}
use Rattle.vq_split_drv.specs.Driver.{IsSplitQueue}
use Rattle.vq_posted.specs.Free.{is_in, descriptors_in_use, head_of}
use Rattle.port_access.specs.Accesses.{data_puts}
use Rattle.vq_split_drv.specs.Post.{chain_puts, descriptors_for, split_posted}
use Rattle.vq_posted.proofs.Members.{all_at}
use Rattle.vq_common.proofs.PostLaws.{slots_of-some}
use Rattle.abstract_devices.specs.World.{AbstractQueue}
use Rattle.memory_port.specs.Puts.{Hold, AllIn, Agree}
use Rattle.memory_port.proofs.PutLaws.{hold-same, hold-parts, hold-append, all_in-weaker}
use Rattle.ring_part.specs.Held.{Held, UsedHeld, CanStand, HasThese, unreaped_of, held_of, all_held}
use Rattle.ring_part.specs.RingPuts.{held_puts, all_puts, entry_at, entry_puts, element_puts, asks_put, next}
use Rattle.ring_part.specs.RingPart.{RingPart}
use Rattle.ring_part.proofs.Records.{locations_of, in_use}
use Rattle.ring_part.specs.Locations.{Owns, OwnedBy}
use Rattle.ring_part.proofs.Owned.{owned_areas}
use Rattle.ring_part.proofs.PutLocations.{all_owned, asks_in, entries_in}
use Rattle.ring_part.proofs.Lists.{puts-append, all_front, all_back, in_front, in_back}
use Rattle.ring_part.proofs.Elements.{elements_kinds}
use Rattle.ring_part.proofs.Facts as facts
use Rattle.std.proofs.Common.{false, ap}
use Rattle.std.specs.Prelude.{◌==◌}
use Rattle.std.proofs.lemmas.Bool.{or_left, eq-eqb}
use Rattle.vq_common.specs.Queue.{Unreaped, holds_tag, with_buffer}
use Rattle.vq_posted.proofs.Buffers.{lowest_free-apart}
use Rattle.vq_split_drv.proofs.Buffers.{length-descriptors_for}
use Rattle.vq_split_drv.proofs.Queues.{IsSplitQueue-posted, unreaped_for}
use Rattle.vq_split_pair.specs.Pair.{IsInMemory}
use Rattle.abstract_devices.specs.Operate.{buffer_of}
use Rattle.ring_part.specs.Held.{available_of}
use Rattle.ring_part.proofs.Records.{other_heads}
use Rattle.ring_part.proofs.Joined.{has_joined}

-- entries in a row, and then more
entries-append : (base size n : ℕ) (hs ks : List Held) (mem : List ℕ) → n < 2 ^ 16 → Hold (entry_puts base size n hs) mem → Hold (entry_puts base size ((n + length hs) % 2 ^ 16) ks) mem → Hold (entry_puts base size n (hs ++ ks)) mem
entries-append base size n [] ks mem low holds more = let same : (n + 0) % 2 ^ 16 ≡ n = omega arith in subst (λ k. Hold (entry_puts base size k ks) mem) same more
entries-append base size n (h ∷ hs) ks mem low (is, holds) more =
    let same : (n + suc (length hs)) % 2 ^ 16 ≡ (next n + length hs) % 2 ^ 16 = omega arith in
    (is, entries-append base size (next n) hs ks mem (mod-lt (n + 1) (omega arith)) holds (subst (λ k. Hold (entry_puts base size k ks) mem) same more))

-- the puts of a post but the last
abbrev pub front_puts : DriverQueue → PostedBuffer → List ℕ → List AccessValue
front_puts q b locations = (data_puts (data_address q.base (head_of locations)) b.readable ++ chain_puts q b locations) ++ Put (entry_at q.base q.cfg.size q.available) (little_bytes 2 (head_of locations)) ∷ []

module _ {mem : List ℕ} {a : AbstractQueue} {d : DeviceQueue} {q : DriverQueue} {used : List UsedHeld} {taken waiting : List Held} (part : RingPart mem a d q used taken waiting) (b : PostedBuffer) (n : ℕ) (ns : List ℕ)
    (got : descriptors_for q b ≡ n ∷ ns) (postable : IsPostable b) (room : slots_of b ≤ free_slots q) (new_tag : holds_tag b.tag q.unreaped ≡ false) (table : IsTrue b.indirect → length b.lengths ≤ q.cfg.size) (feature : IsTrue b.indirect → IsTrue q.cfg.indirect)
    (front : Hold (front_puts q b (n ∷ ns)) mem) where
  abbrev h : Held
  h = record { buffer = b; head = n; others = ns }

  abbrev at_index : ℕ
  at_index = driver_area q.base + 2

  abbrev after : DriverQueue
  after = split_posted q b

  abbrev memory : List ℕ
  memory = put_at mem at_index (little_bytes 2 (next q.available))

  abbrev more : AbstractQueue
  more = record a { available = a.available ++ buffer_of b ∷ [] }

  -- it is the last
  lists : all_held used taken waiting ++ h ∷ [] ≡ all_held used taken (waiting ++ h ∷ [])
  lists = append_assoc (held_of used) (taken ++ waiting) (h ∷ []) ∙ ap (λ hs. held_of used ++ hs) (append_assoc taken waiting (h ∷ []))

  kept_is : unreaped_of h ≡ unreaped_for q b
  kept_is = ap (λ (ds : List ℕ). record { tag = b.tag; id = head_of ds; descriptors = ds; slots = slots_of b; readable = length b.readable }) (sym got)

  -- no other buffer has its head
  new_head : All (λ (k : Held). n ≡ k.head → ⊥) (all_held used taken waiting)
  new_head =
      let mine : is_in n (descriptors_for q b) ≡ true = ap (is_in n) got ∙ or_left (n == n) (is_in n ns) (eq-eqb n n refl) in
      other_heads n (all_held used taken waiting)
      (sym (in_use q.unreaped (all_held used taken waiting) part.buffers.these n) ∙ lowest_free-apart q.cfg.size (slots_of b) q.unreaped n mine)

  has : HasThese after.unreaped (all_held used taken (waiting ++ h ∷ []))
  has =
      subst (HasThese after.unreaped) lists
      (subst (λ (u : Unreaped). HasThese (with_buffer u q.unreaped) (all_held used taken waiting ++ h ∷ [])) kept_is (has_joined q.unreaped (all_held used taken waiting) h new_head part.buffers.these))

  can : CanStand q.cfg h
  can = record { postable = postable; count = ap length (sym got) ∙ length-descriptors_for q b part.queue room; table = table; feature = feature }

  stands : All (CanStand q.cfg) (all_held used taken (waiting ++ h ∷ []))
  stands = subst (All (CanStand q.cfg)) lists (All-push (CanStand q.cfg) (all_held used taken waiting) h part.buffers.each can)

  queue_after : IsSplitQueue after
  queue_after = IsSplitQueue-posted q b part.queue postable room new_tag

  slot_low : (k : ℕ) → k % q.cfg.size < q.cfg.size
  slot_low k = mod-lt k (facts.size_some part)

  size_low : q.cfg.size ≤ 1024
  size_low = facts.size_low part

  inside : q.base + 0x1000000 ≤ length mem
  inside = part.block.inside

  long : length memory ≡ length mem
  long = length-put_at mem at_index (little_bytes 2 (next q.available)) (omega (arith, inside))

  -- all but the index, before the index is put
  entries_before : Hold (entry_puts q.base q.cfg.size d.taken (waiting ++ h ∷ [])) mem
  entries_before =
      let (others, last) = hold-parts (data_puts (data_address q.base n) b.readable ++ chain_puts q b (n ∷ ns)) (Put (entry_at q.base q.cfg.size q.available) (little_bytes 2 n) ∷ []) mem front in
      entries-append q.base q.cfg.size d.taken waiting (h ∷ []) mem (facts.taken_low part) part.entries (subst (λ k. Hold (Put (entry_at q.base q.cfg.size k) (little_bytes 2 n) ∷ []) mem) part.counts.to_take last)

  puts_before : Hold (all_puts q.cfg q.base (taken ++ (waiting ++ h ∷ []))) mem
  puts_before =
      let (mine, last) = hold-parts (data_puts (data_address q.base n) b.readable ++ chain_puts q b (n ∷ ns)) (Put (entry_at q.base q.cfg.size q.available) (little_bytes 2 n) ∷ []) mem front in
      subst (λ hs. Hold (all_puts q.cfg q.base hs) mem) (append_assoc taken waiting (h ∷ []))
      (puts-append q.cfg q.base (taken ++ waiting) (h ∷ []) mem part.puts (hold-append (held_puts q.cfg q.base h) [] mem mine tt))

  -- the index is apart from all else
  low : (k : ℕ) → is_in k (locations_of (all_held used taken (waiting ++ h ∷ []))) ≡ true → k < 1024
  low k m =
      let less : k < q.cfg.size
      = all_at (λ n. n < q.cfg.size) (descriptors_in_use after.unreaped) k queue_after.order.below (in_use after.unreaped (all_held used taken (waiting ++ h ∷ [])) has k ∙ m)
      in
      omega (arith, size_low)

  owned_away : (k b m : ℕ) → k < 1024 → Owns q.base k b m → Apart at_index 2 b m
  owned_away k b m small owns = Apart-swapped b m at_index 2 (owned_areas q.base k b m at_index 2 small (omega arith) (omega arith) owns)

  elements_away : AllIn (Apart at_index 2) (element_puts q.base q.cfg.size q.used used)
  elements_away =
      elements_kinds (Apart at_index 2) q.cfg q.base q.cfg.size q.used used part.queue.used (all_front (CanStand q.cfg) (held_of used) (taken ++ waiting) part.buffers.each) part.buffers.fit (λ i less. inl (omega arith))
      (λ b m (k, is, owns). owned_away k b m (low k (in_front k (held_of used) (taken ++ (waiting ++ h ∷ [])) is)) owns)

  puts_away : AllIn (Apart at_index 2) (all_puts q.cfg q.base (taken ++ (waiting ++ h ∷ [])))
  puts_away =
      let hs : List Held = taken ++ (waiting ++ h ∷ []) in
      all_in-weaker (OwnedBy q.base (locations_of hs)) (Apart at_index 2) (λ b m (k, is, owns). owned_away k b m (low k (in_back k (held_of used) hs is)) owns) (all_puts q.cfg q.base hs)
      (all_owned q.cfg q.base hs (all_back (CanStand q.cfg) (held_of used) hs stands))

  -- the ring part with one more, as if the index were there already
  posted_with : (mem2 : List ℕ) → length mem2 ≡ length mem → Agree (Apart at_index 2) mem mem2 → bytes_at mem2 at_index 2 ≡ little_bytes 2 (next q.available) → RingPart mem2 more d after used taken (waiting ++ h ∷ [])
  posted_with mem2 long same index =
      let P = Apart at_index 2 in
      let available : q.available ≡ (d.taken + length waiting) % 2 ^ 16 = part.counts.to_take in
      record {
        same = part.same;
        block = subst (λ k. IsInMemory k q.cfg q.base) (sym long) part.block;
        queue = queue_after;
        buffers = record { these = has; each = stands; fit = part.buffers.fit };
        lists = record { available = ap (λ bs. bs ++ buffer_of b ∷ []) part.lists.available ∙ sym (map-append available_of waiting (h ∷ [])); finished = part.lists.finished };
        counts = record { to_reap = part.counts.to_reap; in_flight = part.counts.in_flight; to_take = omega (arith, available, length-append waiting (h ∷ [])) };
        indices = (
          index,
          (
            same (device_area q.base + 2) 2 (inl (omega arith)) ∙ part.indices.1.0,
            hold-same P mem mem2 same (asks_put q.cfg q.base a.mode q.used ∷ []) (asks_in P q.cfg q.base a.mode q.used (inl (omega arith)) (inr (omega arith))) part.indices.1.1,
          ),
        );
        entries = hold-same P mem mem2 same (entry_puts q.base q.cfg.size d.taken (waiting ++ h ∷ [])) (entries_in P q.base q.cfg.size d.taken (waiting ++ h ∷ []) (facts.taken_low part) (λ i less. inl (omega arith))) entries_before;
        elements = hold-same P mem mem2 same (element_puts q.base q.cfg.size q.used used) elements_away part.elements;
        puts = hold-same P mem mem2 same (all_puts q.cfg q.base (taken ++ (waiting ++ h ∷ []))) puts_away puts_before;
      }

  -- the index is put
  pub posted : RingPart memory more d after used taken (waiting ++ h ∷ [])
  posted =
      posted_with memory long (λ b m apart. part-put_at_apart mem at_index (little_bytes 2 (next q.available)) b m (omega (arith, inside)) apart)
      (part-put_at_same mem at_index (little_bytes 2 (next q.available)) (omega (arith, inside)))

-- the buffer with the descriptors that it gets
abbrev pub held_for : DriverQueue → PostedBuffer → Held
held_for q b = record { buffer = b; head = head_of (descriptors_for q b); others = drop 1 (descriptors_for q b) }

-- some descriptors are the first and the others
pub head_first : (q : DriverQueue) (b : PostedBuffer) (locations : List ℕ) → 1 ≤ length locations → locations ≡ head_of locations ∷ drop 1 locations
head_first q b [] some = absurd (omega arith)
head_first q b (n ∷ ns) some = refl

-- the same, of the descriptors that the driver gives it
pub posted_now : {mem : List ℕ} {a : AbstractQueue} {d : DeviceQueue} {q : DriverQueue} {used : List UsedHeld} {taken waiting : List Held} (part : RingPart mem a d q used taken waiting) (b : PostedBuffer)
    → IsPostable b → slots_of b ≤ free_slots q → holds_tag b.tag q.unreaped ≡ false → (IsTrue b.indirect → length b.lengths ≤ q.cfg.size) → (IsTrue b.indirect → IsTrue q.cfg.indirect)
    → Hold (front_puts q b (descriptors_for q b)) mem
    → RingPart (put_at mem (driver_area q.base + 2) (little_bytes 2 (next q.available))) (record a { available = a.available ++ buffer_of b ∷ [] }) d (split_posted q b) used taken (waiting ++ held_for q b ∷ [])
posted_now {mem} {q = q} part b postable room new_tag table feature front =
    let long : length (descriptors_for q b) ≡ slots_of b = length-descriptors_for q b part.queue room in
    let (some, few) = slots_of-some b postable in
    let got = head_first q b (descriptors_for q b) (omega arith) in
    posted part b (head_of (descriptors_for q b)) (drop 1 (descriptors_for q b)) got postable room new_tag table feature (subst (λ ps. Hold (front_puts q b ps) mem) got front)
