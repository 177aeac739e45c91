-- What the driver posts is what the device is shown.
use Rattle.std.proofs.Common.{◌≡◌, ℕ, ◌+◌, ◌-◌, ◌*◌, ◌%◌, ◌^◌, ◌<◌, ◌≤◌, List, [], ◌∷◌, ◌++◌, length, IsTrue, Some, inl, inr, sym, ◌∙◌, ap, subst, arith}
use Rattle.std.specs.Prelude.{All, sum}
use Rattle.std.proofs.lemmas.Bool.{cases_Bool, cond-true, cond-false}
use Rattle.std.proofs.lemmas.List.Elements.{All-head}
use Rattle.guest_mem.specs.Memory.{part, le16_at}
use Rattle.vt_types.specs.Access.{AccessValue}
use Rattle.vt_types.specs.Operation.{PostedBuffer}
use Rattle.vt_types.specs.Tables.{after_all}
use Rattle.vq_common.specs.declared.chain.Piece.{Piece}
use Rattle.vq_common.specs.declared.chain.RingCfg.{RingCfg}
use Rattle.vq_common.specs.Buffer.{IsPostable}
use Rattle.vq_common.specs.Descriptor.{chain_from}
use Rattle.vt_layout.specs.QueueBlock.{data_address, device_area, driver_area}
use Rattle.vq_common.specs.Queue.{DeviceQueue, DriverQueue, free_slots, slots_of}
use Rattle.vq_split_dev.specs.Walk.{chain_pieces, next_head, waiting_heads}
use Rattle.vq_split_drv.specs.Cost.{readable-le}
use Rattle.vq_split_drv.specs.Driver.{IsSplitQueue}
use Rattle.port_access.specs.Accesses.{data_puts}
use Rattle.vq_split_drv.specs.Post.{available_puts, chain_puts, descriptors_for, direct_puts, indirect_puts, post_puts, split_post_accesses}
use Rattle.vq_split_drv.proofs.Buffers.{descriptors_for-below, descriptors_for-distinct, length-descriptors_for, slots_of-some}
use Rattle.memory_port.specs.MemoryTable.{memory_table}
use Rattle.vq_split_pair.specs.Pair.{HasTakenAll, IsInMemory, ShowsBuffer}
use Rattle.vq_split_pair.proofs.BufferChains.{IsChain}
use Rattle.vq_split_pair.proofs.ChainParts.{direct_after, direct_within, indirect_after, indirect_within}
use Rattle.vq_common.specs.Piece.{pieces_from}
use Rattle.vq_split_pair.proofs.Pieces.{pieces_keep_rules, readable_are, room_is}
use Rattle.vq_split_pair.proofs.PostParts.{IsAvailable, available_read, available_within, data_read, data_within, size_bounds}
use Rattle.vq_split_pair.proofs.WalkLaws.{areas_fit, one_waits, walk_front}
use Rattle.vq_split_pair.proofs.Written.{IsPutWithin, IsPutWithin-wider, length-written, part-written, written, written-append}
use Rattle.vq_posted.specs.Free.{is_distinct}

-- the ring shows a buffer where one more head waits, the descriptors make its chain, and its data is there
shown : (mem : List ℕ) (q : DriverQueue) (b : PostedBuffer) (head : ℕ) (d : DeviceQueue) → IsInMemory (length mem) q.cfg q.base → q.available < 2 ^ 16 → IsPostable b → head < q.cfg.size → IsAvailable mem q head → IsChain mem q b head
    → part mem (data_address q.base head) (length b.readable) ≡ b.readable → HasTakenAll q d → ShowsBuffer mem d b
shown mem q b head d ring wraps postable low available chain bytes taken =
    let location : ℕ = data_address q.base head in
    let ps : List Piece = pieces_from location b.readable_pieces b.lengths in
    let (some, few) = size_bounds q.cfg.size ring.size in
    let inside : q.base + 0x1000000 ≤ length mem = ring.inside in
    let total : sum b.lengths ≤ 8192 = postable.total in
    let size : d.cfg.size ≡ q.cfg.size = ap (λ (c : RingCfg). c.size) taken.ring in
    let desc : d.cfg.desc ≡ q.base = ap (λ (c : RingCfg). c.desc) taken.ring ∙ ring.in_block.desc in
    let driver : d.cfg.driver ≡ driver_area q.base = ap (λ (c : RingCfg). c.driver) taken.ring ∙ ring.in_block.driver in
    let device : d.cfg.device ≡ device_area q.base = ap (λ (c : RingCfg). c.device) taken.ring ∙ ring.in_block.device in
    let waiting : waiting_heads mem d ≡ 1
    = ap (λ (a : ℕ). (le16_at mem (a + 2) + 2 ^ 16 - d.taken) % 2 ^ 16) driver
    ∙ ap (λ (i : ℕ). (i + 2 ^ 16 - d.taken) % 2 ^ 16) available.index
    ∙ ap (λ (t : ℕ). ((q.available + 1) % 2 ^ 16 + 2 ^ 16 - t) % 2 ^ 16) taken.taken
    ∙ one_waits q.available wraps
    in
    let next : next_head mem d ≡ head
    = ap (λ (a : ℕ). le16_at mem (a + (4 + 2 * (d.taken % d.cfg.size)))) driver
    ∙ ap (λ (n : ℕ). le16_at mem (driver_area q.base + (4 + 2 * (d.taken % n)))) size
    ∙ ap (λ (t : ℕ). le16_at mem (driver_area q.base + (4 + 2 * (t % q.cfg.size)))) taken.taken
    ∙ available.entry
    in
    let walk : chain_from d.cfg.size mem d.cfg.desc d.cfg.size head ≡ Some chain.descriptors
    = ap (λ (n : ℕ). chain_from n mem d.cfg.desc n head) size ∙ ap (λ (a : ℕ). chain_from q.cfg.size mem a q.cfg.size head) desc ∙ chain.chain
    in
    let pieces : chain_pieces mem d.cfg chain.descriptors ≡ Some ps = ap (λ (c : RingCfg). chain_pieces mem c chain.descriptors) taken.ring ∙ chain.pieces in
    record {
      chain = record { id = head; slots = length chain.descriptors; pieces = ps };
      front =
          walk_front mem d head 1 chain.descriptors ps (areas_fit (length mem) d.cfg (omega arith) (omega arith) (omega arith)) (omega arith) (omega arith) waiting next walk pieces
          (pieces_keep_rules (length mem) location b postable (omega arith));
      readable = readable_are mem location b.readable_pieces b.lengths ∙ ap (λ (n : ℕ). part mem location n) (sym postable.readable) ∙ bytes;
      room = room_is location b.readable_pieces b.lengths;
      slots = chain.slots;
    }

-- puts below the data, and then those that make a buffer available, leave the data
data_stays : (mem : List ℕ) (q : DriverQueue) (head n : ℕ) (puts : List AccessValue) → IsInMemory (length mem) q.cfg q.base → All (IsPutWithin q.base 0x400000) puts
    → part (written (available_puts q head) (written puts mem)) (data_address q.base head) n ≡ part mem (data_address q.base head) n
data_stays mem q head n puts ring within =
    let location : ℕ = data_address q.base head in
    let inside : q.base + 0x1000000 ≤ length mem = ring.inside in
    let same : length (written puts mem) ≡ length mem = length-written q.base 0x400000 puts mem (omega arith) within in
    part-written (driver_area q.base) 0x2000 (available_puts q head) (written puts mem) location n (omega arith) (available_within q (length mem) head ring) (inl (omega arith))
    ∙ part-written q.base 0x400000 puts mem location n (omega arith) within (inl (omega arith))

-- a buffer is shown after the puts of its data, of its descriptors and of its head
shown_after : (mem : List ℕ) (q : DriverQueue) (b : PostedBuffer) (head : ℕ) (d : DeviceQueue) (puts : List AccessValue) → IsInMemory (length mem) q.cfg q.base → q.available < 2 ^ 16 → IsPostable b → head < q.cfg.size
    → All (IsPutWithin q.base 0x400000) puts
    → ((m : List ℕ) → IsInMemory (length m) q.cfg q.base → IsChain (written (available_puts q head) (written puts m)) q b head)
    → HasTakenAll q d → ShowsBuffer (written (data_puts (data_address q.base head) b.readable ++ puts ++ available_puts q head) mem) d b
shown_after mem q b head d puts ring wraps postable low within chain taken =
    let location : ℕ = data_address q.base head in
    let first : List AccessValue = data_puts location b.readable in
    let (some, few) = size_bounds q.cfg.size ring.size in
    let inside : q.base + 0x1000000 ≤ length mem = ring.inside in
    let short : length b.readable ≤ 8192 = readable-le b postable in
    let one : List ℕ = written first mem in
    let two : List ℕ = written puts one in
    let three : List ℕ = written (available_puts q head) two in
    let long : length one ≡ length mem = length-written location 8192 first mem (omega arith) (data_within location 8192 b.readable short) in
    let ring1 : IsInMemory (length one) q.cfg q.base = subst (λ (n : ℕ). IsInMemory n q.cfg q.base) (sym long) ring in
    let long2 : length two ≡ length one = length-written q.base 0x400000 puts one (omega arith) within in
    let ring2 : IsInMemory (length two) q.cfg q.base = subst (λ (n : ℕ). IsInMemory n q.cfg q.base) (sym long2) ring1 in
    let long3 : length three ≡ length two = length-written (driver_area q.base) 0x2000 (available_puts q head) two (omega arith) (available_within q (length two) head ring2) in
    let ring3 : IsInMemory (length three) q.cfg q.base = subst (λ (n : ℕ). IsInMemory n q.cfg q.base) (sym long3) ring2 in
    let whole : written (first ++ puts ++ available_puts q head) mem ≡ three
    = written-append (first ++ puts) (available_puts q head) mem ∙ ap (written (available_puts q head)) (written-append first puts mem)
    in
    subst (λ (m : List ℕ). ShowsBuffer m d b) (sym whole)
    (shown three q b head d ring3 wraps postable low (available_read two q head ring2 (omega arith)) (chain one ring1)
    (data_stays one q head (length b.readable) puts ring1 within ∙ data_read location b.readable mem (omega arith)) taken)

-- a buffer is shown after a post with these descriptors: different ones of the ring, as many as its slots
posted_with : (mem : List ℕ) (q : DriverQueue) (b : PostedBuffer) (d : DeviceQueue) (locations : List ℕ) → IsInMemory (length mem) q.cfg q.base → q.available < 2 ^ 16 → IsPostable b → slots_of b ≤ q.cfg.size
    → (IsTrue b.indirect → length b.lengths ≤ q.cfg.size) → (IsTrue b.indirect → IsTrue q.cfg.indirect)
    → length locations ≡ slots_of b → All (λ n. n < q.cfg.size) locations → IsTrue (is_distinct locations)
    → HasTakenAll q d → ShowsBuffer (written (post_puts q b locations) mem) d b
posted_with mem q b d [] ring wraps postable room table feature many below distinct taken = let (some, few) = slots_of-some b postable in absurd (omega arith)
posted_with mem q b d (n ∷ ns) ring wraps postable room table feature many below distinct taken =
    let low : n < q.cfg.size = All-head (λ k. k < q.cfg.size) n ns below in
    let (some, few) = size_bounds q.cfg.size ring.size in
    elim (cases_Bool b.indirect) [
      | inl indirect ↦
          let puts : chain_puts q b (n ∷ ns) ≡ indirect_puts q b n = cond-true b.indirect (indirect_puts q b n) (direct_puts q b (n ∷ ns)) indirect in
          subst (λ (ps : List AccessValue). ShowsBuffer (written (data_puts (data_address q.base n) b.readable ++ ps ++ available_puts q n) mem) d b) (sym puts)
          (shown_after mem q b n d (indirect_puts q b n) ring wraps postable low (indirect_within q b n postable.few (omega arith))
          (λ m inside. indirect_after m q b n inside postable indirect (feature indirect) (table indirect) low) taken)
      | inr direct ↦
          let slots : slots_of b ≡ length b.lengths = cond-false b.indirect 1 (length b.lengths) direct in
          let puts : chain_puts q b (n ∷ ns) ≡ direct_puts q b (n ∷ ns) = cond-false b.indirect (indirect_puts q b n) (direct_puts q b (n ∷ ns)) direct in
          subst (λ (ps : List AccessValue). ShowsBuffer (written (data_puts (data_address q.base n) b.readable ++ ps ++ available_puts q n) mem) d b) (sym puts)
          (shown_after mem q b n d (direct_puts q b (n ∷ ns)) ring wraps postable low
          (IsPutWithin-wider q.base (16 * q.cfg.size) q.base 0x400000 (direct_puts q b (n ∷ ns)) (omega arith) (omega arith) (direct_within q b n ns (many ∙ slots) below))
          (λ m inside. direct_after m q b n ns inside postable direct (omega arith) (many ∙ slots) below distinct) taken)
    ]

-- what is posted over guest memory is what the ring shows next, once the chains before it are taken
pub posted_is_shown : (mem : List ℕ) (q : DriverQueue) (b : PostedBuffer) (d : DeviceQueue) → IsInMemory (length mem) q.cfg q.base → IsSplitQueue q → IsPostable b → slots_of b ≤ free_slots q
    → (IsTrue b.indirect → length b.lengths ≤ q.cfg.size) → (IsTrue b.indirect → IsTrue q.cfg.indirect) → HasTakenAll q d → ShowsBuffer (after_all memory_table (split_post_accesses q b) mem) d b
posted_is_shown mem q b d ring is postable room table feature taken =
    posted_with mem q b d (descriptors_for q b) ring is.available postable (omega arith) table feature (length-descriptors_for q b is room) (descriptors_for-below q b) (descriptors_for-distinct q b) taken
