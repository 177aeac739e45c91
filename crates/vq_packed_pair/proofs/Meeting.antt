-- What the driver posts is what the device is shown.
use Rattle.std.proofs.Common.{◌≡◌, ℕ, ◌+◌, ◌*◌, ◌<◌, ◌≤◌, List, [], ◌∷◌, length, take, true, IsTrue, Some, inl, sym, refl, ◌∙◌, ap, subst, arith}
use Rattle.std.specs.Prelude.{◌&&◌, nat_le, sum}
use Rattle.std.proofs.lemmas.Bool.{and_from, cond-true, le-leb}
use Rattle.guest_mem.specs.Memory.{part}
use Rattle.vt_types.specs.Access.{AccessValue}
use Rattle.vt_types.specs.Operation.{PostedBuffer}
use Rattle.port_access.specs.Accesses.{data_puts}
use Rattle.vq_common.specs.declared.chain.Piece.{Piece}
use Rattle.vq_common.specs.declared.chain.RingCfg.{RingCfg}
use Rattle.vq_common.specs.declared.packed_descriptor.PackedDescriptor.{PackedDescriptor}
use Rattle.vq_common.specs.Buffer.{IsPostable}
use Rattle.vq_common.specs.Chain.{Bad, Empty, Front, chain_if_valid}
use Rattle.vt_layout.specs.QueueBlock.{data_address, device_area, driver_area}
use Rattle.vq_common.specs.PackedDescriptor.{is_available, packed_descriptor_at}
use Rattle.vq_common.specs.Piece.{keeps_rules}
use Rattle.vq_common.specs.Queue.{DeviceQueue, DriverQueue, free_slots, slots_of}
use Rattle.vq_common.proofs.PostLaws.{readable-le, slots_of-some}
use Rattle.vq_posted.specs.Free.{free_descriptors, head_of}
use Rattle.vq_posted.proofs.Buffers.{lowest_free-head, lowest_free-length}
use Rattle.vq_packed_dev.specs.Walk.{is_next_available, last_id, packed_areas_inside, packed_chain_from, packed_chain_of, packed_chain_shown, packed_pieces, packed_walk}
use Rattle.vq_packed_drv.specs.Driver.{IsPackedQueue}
use Rattle.vq_packed_drv.specs.Post.{chain_puts, id_for, packed_post_accesses, pieces_of}
use Rattle.vq_split_pair.specs.Pair.{IsInMemory}
use Rattle.vq_split_pair.proofs.PostParts.{data_read, data_within, size_bounds}
use Rattle.vq_split_pair.proofs.Written.{length-written, part-written, written, written-append}
use Rattle.vq_packed_pair.specs.Pair.{HasTakenAll, ShowsNext}
use Rattle.vq_packed_pair.proofs.BufferChains.{CanPost, IsChain, chain_stands, chain_within}
use Rattle.vq_split_pair.proofs.Pieces.{pieces_keep_rules, readable_are, room_is}

-- a packed ring whose next descriptor is available shows its chain
walk_front : (mem : List ℕ) (d : DeviceQueue) (ds : List PackedDescriptor) (ps : List Piece) → IsTrue (packed_areas_inside (length mem) d.cfg) → is_next_available mem d ≡ true
    → packed_chain_from d.cfg.size mem d.cfg d.taken ≡ Some ds → packed_pieces mem d.cfg ds ≡ Some ps → IsTrue (keeps_rules (length mem) ps)
    → packed_walk mem d ≡ Front (record { id = last_id ds; slots = length ds; pieces = ps })
walk_front mem d ds ps areas available chain pieces rules =
    cond-true (packed_areas_inside (length mem) d.cfg) _ Bad areas
    ∙ cond-true (is_next_available mem d) (packed_chain_shown mem d.cfg d.taken) Empty available
    ∙ ap (packed_chain_of mem d.cfg) chain
    ∙ ap (chain_if_valid (length mem) (last_id ds) (length ds)) pieces
    ∙ cond-true (keeps_rules (length mem) ps) (Front (record { id = last_id ds; slots = length ds; pieces = ps })) Bad rules

-- the areas of a ring lie inside memory
pub areas_fit : (memory : ℕ) (q : DriverQueue) → IsInMemory memory q.cfg q.base → IsTrue (packed_areas_inside memory q.cfg)
areas_fit memory q ring =
    let c : RingCfg = q.cfg in
    let (some, few) = size_bounds c.size ring.size in
    let inside : q.base + 0x1000000 ≤ memory = ring.inside in
    let desc : c.desc ≡ q.base = ring.in_block.desc in
    let driver : c.driver ≡ driver_area q.base = ring.in_block.driver in
    let device : c.device ≡ device_area q.base = ring.in_block.device in
    and_from (nat_le (c.desc + 16 * c.size) memory && nat_le (c.driver + 4) memory) (nat_le (c.device + 4) memory)
    (and_from (nat_le (c.desc + 16 * c.size) memory) (nat_le (c.driver + 4) memory) (le-leb (c.desc + 16 * c.size) memory (omega arith)) (le-leb (c.driver + 4) memory (omega arith)))
    (le-leb (c.device + 4) memory (omega arith))

-- the ring shows a buffer whose descriptors make its chain at the position where the device takes next, and whose data is
-- there
shown : (mem : List ℕ) (q : DriverQueue) (b : PostedBuffer) (id : ℕ) (d : DeviceQueue) → CanPost (length mem) q b id → IsChain mem q b id → part mem (data_address q.base id) (length b.readable) ≡ b.readable
    → HasTakenAll q d → ShowsNext mem d b
shown mem q b id d can chain bytes taken =
    let location : ℕ = data_address q.base id in
    let ps : List Piece = pieces_of q.base b id in
    let (some, few) = size_bounds q.cfg.size can.ring.size in
    let inside : q.base + 0x1000000 ≤ length mem = can.ring.inside in
    let low : id < q.cfg.size = can.low in
    let total : sum b.lengths ≤ 8192 = can.postable.total in
    let available : is_next_available mem d ≡ true
    = ap (λ (c : RingCfg). is_available d.taken_wrap (packed_descriptor_at mem c.desc d.taken).flags) taken.ring
    ∙ ap (λ (n : ℕ). is_available d.taken_wrap (packed_descriptor_at mem q.cfg.desc n).flags) taken.taken
    ∙ ap (λ w. is_available w (packed_descriptor_at mem q.cfg.desc q.available).flags) taken.taken_wrap
    ∙ chain.available
    in
    let found : packed_chain_from d.cfg.size mem d.cfg d.taken ≡ Some chain.descriptors
    = ap (λ (c : RingCfg). packed_chain_from c.size mem c d.taken) taken.ring ∙ ap (packed_chain_from q.cfg.size mem q.cfg) taken.taken ∙ chain.chain
    in
    let pieces : packed_pieces mem d.cfg chain.descriptors ≡ Some ps = ap (λ (c : RingCfg). packed_pieces mem c chain.descriptors) taken.ring ∙ chain.pieces in
    let areas : IsTrue (packed_areas_inside (length mem) d.cfg) = subst (λ (c : RingCfg). IsTrue (packed_areas_inside (length mem) c)) (sym taken.ring) (areas_fit (length mem) q can.ring) in
    record {
      chain = record { id = last_id chain.descriptors; slots = length chain.descriptors; pieces = ps };
      front = walk_front mem d chain.descriptors ps areas available found pieces (pieces_keep_rules (length mem) location b can.postable (omega arith));
      readable = readable_are mem location b.readable_pieces b.lengths ∙ ap (λ (n : ℕ). part mem location n) (sym can.postable.readable) ∙ bytes;
      room = room_is location b.readable_pieces b.lengths;
      slots = chain.slots;
    }

-- what may be posted in a memory may be in another of the same length
same_length : (memory memory2 : ℕ) (q : DriverQueue) (b : PostedBuffer) (id : ℕ) → memory ≡ memory2 → CanPost memory q b id → CanPost memory2 q b id
same_length memory memory2 q b id same can = subst (λ (n : ℕ). CanPost n q b id) same can

-- a buffer is shown after the accesses of its post
pub shown_after : (mem : List ℕ) (q : DriverQueue) (b : PostedBuffer) (d : DeviceQueue) → CanPost (length mem) q b (id_for q) → HasTakenAll q d → ShowsNext (written (packed_post_accesses q b) mem) d b
shown_after mem q b d can taken =
    let id : ℕ = id_for q in
    let location : ℕ = data_address q.base id in
    let first : List AccessValue = data_puts location b.readable in
    let puts : List AccessValue = chain_puts q b id in
    let (some, few) = size_bounds q.cfg.size can.ring.size in
    let inside : q.base + 0x1000000 ≤ length mem = can.ring.inside in
    let low : id < q.cfg.size = can.low in
    let short : length b.readable ≤ 8192 = readable-le b can.postable in
    let one : List ℕ = written first mem in
    let two : List ℕ = written puts one in
    let long : length one ≡ length mem = length-written location 8192 first mem (omega arith) (data_within location 8192 b.readable short) in
    let can1 : CanPost (length one) q b id = same_length (length mem) (length one) q b id (sym long) can in
    let long2 : length two ≡ length one = length-written q.base 0x400000 puts one (omega arith) (chain_within one q b id can1) in
    let stays : part two location (length b.readable) ≡ part one location (length b.readable)
    = part-written q.base 0x400000 puts one location (length b.readable) (omega arith) (chain_within one q b id can1) (inl (omega arith))
    in
    subst (λ (m : List ℕ). ShowsNext m d b) (sym (written-append first puts mem))
    (shown two q b id d (same_length (length one) (length two) q b id (sym long2) can1) (chain_stands one q b id can1) (stays ∙ data_read location b.readable mem (omega arith)) taken)

-- the first of all is the first of one
first_of_one : (xs : List ℕ) → head_of (take 1 xs) ≡ head_of xs
first_of_one [] = refl
first_of_one (x ∷ xs) = refl

-- an id is one of the ring's where a slot is free
id_below : (q : DriverQueue) → IsPackedQueue q → 1 ≤ free_slots q → id_for q < q.cfg.size
id_below q is room =
    let found : length (take 1 (free_descriptors q.cfg.size q.unreaped)) ≡ 1 = lowest_free-length q.cfg.size 1 q.unreaped is.order room in
    subst (λ (n : ℕ). n < q.cfg.size) (first_of_one (free_descriptors q.cfg.size q.unreaped)) (lowest_free-head q.cfg.size 1 q.unreaped (omega arith))

-- what is posted over guest memory is what the packed ring shows next, once the chains before it are taken
pub posted_is_shown : (mem : List ℕ) (q : DriverQueue) (b : PostedBuffer) (d : DeviceQueue) → IsInMemory (length mem) q.cfg q.base → IsPackedQueue q → IsPostable b → slots_of b ≤ free_slots q
    → (IsTrue b.indirect → length b.lengths ≤ q.cfg.size) → (IsTrue b.indirect → IsTrue q.cfg.indirect) → HasTakenAll q d → ShowsNext (written (packed_post_accesses q b) mem) d b
posted_is_shown mem q b d ring is postable room table feature taken =
    let (some, few) = slots_of-some b postable in
    let (least, most) = size_bounds q.cfg.size ring.size in
    shown_after mem q b d (record { ring = ring; location = is.available (omega arith); postable = postable; room = omega arith; low = id_below q is (omega arith); table = table; feature = feature }) taken
