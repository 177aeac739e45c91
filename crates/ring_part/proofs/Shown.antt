-- The ring shows the first buffer that waits.
use Rattle.std.proofs.Common.{◌≡◌, ℕ, ◌+◌, ◌-◌, ◌*◌, ◌%◌, ◌^◌, ◌<◌, ◌≤◌, List, [], ◌∷◌, ◌++◌, length, IsTrue, Some, sym, ◌∙◌, ap, subst, arith}
use Rattle.std.specs.Prelude.{All, sum}
use Rattle.std.proofs.lemmas.Bool.{or_left}
use Rattle.std.proofs.lemmas.List.Elements.{All-head}
use Rattle.vt_types.specs.Limits.{LONGEST_BUFFER}
use Rattle.guest_mem.specs.Memory.{part as bytes_at, le16_at}
use Rattle.vt_types.specs.Operation.{PostedBuffer}
use Rattle.vq_common.specs.declared.chain.Piece.{Piece}
use Rattle.vq_common.specs.declared.chain.RingCfg.{RingCfg}
use Rattle.vq_common.specs.Chain.{Empty, Front}
use Rattle.vq_common.specs.Descriptor.{chain_from}
use Rattle.vt_layout.specs.QueueBlock.{data_address, device_area, driver_area}
use Rattle.vq_common.specs.Piece.{readable, room, pieces_from}
use Rattle.vq_common.specs.Queue.{DeviceQueue, DriverQueue, slots_of, new_driver_queue}
use Rattle.vq_split_dev.specs.Walk.{split_walk, split_areas_inside, waiting_heads, next_head, chain_pieces}
use Rattle.vq_posted.specs.Free.{is_in}
use Rattle.vq_split_drv.specs.Post.{chain_puts}
use Rattle.port_access.specs.Accesses.{data_puts}
use Rattle.vq_posted.proofs.Members.{all_from_members, is_in-append}
use Rattle.vq_split_pair.specs.Pair.{room_of}
use Rattle.vq_split_pair.proofs.BufferChains.{IsChain}
use Rattle.vq_split_pair.proofs.Pieces.{pieces_keep_rules, readable_are, room_is}
use Rattle.vq_split_pair.proofs.WalkLaws.{areas_fit, walk_empty, walk_front}
use Rattle.abstract_devices.specs.World.{AbstractQueue}
use Rattle.memory_port.proofs.PutLaws.{hold-parts}
use Rattle.ring_part.specs.Held.{Held, UsedHeld, CanStand, held_of, chain_of_held}
use Rattle.ring_part.specs.RingPuts.{all_puts, held_puts}
use Rattle.ring_part.specs.RingPart.{RingPart}
use Rattle.ring_part.proofs.Records.{locations_of}
use Rattle.ring_part.proofs.Lists.{slots-append, all_back, all_front, puts_parts, in_back}
use Rattle.ring_part.proofs.Facts.{le16_standing}
use Rattle.ring_part.proofs.Facts as facts
use Rattle.ring_part.proofs.ChainStands.{chain_stands, data_stands}

-- the chain that it shows is the buffer: its readable bytes and its room
pub record Shows (mem : List ℕ) (d : DeviceQueue) (base : ℕ) (h : Held) : Type 0 where
  pub front : split_walk mem d ≡ Front (chain_of_held base h)
  pub readable : readable mem (chain_of_held base h).pieces ≡ h.buffer.readable
  pub room : room (chain_of_held base h).pieces ≡ room_of h.buffer

-- how far an index is ahead of another one, modulo 2 ^ 16
ahead : (taken count : ℕ) → taken < 2 ^ 16 → count ≤ 1024 → ((taken + count) % 2 ^ 16 + 2 ^ 16 - taken) % 2 ^ 16 ≡ count
ahead taken count low few = omega arith

module _ {mem : List ℕ} {a : AbstractQueue} {d : DeviceQueue} {q : DriverQueue} {used : List UsedHeld} {taken waiting : List Held} (part : RingPart mem a d q used taken waiting) where
  -- the areas lie inside memory, and as many heads wait as buffers
  areas : IsTrue (split_areas_inside (length mem) d.cfg)
  areas =
      let inside : q.base + 0x1000000 ≤ length mem = part.block.inside in
      let desc : q.cfg.desc ≡ q.base = part.block.in_block.desc in
      let driver : q.cfg.driver ≡ driver_area q.base = part.block.in_block.driver in
      let device : q.cfg.device ≡ device_area q.base = part.block.in_block.device in
      let low = facts.size_low part in
      subst (λ c. IsTrue (split_areas_inside (length mem) c)) (sym part.same.ring) (areas_fit (length mem) q.cfg (omega arith) (omega arith) (omega arith))

  waits : waiting_heads mem d ≡ length waiting
  waits =
      let driver : d.cfg.driver ≡ driver_area q.base = ap (λ (c : RingCfg). c.driver) part.same.ring ∙ part.block.in_block.driver in
      let index : le16_at mem (driver_area q.base + 2) ≡ q.available = le16_standing mem (driver_area q.base + 2) q.available part.queue.available part.indices.0 in
      ap (λ (p : ℕ). (le16_at mem (p + 2) + 2 ^ 16 - d.taken) % 2 ^ 16) driver
      ∙ ap (λ (i : ℕ). (i + 2 ^ 16 - d.taken) % 2 ^ 16) (index ∙ part.counts.to_take)
      ∙ ahead d.taken (length waiting) (facts.taken_low part) (omega (arith, facts.lengths_fit part, facts.size_low part))

-- nothing waits
pub shown_empty : {mem : List ℕ} {a : AbstractQueue} {d : DeviceQueue} {q : DriverQueue} {used : List UsedHeld} {taken : List Held} → RingPart mem a d q used taken [] → split_walk mem d ≡ Empty
shown_empty {mem = mem} {d = d} part = walk_empty mem d (areas part) (waits part)

module _ {mem : List ℕ} {a : AbstractQueue} {d : DeviceQueue} {q : DriverQueue} {used : List UsedHeld} {taken : List Held} {h : Held} {rest : List Held} (part : RingPart mem a d q used taken (h ∷ rest)) where
  -- the ring can hold the first, its descriptors are below the size, and its slots fit
  can : CanStand q.cfg h
  can = All-head (CanStand q.cfg) h rest (all_back (CanStand q.cfg) taken (h ∷ rest) (all_back (CanStand q.cfg) (held_of used) (taken ++ h ∷ rest) part.buffers.each))

  below : All (λ k. k < q.cfg.size) (h.head ∷ h.others)
  below =
      all_from_members (λ k. k < q.cfg.size) (h.head ∷ h.others) (λ k m.
      facts.below part k (in_back k (held_of used) (taken ++ h ∷ rest) (in_back k taken (h ∷ rest)
      (is_in-append k (h.head ∷ h.others) (locations_of rest) ∙ or_left (is_in k (h.head ∷ h.others)) (is_in k (locations_of rest)) m))))

  fitting : slots_of h.buffer ≤ q.cfg.size
  fitting = omega (arith, facts.slots_fit part, slots-append (held_of used) (taken ++ h ∷ rest), slots-append taken (h ∷ rest))

  -- the chain that it shows is the buffer
  pub shown : Shows mem d q.base h
  shown =
      let b : PostedBuffer = h.buffer in
      let location : ℕ = data_address q.base h.head in
      let ps : List Piece = pieces_from location b.readable_pieces b.lengths in
      let low : q.cfg.size ≤ 1024 = facts.size_low part in
      let (here, others) = hold-parts (held_puts q.cfg q.base h) (all_puts q.cfg q.base rest) mem (puts_parts q.cfg q.base taken (h ∷ rest) mem part.puts).1 in
      let (bytes, chain_puts_stand) = hold-parts (data_puts location b.readable) (chain_puts (new_driver_queue q.cfg q.base) b (h.head ∷ h.others)) mem here in
      let chain : IsChain mem q b h.head = chain_stands mem q h part.block can below low fitting chain_puts_stand in
      let inside : q.base + 0x1000000 ≤ length mem = part.block.inside in
      let total : sum b.lengths ≤ LONGEST_BUFFER = can.postable.total in
      let head : h.head < q.cfg.size = All-head (λ k. k < q.cfg.size) h.head h.others below in
      let size : d.cfg.size ≡ q.cfg.size = ap (λ (c : RingCfg). c.size) part.same.ring in
      let desc : d.cfg.desc ≡ q.base = ap (λ (c : RingCfg). c.desc) part.same.ring ∙ part.block.in_block.desc in
      let driver : d.cfg.driver ≡ driver_area q.base = ap (λ (c : RingCfg). c.driver) part.same.ring ∙ part.block.in_block.driver in
      let next : next_head mem d ≡ h.head
      = ap (λ (a : ℕ). le16_at mem (a + (4 + 2 * (d.taken % d.cfg.size)))) driver
      ∙ ap (λ (n : ℕ). le16_at mem (driver_area q.base + (4 + 2 * (d.taken % n)))) size
      ∙ le16_standing mem (driver_area q.base + (4 + 2 * (d.taken % q.cfg.size))) h.head (omega arith) part.entries.0
      in
      let walk : chain_from d.cfg.size mem d.cfg.desc d.cfg.size h.head ≡ Some chain.descriptors
      = ap (λ (n : ℕ). chain_from n mem d.cfg.desc n h.head) size ∙ ap (λ (a : ℕ). chain_from q.cfg.size mem a q.cfg.size h.head) desc ∙ chain.chain
      in
      let pieces : chain_pieces mem d.cfg chain.descriptors ≡ Some ps = ap (λ (c : RingCfg). chain_pieces mem c chain.descriptors) part.same.ring ∙ chain.pieces in
      record {
        front =
            walk_front mem d h.head (length (h ∷ rest)) chain.descriptors ps (areas part) (omega arith) (omega (arith, facts.lengths_fit part, size)) (waits part) next walk pieces (pieces_keep_rules (length mem) location b can.postable (omega arith))
            ∙ ap (λ n. Front (record { id = h.head; slots = n; pieces = ps })) chain.slots;
        readable = readable_are mem location b.readable_pieces b.lengths ∙ ap (λ (n : ℕ). bytes_at mem location n) (sym can.postable.readable) ∙ data_stands mem location b.readable bytes;
        room = room_is location b.readable_pieces b.lengths;
      }

-- of a taken buffer the readable bytes are still there
pub taken_reads : {mem : List ℕ} {a : AbstractQueue} {d : DeviceQueue} {q : DriverQueue} {used : List UsedHeld} (before : List Held) (h : Held) (after waiting : List Held) → RingPart mem a d q used (before ++ h ∷ after) waiting
    → readable mem (chain_of_held q.base h).pieces ≡ h.buffer.readable
taken_reads {mem} {q = q} {used = used} before h after waiting part =
    let b : PostedBuffer = h.buffer in
    let location : ℕ = data_address q.base h.head in
    let taken_puts = (puts_parts q.cfg q.base (before ++ h ∷ after) waiting mem part.puts).0 in
    let here_puts = (puts_parts q.cfg q.base before (h ∷ after) mem taken_puts).1 in
    let mine = (hold-parts (held_puts q.cfg q.base h) (all_puts q.cfg q.base after) mem here_puts).0 in
    let bytes = (hold-parts (data_puts location b.readable) (chain_puts (new_driver_queue q.cfg q.base) b (h.head ∷ h.others)) mem mine).0 in
    let can : CanStand q.cfg h
    = All-head (CanStand q.cfg) h after (all_back (CanStand q.cfg) before (h ∷ after) (all_front (CanStand q.cfg) (before ++ h ∷ after) waiting (all_back (CanStand q.cfg) (held_of used) ((before ++ h ∷ after) ++ waiting) part.buffers.each)))
    in
    readable_are mem location b.readable_pieces b.lengths ∙ ap (λ (n : ℕ). bytes_at mem location n) (sym can.postable.readable) ∙ data_stands mem location b.readable bytes
