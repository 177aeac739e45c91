-- The descriptors of a posted buffer, direct or in a table, make its chain.
use Rattle.std.proofs.Common.{◌≡◌, ℕ, ◌+◌, ◌*◌, ◌<◌, ◌≤◌, List, [], ◌∷◌, length, true, false, not, IsTrue, Some, None, inl, inr, refl, sym, ◌∙◌, ap, subst, arith}
use Rattle.std.specs.Prelude.{◌&&◌, All, sum}
use Rattle.std.proofs.lemmas.Bool.{and_from, cases_Bool, cond-true, cond-false}
use Rattle.std.proofs.lemmas.List.Elements.{All-nil, All-cons}
use Rattle.guest_mem.specs.Memory.{part, put_at}
use Rattle.guest_mem.proofs.Parts.{length-put_at, part-put_at_apart, part-put_at_same_length}
use Rattle.vt_types.specs.Access.{AccessValue, Put}
use Rattle.vt_types.specs.Operation.{PostedBuffer}
use Rattle.vq_common.specs.declared.chain.Piece.{Piece}
use Rattle.vq_common.specs.declared.packed_descriptor.PackedDescriptor.{PackedDescriptor}
use Rattle.vq_common.specs.declared.position.Position.{Position}
use Rattle.vq_common.specs.Buffer.{IsPostable}
use Rattle.vq_common.specs.Descriptor.{has_next, is_indirect}
use Rattle.vt_layout.specs.QueueBlock.{data_address, table_address}
use Rattle.vq_common.specs.PackedDescriptor.{is_available, packed_descriptor_at, packed_descriptor_bytes}
use Rattle.vq_common.specs.Queue.{DriverQueue, slots_of}
use Rattle.vq_common.specs.Table.{table_pieces}
use Rattle.vq_common.proofs.DescriptorLaws.{FitsPacked, packed_descriptor_at-put}
use Rattle.vq_common.proofs.PieceLaws.{length-pieces_from}
use Rattle.vq_packed_dev.specs.Walk.{direct_pieces, last_id, packed_chain_from, packed_pieces, pieces_of_table}
use Rattle.vq_packed_drv.specs.Cost.{length-packed_table_bytes}
use Rattle.vq_packed_drv.specs.Post.{available_position, chain_puts, direct_puts, indirect_puts, naming_descriptor, packed_table_bytes, pieces_of}
use Rattle.vq_split_pair.specs.Pair.{IsInMemory}
use Rattle.vq_split_pair.proofs.PostParts.{size_bounds}
use Rattle.vq_split_pair.proofs.Written.{IsPutWithin, IsPutWithin-wider, written, written_put}
use Rattle.vq_packed_pair.proofs.Flags.{NamesTable, names_table}
use Rattle.vq_packed_pair.proofs.PostedPieces.{FitsDescriptor, posted_fit}
use Rattle.vq_packed_pair.proofs.RowChains.{chain_of_one, chain_of_row, last_id_of_row, pieces_of_row, row_is_available}
use Rattle.vq_packed_pair.proofs.Rows.{IsRow, head_last_stand, head_last_within, length-row_of, row_of}
use Rattle.vq_packed_pair.proofs.Tables.{table_is_pieces}

-- the descriptors from the next available position on are available, and a chain of as many slots as a buffer has, with
-- the buffer's id and its pieces
pub record IsChain (mem : List ℕ) (q : DriverQueue) (b : PostedBuffer) (id : ℕ) : Type 0 where
  pub available : is_available q.available_wrap (packed_descriptor_at mem q.cfg.desc q.available).flags ≡ true
  pub descriptors : List PackedDescriptor
  pub chain : packed_chain_from q.cfg.size mem q.cfg q.available ≡ Some descriptors
  pub pieces : packed_pieces mem q.cfg descriptors ≡ Some (pieces_of q.base b id)
  pub slots : length descriptors ≡ slots_of b
  pub last : last_id descriptors ≡ id

-- the block of a queue lies low
base_low : (q : DriverQueue) (memory : ℕ) → IsInMemory memory q.cfg q.base → q.base ≤ 0x5000000
base_low q memory ring =
    let n : ℕ = ring.in_block.block.number in
    let known : n < 5 = ring.in_block.block.known in
    let location : q.base ≡ (n + 1) * 0x1000000 = ring.in_block.block.location in
    omega arith

-- what a post is made of: a ring in memory whose next available position is one of its own, a buffer that may be posted
-- there, and an id below the size
pub record CanPost (memory : ℕ) (q : DriverQueue) (b : PostedBuffer) (id : ℕ) : Type 0 where
  pub ring : IsInMemory memory q.cfg q.base
  pub location : q.available < q.cfg.size
  pub postable : IsPostable b
  pub room : slots_of b ≤ q.cfg.size
  pub low : id < q.cfg.size
  pub table : IsTrue b.indirect → length b.lengths ≤ q.cfg.size
  pub feature : IsTrue b.indirect → IsTrue q.cfg.indirect

module _ (mem : List ℕ) (q : DriverQueue) (b : PostedBuffer) (id : ℕ) (can : CanPost (length mem) q b id) where
  abbrev ps : List Piece
  ps = pieces_of q.base b id

  size_low : q.cfg.size ≤ 1024
  size_low = (size_bounds q.cfg.size can.ring.size).1

  inside : q.base + 0x1000000 ≤ length mem
  inside = can.ring.inside

  many : length ps ≡ length b.lengths
  many = length-pieces_from (data_address q.base id) b.readable_pieces b.lengths

  each : All FitsDescriptor ps
  each =
      let total : sum b.lengths ≤ 8192 = can.postable.total in
      let low : id < q.cfg.size = can.low in
      posted_fit (data_address q.base id) b can.postable (omega (arith, base_low q (length mem) can.ring, size_low))

  some : 1 ≤ length ps
  some = let least : 1 ≤ length b.lengths = can.postable.some in omega (arith, many)

  few : length ps ≤ 8
  few = let most : length b.lengths ≤ 8 = can.postable.few in omega (arith, many)

  -- the puts of a buffer's own descriptors leave its chain
  direct_chain : b.indirect ≡ false → IsChain (written (direct_puts q b id) mem) q b id
  direct_chain direct =
      let slots : slots_of b ≡ length b.lengths = cond-false b.indirect 1 (length b.lengths) direct in
      let room : slots_of b ≤ q.cfg.size = can.room in
      let low : id < q.cfg.size = can.low in
      let position : Position = available_position q in
      let fits : length ps ≤ q.cfg.size = omega (arith, many) in
      let after : List ℕ = written (direct_puts q b id) mem in
      let ds : List PackedDescriptor = row_of q.cfg.size id position ps in
      let stand : IsRow after q.base q.cfg.size q.available ds = head_last_stand q.base q.cfg.size id position ps mem can.location fits (omega (arith, size_low, inside)) (omega (arith, size_low)) each in
      let row : IsRow after q.cfg.desc q.cfg.size q.available ds = subst (λ (a : ℕ). IsRow after a q.cfg.size q.available ds) (sym can.ring.in_block.desc) stand in
      record {
        available = row_is_available after q.cfg.desc q.cfg.size id position ps some row;
        descriptors = ds;
        chain = chain_of_row q.cfg.size after q.cfg id position ps some fits row;
        pieces = pieces_of_row after q.cfg q.cfg.size id position ps some;
        slots = length-row_of q.base q.cfg.size id position ps ∙ many ∙ sym slots;
        last = last_id_of_row q.cfg.size id position ps some;
      }

  -- memory after the puts of a buffer's table, and of the descriptor that names it
  abbrev named : PackedDescriptor
  named = naming_descriptor q.base id (length b.lengths) q.available_wrap

  abbrev bytes : List ℕ
  bytes = packed_table_bytes ps

  abbrev with_table : List ℕ
  with_table = put_at mem (table_address q.base id) bytes

  abbrev with_head : List ℕ
  with_head = put_at with_table (q.base + 16 * q.available) (packed_descriptor_bytes named)

  bytes_few : length bytes ≤ 128
  bytes_few = omega (arith, few, length-packed_table_bytes ps)

  table_inside : table_address q.base id + length bytes ≤ length mem
  table_inside = let low : id < q.cfg.size = can.low in omega (arith, inside, size_low, bytes_few)

  same_length : length with_table ≡ length mem
  same_length = length-put_at mem (table_address q.base id) bytes table_inside

  head_inside : q.base + 16 * q.available + 16 ≤ length with_table
  head_inside = let location : q.available < q.cfg.size = can.location in omega (arith, inside, size_low, same_length)

  indirect_written : written (indirect_puts q b id) mem ≡ with_head
  indirect_written =
      let sixteen : length (packed_descriptor_bytes named) ≡ 16 = refl in
      written_put (table_address q.base id) bytes (Put (q.base + 16 * q.available) (packed_descriptor_bytes named) ∷ []) mem table_inside
      ∙ written_put (q.base + 16 * q.available) (packed_descriptor_bytes named) [] with_table (omega (arith, head_inside))

  -- the naming descriptor is read there
  named_read : packed_descriptor_at with_head q.base q.available ≡ named
  named_read =
      let low : id < q.cfg.size = can.low in
      let most : length b.lengths ≤ 8 = can.postable.few in
      let fits : FitsPacked named
      = record { addr = omega (arith, base_low q (length mem) can.ring, size_low); len = omega arith; id = omega (arith, size_low); flags = (names_table q.available_wrap).low }
      in
      packed_descriptor_at-put with_table q.base q.available named fits head_inside

  -- and so are the bytes of the table
  table_read : part with_head (table_address q.base id) (16 * length ps) ≡ bytes
  table_read =
      let sixteen : length (packed_descriptor_bytes named) ≡ 16 = refl in
      let location : q.available < q.cfg.size = can.location in
      let long : length bytes ≡ 16 * length ps = length-packed_table_bytes ps in
      part-put_at_apart with_table (q.base + 16 * q.available) (packed_descriptor_bytes named) (table_address q.base id) (16 * length ps) (omega (arith, head_inside)) (inl (omega (arith, size_low)))
      ∙ part-put_at_same_length mem (table_address q.base id) bytes (16 * length ps) long (omega (arith, table_inside))

  -- so these puts leave the chain
  indirect_chain : b.indirect ≡ true → IsChain with_head q b id
  indirect_chain indirect =
      let says : NamesTable named.flags q.available_wrap = names_table q.available_wrap in
      let low : id < q.cfg.size = can.low in
      let long : length with_head ≡ length mem = length-put_at with_table (q.base + 16 * q.available) (packed_descriptor_bytes named) (omega (arith, head_inside)) ∙ same_length in
      let read : packed_descriptor_at with_head q.cfg.desc q.available ≡ named = ap (λ (a : ℕ). packed_descriptor_at with_head a q.available) can.ring.in_block.desc ∙ named_read in
      let fits : length b.lengths ≤ q.cfg.size = can.table indirect in
      let found : table_pieces with_head (table_address q.base id) (16 * length ps) q.cfg.size false ≡ Some ps
      = table_is_pieces with_head (table_address q.base id) q.cfg.size ps some few (omega (arith, many)) (omega (arith, inside, size_low, few, long)) each table_read
      in
      let size : 16 * length b.lengths ≡ 16 * length ps = omega (arith, many) in
      record {
        available = ap (λ (d : PackedDescriptor). is_available q.available_wrap d.flags) read ∙ says.available;
        descriptors = named ∷ [];
        chain = chain_of_one q.cfg.size with_head q.cfg q.available named (omega (arith, low)) read says.alone;
        pieces =
            cond-true (is_indirect named.flags) (pieces_of_table with_head q.cfg named) (direct_pieces (named ∷ [])) says.indirect
            ∙ cond-true (q.cfg.indirect && not (has_next named.flags)) (table_pieces with_head named.addr named.len q.cfg.size false) None
            (and_from q.cfg.indirect (not (has_next named.flags)) (can.feature indirect) (ap not says.alone))
            ∙ ap (λ (n : ℕ). table_pieces with_head (table_address q.base id) n q.cfg.size false) size
            ∙ found;
        slots = sym (cond-true b.indirect 1 (length b.lengths) indirect);
        last = refl;
      }

  -- the puts of a buffer's descriptors leave its chain
  pub chain_stands : IsChain (written (chain_puts q b id) mem) q b id
  chain_stands =
      elim (cases_Bool b.indirect) [
        | inl indirect ↦
            subst (λ (m : List ℕ). IsChain m q b id) (sym (ap (λ (accesses : List AccessValue). written accesses mem) (cond-true b.indirect (indirect_puts q b id) (direct_puts q b id) indirect) ∙ indirect_written))
            (indirect_chain indirect)
        | inr direct ↦
            subst (λ (accesses : List AccessValue). IsChain (written accesses mem) q b id) (sym (cond-false b.indirect (indirect_puts q b id) (direct_puts q b id) direct)) (direct_chain direct)
      ]

  -- they lie below the data
  indirect_within : All (IsPutWithin q.base 0x400000) (indirect_puts q b id)
  indirect_within =
      let P = IsPutWithin q.base 0x400000 in
      let low : id < q.cfg.size = can.low in
      let location : q.available < q.cfg.size = can.location in
      let head : List ℕ = packed_descriptor_bytes named in
      let sixteen : length head ≡ 16 = refl in
      All-cons P (Put (table_address q.base id) bytes) (Put (q.base + 16 * q.available) head ∷ [])
      (record { addr = table_address q.base id; bytes = bytes; is = refl; starts = omega arith; ends = omega (arith, bytes_few, size_low) })
      (All-cons P (Put (q.base + 16 * q.available) head) [] (record { addr = q.base + 16 * q.available; bytes = head; is = refl; starts = omega arith; ends = omega (arith, size_low) }) (All-nil P))

  pub chain_within : All (IsPutWithin q.base 0x400000) (chain_puts q b id)
  chain_within =
      let P = IsPutWithin q.base 0x400000 in
      elim (cases_Bool b.indirect) [
        | inl indirect ↦ subst (All P) (sym (cond-true b.indirect (indirect_puts q b id) (direct_puts q b id) indirect)) indirect_within
        | inr direct ↦
            let slots : slots_of b ≡ length b.lengths = cond-false b.indirect 1 (length b.lengths) direct in
            let room : slots_of b ≤ q.cfg.size = can.room in
            subst (All P) (sym (cond-false b.indirect (indirect_puts q b id) (direct_puts q b id) direct))
            (IsPutWithin-wider q.base (16 * q.cfg.size) q.base 0x400000 (direct_puts q b id) (omega arith) (omega (arith, size_low))
            (head_last_within q.base q.cfg.size id (available_position q) ps can.location (omega (arith, many))))
      ]
