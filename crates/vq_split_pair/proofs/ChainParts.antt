-- The puts of a buffer's descriptors, and then those that make it available, leave its chain.
use Rattle.std.proofs.Common.{◌≡◌, ℕ, suc, ◌+◌, ◌*◌, ◌^◌, ◌<◌, ◌≤◌, List, [], ◌∷◌, length, true, false, IsTrue, inl, inr, refl, ◌∙◌, ap, arith}
use Rattle.std.specs.Prelude.{All, sum}
use Rattle.std.proofs.lemmas.List.Elements.{All-nil, All-cons, All-head, All-tail, All-weaker}
use Rattle.guest_mem.specs.Memory.{part, put_at}
use Rattle.guest_mem.proofs.Parts.{length-put_at, part-put_at_apart, part-put_at_same_length}
use Rattle.vt_types.specs.Access.{Put}
use Rattle.vt_types.specs.Operation.{PostedBuffer}
use Rattle.vq_common.specs.declared.descriptor.Descriptor.{Descriptor}
use Rattle.vt_types.specs.Within.{IsPieceWithin}
use Rattle.vq_common.specs.Buffer.{IsPostable}
use Rattle.vq_common.specs.Descriptor.{descriptor_at, descriptor_bytes, descriptor_in}
use Rattle.vt_layout.specs.QueueBlock.{data_address, driver_area, table_address}
use Rattle.vq_common.specs.Queue.{DriverQueue}
use Rattle.vq_common.proofs.DescriptorLaws.{Fits, descriptor_at-put, length-descriptor_bytes}
use Rattle.vq_split_drv.specs.Cost.{length-descriptors_of, length-table_bytes}
use Rattle.vq_split_drv.specs.Post.{available_puts, descriptors_of, direct_puts, indirect_puts, table_bytes}
use Rattle.vq_split_pair.specs.Pair.{IsInMemory}
use Rattle.vq_split_pair.proofs.BufferChains.{IsChain, direct_chain, indirect_chain, naming}
use Rattle.vq_split_pair.proofs.Chains.{descriptors_fit}
use Rattle.vq_split_pair.proofs.Located.{AreAt, AreAt-same, puts_read, puts_within}
use Rattle.vq_split_pair.proofs.PostParts.{available_within, size_bounds}
use Rattle.vq_split_pair.proofs.Tables.{table_reads}
use Rattle.vq_split_pair.proofs.Written.{IsPutWithin, length-written, part-written, written, written_put}
use Rattle.vq_posted.proofs.Members.{all_from_members}
use Rattle.vq_posted.proofs.Numbers.{is_in_numbers}
use Rattle.vq_posted.specs.Free.{is_distinct, numbers}

-- the block of a queue lies low
pub base_low : (q : DriverQueue) (memory : ℕ) → IsInMemory memory q.cfg q.base → q.base ≤ 0x5000000
base_low q memory ring =
    let n : ℕ = ring.in_block.block.number in
    let known : n < 5 = ring.in_block.block.known in
    let location : q.base ≡ (n + 1) * 0x1000000 = ring.in_block.block.location in
    omega arith

-- the fields of a buffer's descriptors fit their widths
pub buffer_fits : (q : DriverQueue) (b : PostedBuffer) (head : ℕ) (locations : List ℕ) (memory : ℕ) → IsInMemory memory q.cfg q.base → IsPostable b → head < 1024 → All (λ k. k < 2 ^ 16) locations
    → All Fits (descriptors_of (data_address q.base head) b.readable_pieces b.lengths locations)
buffer_fits q b head locations memory ring postable low below =
    let total : sum b.lengths ≤ 8192 = postable.total in
    descriptors_fit (data_address q.base head) b.readable_pieces b.lengths locations (omega (arith, base_low q memory ring))
    (All-weaker IsPieceWithin (λ n. n < 2 ^ 32) (λ n is. let high : n ≤ 4096 = is.high in omega arith) b.lengths postable.each) below

-- the puts of a buffer's own descriptors lie in the table of the ring
pub direct_within : (q : DriverQueue) (b : PostedBuffer) (n : ℕ) (ns : List ℕ) → length (n ∷ ns) ≡ length b.lengths → All (λ k. k < q.cfg.size) (n ∷ ns) → All (IsPutWithin q.base (16 * q.cfg.size)) (direct_puts q b (n ∷ ns))
direct_within q b n ns many below =
    puts_within q.base q.cfg.size (n ∷ ns) (descriptors_of (data_address q.base n) b.readable_pieces b.lengths ns) below
    (omega (arith, length-descriptors_of (data_address q.base n) b.readable_pieces b.lengths ns))

-- these puts, and then those that make the buffer available, leave its chain
pub direct_after : (mem : List ℕ) (q : DriverQueue) (b : PostedBuffer) (n : ℕ) (ns : List ℕ) → IsInMemory (length mem) q.cfg q.base → IsPostable b → b.indirect ≡ false → length b.lengths ≤ q.cfg.size → length (n ∷ ns) ≡ length b.lengths
    → All (λ k. k < q.cfg.size) (n ∷ ns) → IsTrue (is_distinct (n ∷ ns)) → IsChain (written (available_puts q n) (written (direct_puts q b (n ∷ ns)) mem)) q b n
direct_after mem q b n ns ring postable direct fits many below distinct =
    let ds : List Descriptor = descriptors_of (data_address q.base n) b.readable_pieces b.lengths ns in
    let count : length ds ≡ length b.lengths = length-descriptors_of (data_address q.base n) b.readable_pieces b.lengths ns in
    let (some, few) = size_bounds q.cfg.size ring.size in
    let inside : q.base + 0x1000000 ≤ length mem = ring.inside in
    let low : All (λ k. k < 2 ^ 16) (n ∷ ns) = All-weaker (λ k. k < q.cfg.size) (λ k. k < 2 ^ 16) (λ k h. omega arith) (n ∷ ns) below in
    let first : n < q.cfg.size = All-head (λ k. k < q.cfg.size) n ns below in
    let after : List ℕ = written (direct_puts q b (n ∷ ns)) mem in
    let at : AreAt after q.base (n ∷ ns) ds
    = puts_read q.base q.cfg.size (n ∷ ns) ds mem (omega arith) below (omega arith) distinct (buffer_fits q b n ns (length mem) ring postable (omega arith) (All-tail (λ k. k < 2 ^ 16) n ns low))
    in
    let long : length after ≡ length mem = length-written q.base (16 * q.cfg.size) (direct_puts q b (n ∷ ns)) mem (omega arith) (direct_within q b n ns many below) in
    let same : (k : ℕ) → k < q.cfg.size → part (written (available_puts q n) after) (q.base + 16 * k) 16 ≡ part after (q.base + 16 * k) 16
    = λ k h. part-written (driver_area q.base) 0x2000 (available_puts q n) after (q.base + 16 * k) 16 (omega arith) (available_within q (length mem) n ring) (inr (omega arith))
    in
    direct_chain (written (available_puts q n) after) q b n ns direct postable.some fits (omega arith) below (AreAt-same q.base q.cfg.size (n ∷ ns) ds after (written (available_puts q n) after) below same at)

-- the puts of a buffer's table, and of the descriptor that names it, lie below the data
pub indirect_within : (q : DriverQueue) (b : PostedBuffer) (head : ℕ) → length b.lengths ≤ 8 → head < 1024 → All (IsPutWithin q.base 0x400000) (indirect_puts q b head)
indirect_within q b head few low =
    let P = IsPutWithin q.base 0x400000 in
    let table : ℕ = table_address q.base head in
    let ds : List Descriptor = descriptors_of (data_address q.base head) b.readable_pieces b.lengths (numbers 1 (length b.lengths)) in
    let count : length ds ≡ length b.lengths = length-descriptors_of (data_address q.base head) b.readable_pieces b.lengths (numbers 1 (length b.lengths)) in
    let long : length (table_bytes ds) ≡ 16 * length ds = length-table_bytes ds in
    let named : List ℕ = descriptor_bytes (naming table (length b.lengths)) in
    let sixteen : length named ≡ 16 = refl in
    All-cons P (Put table (table_bytes ds)) (Put (q.base + 16 * head) named ∷ [])
    (record { addr = table; bytes = table_bytes ds; is = refl; starts = omega arith; ends = omega arith })
    (All-cons P (Put (q.base + 16 * head) named) [] (record { addr = q.base + 16 * head; bytes = named; is = refl; starts = omega arith; ends = omega arith }) (All-nil P))

-- memory after these puts: the table, and the descriptor that names it
record IsNamed (mem : List ℕ) (q : DriverQueue) (head count : ℕ) (bytes : List ℕ) : Type 0 where
  pub named : descriptor_at mem q.base head ≡ naming (table_address q.base head) count
  pub table : part mem (table_address q.base head) (length bytes) ≡ bytes

-- these puts leave that
named_after : (mem : List ℕ) (q : DriverQueue) (head count : ℕ) (bytes : List ℕ) → q.base ≤ 0x5000000 → q.base + 0x1000000 ≤ length mem → head < 1024 → count ≤ 8 → length bytes ≡ 16 * count
    → IsNamed (written (Put (table_address q.base head) bytes ∷ Put (q.base + 16 * head) (descriptor_bytes (naming (table_address q.base head) count)) ∷ []) mem) q head count bytes
named_after mem q head count bytes low_base inside low few long =
    let table : ℕ = table_address q.base head in
    let d : Descriptor = naming table count in
    let sixteen : length (descriptor_bytes d) ≡ 16 = length-descriptor_bytes d in
    let first : List ℕ = put_at mem table bytes in
    let same : length first ≡ length mem = length-put_at mem table bytes (omega arith) in
    let both : written (Put table bytes ∷ Put (q.base + 16 * head) (descriptor_bytes d) ∷ []) mem ≡ put_at first (q.base + 16 * head) (descriptor_bytes d)
    = written_put table bytes (Put (q.base + 16 * head) (descriptor_bytes d) ∷ []) mem (omega arith) ∙ written_put (q.base + 16 * head) (descriptor_bytes d) [] first (omega arith)
    in
    record {
      named = ap (λ (m : List ℕ). descriptor_at m q.base head) both ∙ descriptor_at-put first q.base head d (record { addr = omega arith; len = omega arith; flags = omega arith; next = omega arith }) (omega arith);
      table =
          ap (λ (m : List ℕ). part m table (length bytes)) both
          ∙ part-put_at_apart first (q.base + 16 * head) (descriptor_bytes d) table (length bytes) (omega arith) (inl (omega arith))
          ∙ part-put_at_same_length mem table bytes (length bytes) refl (omega arith);
    }

-- and with those that make the buffer available its chain
pub indirect_after : (mem : List ℕ) (q : DriverQueue) (b : PostedBuffer) (head : ℕ) → IsInMemory (length mem) q.cfg q.base → IsPostable b → b.indirect ≡ true → q.cfg.indirect ≡ true → length b.lengths ≤ q.cfg.size → head < q.cfg.size
    → IsChain (written (available_puts q head) (written (indirect_puts q b head) mem)) q b head
indirect_after mem q b head ring postable indirect offered fits low =
    let count : ℕ = length b.lengths in
    let table : ℕ = table_address q.base head in
    let locations : List ℕ = numbers 1 count in
    let ds : List Descriptor = descriptors_of (data_address q.base head) b.readable_pieces b.lengths locations in
    let many : length ds ≡ count = length-descriptors_of (data_address q.base head) b.readable_pieces b.lengths locations in
    let bytes : List ℕ = table_bytes ds in
    let long : length bytes ≡ 16 * length ds = length-table_bytes ds in
    let few : count ≤ 8 = postable.few in
    let (some, high) = size_bounds q.cfg.size ring.size in
    let inside : q.base + 0x1000000 ≤ length mem = ring.inside in
    let after : List ℕ = written (indirect_puts q b head) mem in
    let last : List ℕ = written (available_puts q head) after in
    let facts : IsNamed after q head count bytes = named_after mem q head count bytes (base_low q (length mem) ring) inside (omega arith) few (omega arith) in
    let same : length after ≡ length mem = length-written q.base 0x400000 (indirect_puts q b head) mem (omega arith) (indirect_within q b head few (omega arith)) in
    let puts : All (IsPutWithin (driver_area q.base) 0x2000) (available_puts q head) = available_within q (length mem) head ring in
    let same2 : length last ≡ length after = length-written (driver_area q.base) 0x2000 (available_puts q head) after (omega arith) puts in
    let named : descriptor_at last q.base head ≡ naming table count
    = ap descriptor_in (part-written (driver_area q.base) 0x2000 (available_puts q head) after (q.base + 16 * head) 16 (omega arith) puts (inr (omega arith))) ∙ facts.named
    in
    let size : 16 * length ds ≡ length bytes = omega arith in
    let begin : table + 16 * 0 ≡ table = omega arith in
    let held : part last (table + 16 * 0) (16 * length ds) ≡ bytes
    = ap (λ (k : ℕ). part last (table + 16 * 0) k) size
    ∙ ap (λ (a : ℕ). part last a (length bytes)) begin
    ∙ part-written (driver_area q.base) 0x2000 (available_puts q head) after table (length bytes) (omega arith) puts (inl (omega arith))
    ∙ facts.table
    in
    let below : All (λ k. k < 2 ^ 16) locations = all_from_members (λ k. k < 2 ^ 16) locations (λ k m. let (from, to) = is_in_numbers k 1 count m in omega arith) in
    indirect_chain last q b head table indirect offered postable.some few fits low (omega arith) named
    (table_reads last table 0 (suc count) ds (omega arith) (buffer_fits q b head locations (length mem) ring postable (omega arith) below) held)
