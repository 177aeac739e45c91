-- A held buffer whose puts stand is a chain of the ring.
use Rattle.std.proofs.Common.{◌≡◌, ℕ, suc, ◌+◌, ◌*◌, ◌^◌, ◌<◌, ◌≤◌, List, [], ◌∷◌, length, true, false, inl, inr, refl, sym, ◌∙◌, ap, subst, arith}
use Rattle.std.specs.Prelude.{All}
use Rattle.std.proofs.lemmas.Bool.{cases_Bool, cond-true, cond-false}
use Rattle.std.proofs.lemmas.List.Elements.{All-head, All-tail, All-weaker}
use Rattle.guest_mem.specs.Memory.{part as bytes_at}
use Rattle.vt_types.specs.Operation.{PostedBuffer}
use Rattle.vq_common.specs.declared.descriptor.Descriptor.{Descriptor}
use Rattle.vq_common.specs.Descriptor.{descriptor_in}
use Rattle.vt_layout.specs.QueueBlock.{data_address, table_address}
use Rattle.vq_common.specs.Queue.{DriverQueue, slots_of, new_driver_queue}
use Rattle.vq_common.proofs.DescriptorLaws.{Fits, descriptor_in-descriptor_bytes}
use Rattle.vq_split_drv.specs.Cost.{length-descriptors_of, length-table_bytes}
use Rattle.vq_posted.specs.Free.{numbers}
use Rattle.vq_split_drv.specs.Post.{puts_of, chain_puts, direct_puts, indirect_puts, descriptors_of, table_bytes}
use Rattle.port_access.specs.Accesses.{data_puts}
use Rattle.vq_posted.proofs.Numbers.{is_in_numbers}
use Rattle.vq_posted.proofs.Members.{all_from_members}
use Rattle.vq_split_pair.specs.Pair.{IsInMemory}
use Rattle.vq_split_pair.proofs.BufferChains.{IsChain, direct_chain, indirect_chain, naming}
use Rattle.vq_split_pair.proofs.ChainParts.{base_low, buffer_fits}
use Rattle.vq_split_pair.proofs.Located.{AreAt}
use Rattle.vq_split_pair.proofs.Tables.{table_reads}
use Rattle.memory_port.specs.Puts.{Hold}
use Rattle.ring_part.specs.Held.{Held, CanStand}

-- descriptors whose puts stand are read
are_at : (mem : List ℕ) (table : ℕ) (locations : List ℕ) (ds : List Descriptor) → length ds ≤ length locations → All Fits ds → Hold (puts_of table locations ds) mem → AreAt mem table locations ds
are_at mem table locations [] few fits holds = tt
are_at mem table [] (d ∷ ds) few fits holds = absurd (omega arith)
are_at mem table (n ∷ ns) (d ∷ ds) few fits (is, holds) =
    (ap descriptor_in is ∙ descriptor_in-descriptor_bytes d (All-head Fits d ds fits), are_at mem table ns ds (omega arith) (All-tail Fits d ds fits) holds)

-- data whose put stands is read
pub data_stands : (mem : List ℕ) (location : ℕ) (bytes : List ℕ) → Hold (data_puts location bytes) mem → bytes_at mem location (length bytes) ≡ bytes
data_stands mem location [] holds = refl
data_stands mem location (byte ∷ bytes) (is, holds) = is

module _ (mem : List ℕ) (q : DriverQueue) (h : Held) (ring : IsInMemory (length mem) q.cfg q.base) (can : CanStand q.cfg h) (below : All (λ k. k < q.cfg.size) (h.head ∷ h.others)) (low : q.cfg.size ≤ 1024) (room : slots_of h.buffer ≤ q.cfg.size) where
  -- the fields of its descriptors fit
  fits : (locations : List ℕ) → All (λ k. k < 2 ^ 16) locations → All Fits (descriptors_of (data_address q.base h.head) h.buffer.readable_pieces h.buffer.lengths locations)
  fits locations small =
      let head : h.head < q.cfg.size = All-head (λ k. k < q.cfg.size) h.head h.others below in
      buffer_fits q h.buffer h.head locations (length mem) ring can.postable (omega arith) small

  -- descriptors of its own that stand are its chain, and so is a table
  direct_stands : h.buffer.indirect ≡ false → Hold (direct_puts (new_driver_queue q.cfg q.base) h.buffer (h.head ∷ h.others)) mem → IsChain mem q h.buffer h.head
  direct_stands direct holds =
      let b : PostedBuffer = h.buffer in
      let slots : slots_of b ≡ length b.lengths = cond-false b.indirect 1 (length b.lengths) direct in
      let many : length (h.head ∷ h.others) ≡ slots_of b = can.count in
      let ds : List Descriptor = descriptors_of (data_address q.base h.head) b.readable_pieces b.lengths h.others in
      let count : length ds ≡ length b.lengths = length-descriptors_of (data_address q.base h.head) b.readable_pieces b.lengths h.others in
      let small : All (λ k. k < 2 ^ 16) h.others = All-weaker (λ k. k < q.cfg.size) (λ k. k < 2 ^ 16) (λ k less. omega arith) h.others (All-tail (λ k. k < q.cfg.size) h.head h.others below) in
      direct_chain mem q b h.head h.others direct can.postable.some (omega arith) (omega arith) below (are_at mem q.base (h.head ∷ h.others) ds (omega arith) (fits h.others small) holds)

  indirect_stands : h.buffer.indirect ≡ true → Hold (indirect_puts (new_driver_queue q.cfg q.base) h.buffer h.head) mem → IsChain mem q h.buffer h.head
  indirect_stands indirect (table, (named, none)) =
      let b : PostedBuffer = h.buffer in
      let at : ℕ = table_address q.base h.head in
      let locations : List ℕ = numbers 1 (length b.lengths) in
      let ds : List Descriptor = descriptors_of (data_address q.base h.head) b.readable_pieces b.lengths locations in
      let count : length ds ≡ length b.lengths = length-descriptors_of (data_address q.base h.head) b.readable_pieces b.lengths locations in
      let long : length (table_bytes ds) ≡ 16 * length ds = length-table_bytes ds in
      let few : length b.lengths ≤ 8 = can.postable.few in
      let head : h.head < q.cfg.size = All-head (λ k. k < q.cfg.size) h.head h.others below in
      let inside : q.base + 0x1000000 ≤ length mem = ring.inside in
      let base : q.base ≤ 0x5000000 = base_low q (length mem) ring in
      let begin : at ≡ at + 16 * 0 = omega arith in
      let small : All (λ k. k < 2 ^ 16) locations = all_from_members (λ k. k < 2 ^ 16) locations (λ k m. let (from, to) = is_in_numbers k 1 (length b.lengths) m in omega arith) in
      let names : Fits (naming at (length b.lengths)) = record { addr = omega arith; len = omega arith; flags = omega arith; next = omega arith } in
      let held : bytes_at mem (at + 16 * 0) (16 * length ds) ≡ table_bytes ds
      = ap (λ n. bytes_at mem (at + 16 * 0) n) (sym long) ∙ ap (λ a. bytes_at mem a (length (table_bytes ds))) (sym begin) ∙ table
      in
      indirect_chain mem q b h.head at indirect (can.feature indirect) can.postable.some few (can.table indirect) head (omega arith)
      (ap descriptor_in named ∙ descriptor_in-descriptor_bytes (naming at (length b.lengths)) names)
      (table_reads mem at 0 (suc (length b.lengths)) ds (omega arith) (fits locations small) held)

  -- a buffer whose puts stand is its chain
  pub chain_stands : Hold (chain_puts (new_driver_queue q.cfg q.base) h.buffer (h.head ∷ h.others)) mem → IsChain mem q h.buffer h.head
  chain_stands holds =
      let made : DriverQueue = new_driver_queue q.cfg q.base in
      elim (cases_Bool h.buffer.indirect) [
        | inl t ↦ indirect_stands t (subst (λ ps. Hold ps mem) (cond-true h.buffer.indirect (indirect_puts made h.buffer h.head) (direct_puts made h.buffer (h.head ∷ h.others)) t) holds)
        | inr f ↦ direct_stands f (subst (λ ps. Hold ps mem) (cond-false h.buffer.indirect (indirect_puts made h.buffer h.head) (direct_puts made h.buffer (h.head ∷ h.others)) f) holds)
      ]
