-- The descriptors of a buffer, direct or in a table, make its chain.
use Rattle.std.proofs.Common.{◌≡◌, ℕ, zero, suc, ◌+◌, ◌*◌, ◌/◌, ◌%◌, ◌<◌, ◌≤◌, List, [], ◌∷◌, length, take, eqb, true, false, IsTrue, Some, None, refl, sym, ◌∙◌, ap, arith}
use Rattle.std.specs.Prelude.{◌&&◌, All, nat_le, nat_lt}
use Rattle.std.proofs.lemmas.Bool.{and_from, cond-true, cond-false, eq-eqb, le-leb, lt-ltb}
use Rattle.std.proofs.lemmas.List.Elements.{All-same, All-take}
use Rattle.vq_common.specs.declared.chain.Piece.{Piece}
use Rattle.vq_common.specs.declared.descriptor.Descriptor.{Descriptor}
use Rattle.vt_types.specs.Operation.{PostedBuffer}
use Rattle.vq_common.specs.Descriptor.{chain_from, descriptor_at}
use Rattle.vt_layout.specs.QueueBlock.{data_address}
use Rattle.vq_common.specs.Queue.{DriverQueue, slots_of}
use Rattle.vq_common.specs.Table.{is_table, pieces_if_direct, split_table, table_pieces}
use Rattle.vq_split_dev.specs.Walk.{chain_pieces}
use Rattle.vq_split_drv.specs.Cost.{length-descriptors_of}
use Rattle.vq_split_drv.specs.Post.{descriptors_of}
use Rattle.vq_split_pair.proofs.Chains.{chain_one, chain_reads}
use Rattle.vq_common.specs.Piece.{pieces_from}
use Rattle.vq_split_pair.proofs.Pieces.{chain_pieces_are, table_pieces_are}
use Rattle.vq_split_pair.proofs.Located.{AreAt}
use Rattle.vq_posted.proofs.Members.{all_from_members}
use Rattle.vq_posted.proofs.Numbers.{is_in_numbers, length-numbers}
use Rattle.vq_posted.specs.Free.{numbers}

-- the descriptors from a head on are a chain of as many slots as a buffer has, and its pieces are those of the buffer
pub record IsChain (mem : List ℕ) (q : DriverQueue) (b : PostedBuffer) (head : ℕ) : Type 0 where
  pub descriptors : List Descriptor
  pub chain : chain_from q.cfg.size mem q.base q.cfg.size head ≡ Some descriptors
  pub pieces : chain_pieces mem q.cfg descriptors ≡ Some (pieces_from (data_address q.base head) b.readable_pieces b.lengths)
  pub slots : length descriptors ≡ slots_of b

-- the descriptors of a buffer at its locations are its chain
pub direct_chain : (mem : List ℕ) (q : DriverQueue) (b : PostedBuffer) (n : ℕ) (ns : List ℕ) → b.indirect ≡ false → 1 ≤ length b.lengths → length b.lengths ≤ q.cfg.size → length b.lengths ≤ suc (length ns)
    → All (λ k. k < q.cfg.size) (n ∷ ns) → AreAt mem q.base (n ∷ ns) (descriptors_of (data_address q.base n) b.readable_pieces b.lengths ns) → IsChain mem q b n
direct_chain mem q b n ns direct some few enough below at =
    let location : ℕ = data_address q.base n in
    record {
      descriptors = descriptors_of location b.readable_pieces b.lengths ns;
      chain = chain_reads location b.readable_pieces b.lengths n ns q.cfg.size mem q.base q.cfg.size some few enough (All-take (λ k. k < q.cfg.size) (length b.lengths) (n ∷ ns) below) at;
      pieces = chain_pieces_are mem q.cfg location b.readable_pieces b.lengths ns;
      slots = length-descriptors_of location b.readable_pieces b.lengths ns ∙ sym (cond-false b.indirect 1 (length b.lengths) direct);
    }

-- the descriptor that names the table of so many descriptors
abbrev pub naming : ℕ → ℕ → Descriptor
naming table count = record { addr = table; len = 16 * count; flags = 4; next = 0 }

-- a table of 1 to 8 descriptors, no more than the queue has, is one that a chain may have
table_allowed : (memory addr count size : ℕ) → 1 ≤ count → count ≤ 8 → count ≤ size → addr + 16 * count ≤ memory → IsTrue (is_table memory addr (16 * count) size)
table_allowed memory addr count size some few fits inside =
    let quotient : 16 * count / 16 ≡ count = omega arith in
    let rest : 16 * count % 16 ≡ 0 = omega arith in
    and_from _ (nat_le (16 * count / 16) size)
    (and_from _ (nat_le (16 * count / 16) 8)
    (and_from _ (nat_le (addr + 16 * count) memory)
    (and_from (nat_lt 0 (16 * count)) (eqb (16 * count % 16) 0) (lt-ltb 0 (16 * count) (omega arith)) (eq-eqb (16 * count % 16) 0 rest))
    (le-leb (addr + 16 * count) memory inside))
    (le-leb (16 * count / 16) 8 (omega arith)))
    (le-leb (16 * count / 16) size (omega arith))

-- so many numbers in a row without the last
take-numbers : (from n : ℕ) → take n (numbers from (suc n)) ≡ numbers from n
take-numbers from zero = refl
take-numbers from (suc n) = ap (λ (ns : List ℕ). from ∷ ns) (take-numbers (from + 1) n)

-- the descriptors of a table are its pieces
table_read : (mem : List ℕ) (table addr size : ℕ) (b : PostedBuffer) → 1 ≤ length b.lengths → length b.lengths ≤ 8 → length b.lengths ≤ size → table + 16 * length b.lengths ≤ length mem
    → AreAt mem table (numbers 0 (suc (length b.lengths))) (descriptors_of addr b.readable_pieces b.lengths (numbers 1 (length b.lengths)))
    → table_pieces mem table (16 * length b.lengths) size true ≡ Some (pieces_from addr b.readable_pieces b.lengths)
table_read mem table addr size b some few fits inside at =
    let count : ℕ = length b.lengths in
    let locations : List ℕ = numbers 1 count in
    let quotient : 16 * count / 16 ≡ count = omega arith in
    let below : All (λ k. k < count) (numbers 0 count) = all_from_members (λ k. k < count) (numbers 0 count) (λ k m. let (low, high) = is_in_numbers k 0 count m in omega arith) in
    cond-true (is_table (length mem) table (16 * count) size) (split_table mem table (16 * count)) None (table_allowed (length mem) table count size some few fits inside)
    ∙ ap (λ (k : ℕ). pieces_if_direct (chain_from k mem table k 0)) quotient
    ∙ ap pieces_if_direct (chain_reads addr b.readable_pieces b.lengths 0 locations count mem table count some (omega arith) (omega (arith, length-numbers 1 count)) (All-same (λ k. k < count) (take count (numbers 0 (suc count))) (numbers 0 count) (take-numbers 0 count) below) at)
    ∙ table_pieces_are addr b.readable_pieces b.lengths locations

-- a head whose descriptor names the table of a buffer is its chain
pub indirect_chain : (mem : List ℕ) (q : DriverQueue) (b : PostedBuffer) (head table : ℕ) → b.indirect ≡ true → q.cfg.indirect ≡ true → 1 ≤ length b.lengths → length b.lengths ≤ 8 → length b.lengths ≤ q.cfg.size → head < q.cfg.size
    → table + 16 * length b.lengths ≤ length mem
    → descriptor_at mem q.base head ≡ naming table (length b.lengths)
    → AreAt mem table (numbers 0 (suc (length b.lengths))) (descriptors_of (data_address q.base head) b.readable_pieces b.lengths (numbers 1 (length b.lengths))) → IsChain mem q b head
indirect_chain mem q b head table indirect offered some few fits low inside named at =
    let d : Descriptor = naming table (length b.lengths) in
    let pieces : List Piece = pieces_from (data_address q.base head) b.readable_pieces b.lengths in
    let found : table_pieces mem table (16 * length b.lengths) q.cfg.size true ≡ Some pieces = table_read mem table (data_address q.base head) q.cfg.size b some few fits inside at in
    record {
      descriptors = d ∷ [];
      chain = chain_one q.cfg.size mem q.base q.cfg.size head d (omega arith) low named refl;
      pieces = cond-true (q.cfg.indirect && true) (table_pieces mem table (16 * length b.lengths) q.cfg.size true) None (and_from q.cfg.indirect true offered refl) ∙ found;
      slots = sym (cond-true b.indirect 1 (length b.lengths) indirect);
    }
