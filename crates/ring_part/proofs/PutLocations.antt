-- Where the puts of a ring are.
use Rattle.std.proofs.Common.{◌≡◌, ℕ, suc, ◌+◌, ◌*◌, ◌%◌, ◌^◌, ◌<◌, ◌≤◌, List, [], ◌∷◌, length, eqb, true, refl, sym, ◌∙◌, subst, inl, inr, arith}
use Rattle.std.specs.Prelude.{All}
use Rattle.std.proofs.Math.Nat.{mod-lt}
use Rattle.std.proofs.lemmas.Bool.{cases_Bool, cond-true, cond-false, or_left, or_right, eq-eqb}
use Rattle.std.proofs.lemmas.List.Elements.{All-head, All-tail}
use Rattle.vt_types.specs.Access.{AccessValue, Put}
use Rattle.byteorder.specs.Endian.{little_bytes}
use Rattle.vt_types.specs.Limits.{LONGEST_BUFFER}
use Rattle.abstract_devices.specs.World.{SignalMode}
use Rattle.vt_types.specs.Operation.{PostedBuffer}
use Rattle.vq_common.specs.declared.chain.RingCfg.{RingCfg}
use Rattle.vq_common.specs.declared.descriptor.Descriptor.{Descriptor}
use Rattle.vt_layout.specs.QueueBlock.{driver_area, data_address}
use Rattle.vq_common.specs.Queue.{DriverQueue, slots_of, new_driver_queue}
use Rattle.vq_common.proofs.DescriptorLaws.{length-descriptor_bytes}
use Rattle.vq_split_drv.specs.Cost.{length-descriptors_of, length-table_bytes}
use Rattle.vq_common.proofs.PostLaws.{readable-le}
use Rattle.vq_posted.specs.Free.{is_in, numbers}
use Rattle.vq_split_drv.specs.Post.{puts_of, chain_puts, direct_puts, indirect_puts, descriptors_of, table_bytes}
use Rattle.port_access.specs.Accesses.{data_puts}
use Rattle.vq_posted.proofs.Members.{is_in-append}
use Rattle.memory_port.specs.Puts.{AllIn}
use Rattle.memory_port.proofs.PutLaws.{all_in-append, all_in-weaker}
use Rattle.ring_part.specs.Held.{Held, UsedHeld, CanStand}
use Rattle.ring_part.specs.RingPuts.{held_puts, all_puts, entry_at, entry_puts, element_at, element_puts, asks_put, flag_of, next}
use Rattle.ring_part.proofs.Records.{locations_of}
use Rattle.ring_part.specs.Locations.{AtDescriptor, AtTable, AtData, OwnedBy}

-- each number of one list is in another
abbrev IsPart : List ℕ → List ℕ → Type 0
IsPart xs ys = (k : ℕ) → is_in k xs ≡ true → is_in k ys ≡ true

-- descriptors that are put belong to their locations
puts_owned : (base : ℕ) (ks locations : List ℕ) (ds : List Descriptor) → length ds ≤ length locations → IsPart locations ks → AllIn (OwnedBy base ks) (puts_of base locations ds)
puts_owned base ks locations [] few part = tt
puts_owned base ks [] (d ∷ ds) few part = absurd (omega arith)
puts_owned base ks (n ∷ ns) (d ∷ ds) few part = (
  (n, part n (or_left (eqb n n) (is_in n ns) (eq-eqb n n refl)), AtDescriptor (omega arith) (omega (arith, length-descriptor_bytes d))),
  puts_owned base ks ns ds (omega arith) (λ k m. part k (or_right (eqb n k) (is_in k ns) m)),
)

-- data that is put belongs to its head
data_owned : (base : ℕ) (ks : List ℕ) (n : ℕ) (bytes : List ℕ) → is_in n ks ≡ true → length bytes ≤ LONGEST_BUFFER → AllIn (OwnedBy base ks) (data_puts (data_address base n) bytes)
data_owned base ks n [] m few = tt
data_owned base ks n (byte ∷ bytes) m few = ((n, m, AtData (omega arith) (omega arith)), tt)

-- the descriptors of a buffer, or its table, belong to its own
chain_owned : (cfg : RingCfg) (base : ℕ) (h : Held) → CanStand cfg h → AllIn (OwnedBy base (h.head ∷ h.others)) (chain_puts (new_driver_queue cfg base) h.buffer (h.head ∷ h.others))
chain_owned cfg base h can =
    let b : PostedBuffer = h.buffer in
    let ks : List ℕ = h.head ∷ h.others in
    let q : DriverQueue = new_driver_queue cfg base in
    let mine : is_in h.head ks ≡ true = or_left (eqb h.head h.head) (is_in h.head h.others) (eq-eqb h.head h.head refl) in
    let few : length b.lengths ≤ 8 = can.postable.few in
    elim (cases_Bool b.indirect) [
      | inl t ↦
          let ds : List Descriptor = descriptors_of (data_address base h.head) b.readable_pieces b.lengths (numbers 1 (length b.lengths)) in
          let count : length ds ≡ length b.lengths = length-descriptors_of (data_address base h.head) b.readable_pieces b.lengths (numbers 1 (length b.lengths)) in
          let long : length (table_bytes ds) ≡ 16 * length ds = length-table_bytes ds in
          subst (AllIn (OwnedBy base ks)) (sym (cond-true b.indirect (indirect_puts q b h.head) (direct_puts q b ks) t))
          ((h.head, mine, AtTable (omega arith) (omega arith)), ((h.head, mine, AtDescriptor (omega arith) (omega arith)), tt))
      | inr f ↦
          let ds : List Descriptor = descriptors_of (data_address base h.head) b.readable_pieces b.lengths h.others in
          let count : length ds ≡ length b.lengths = length-descriptors_of (data_address base h.head) b.readable_pieces b.lengths h.others in
          let slots : slots_of b ≡ length b.lengths = cond-false b.indirect 1 (length b.lengths) f in
          let many : length ks ≡ slots_of b = can.count in
          subst (AllIn (OwnedBy base ks)) (sym (cond-false b.indirect (indirect_puts q b h.head) (direct_puts q b ks) f))
          (puts_owned base ks ks ds (omega arith) (λ k m. m))
    ]

-- the puts of a buffer are at its own locations
pub held_owned : (cfg : RingCfg) (base : ℕ) (h : Held) → CanStand cfg h → AllIn (OwnedBy base (h.head ∷ h.others)) (held_puts cfg base h)
held_owned cfg base h can =
    let ks : List ℕ = h.head ∷ h.others in
    let mine : is_in h.head ks ≡ true = or_left (eqb h.head h.head) (is_in h.head h.others) (eq-eqb h.head h.head refl) in
    all_in-append (OwnedBy base ks) (data_puts (data_address base h.head) h.buffer.readable) (chain_puts (new_driver_queue cfg base) h.buffer ks)
    (data_owned base ks h.head h.buffer.readable mine (readable-le h.buffer can.postable)) (chain_owned cfg base h can)

-- and those of several at theirs
pub all_owned : (cfg : RingCfg) (base : ℕ) (hs : List Held) → All (CanStand cfg) hs → AllIn (OwnedBy base (locations_of hs)) (all_puts cfg base hs)
all_owned cfg base [] can = tt
all_owned cfg base (h ∷ hs) can =
    let mine : List ℕ = h.head ∷ h.others in
    let P = OwnedBy base (locations_of (h ∷ hs)) in
    all_in-append P (held_puts cfg base h) (all_puts cfg base hs)
    (all_in-weaker (OwnedBy base mine) P (λ a n o. (o.0, is_in-append o.0 mine (locations_of hs) ∙ or_left (is_in o.0 mine) (is_in o.0 (locations_of hs)) o.1, o.2)) (held_puts cfg base h) (held_owned cfg base h (All-head (CanStand cfg) h hs can)))
    (all_in-weaker (OwnedBy base (locations_of hs)) P (λ a n o. (o.0, is_in-append o.0 mine (locations_of hs) ∙ or_right (is_in o.0 mine) (is_in o.0 (locations_of hs)) o.1, o.2)) (all_puts cfg base hs) (all_owned cfg base hs (All-tail (CanStand cfg) h hs can)))

-- where the entries stand
pub entries_in : (P : ℕ → ℕ → Type 0) (base size n : ℕ) (hs : List Held) → n < 2 ^ 16 → ((i : ℕ) → i < length hs → P (entry_at base size ((n + i) % 2 ^ 16)) 2) → AllIn P (entry_puts base size n hs)
entries_in P base size n [] low each = tt
entries_in P base size n (h ∷ hs) low each =
    let first : (n + 0) % 2 ^ 16 ≡ n = omega arith in (
      subst (λ k. P (entry_at base size k) 2) first (each 0 (omega arith)),
      entries_in P base size (next n) hs (mod-lt (n + 1) (omega arith))
          (λ i less. let same : (n + suc i) % 2 ^ 16 ≡ (next n + i) % 2 ^ 16 = omega arith in subst (λ k. P (entry_at base size k) 2) same (each (suc i) (omega arith))),
    )

-- and the elements, with their bytes
pub elements_in : (P : ℕ → ℕ → Type 0) (base size n : ℕ) (us : List UsedHeld) → n < 2 ^ 16 → ((i : ℕ) → i < length us → P (element_at base size ((n + i) % 2 ^ 16)) 8)
    → All (λ (u : UsedHeld). P (data_address base u.held.head + length u.held.buffer.readable) (length u.written)) us → AllIn P (element_puts base size n us)
elements_in P base size n [] low each bytes = tt
elements_in P base size n (u ∷ us) low each bytes =
    let Q : UsedHeld → Type 0 = λ u. P (data_address base u.held.head + length u.held.buffer.readable) (length u.written) in
    let first : (n + 0) % 2 ^ 16 ≡ n = omega arith in (
      subst (λ k. P (element_at base size k) 8) first (each 0 (omega arith)),
      (
        All-head Q u us bytes,
        elements_in P base size (next n) us (mod-lt (n + 1) (omega arith))
            (λ i less. let same : (n + suc i) % 2 ^ 16 ≡ (next n + i) % 2 ^ 16 = omega arith in subst (λ k. P (element_at base size k) 8) same (each (suc i) (omega arith)))
            (All-tail Q u us bytes),
      ),
    )

-- where the driver asks for signals
pub asks_in : (P : ℕ → ℕ → Type 0) (cfg : RingCfg) (base : ℕ) (mode : SignalMode) (used : ℕ) → P (driver_area base + (4 + 2 * cfg.size)) 2 → P (driver_area base) 2 → AllIn P (asks_put cfg base mode used ∷ [])
asks_in P cfg base mode used event flags =
    elim (cases_Bool cfg.event_idx) [
      | inl t ↦ subst (λ (p : AccessValue). AllIn P (p ∷ [])) (sym (cond-true cfg.event_idx (Put (driver_area base + (4 + 2 * cfg.size)) (little_bytes 2 used)) (Put (driver_area base) (little_bytes 2 (flag_of mode))) t)) (event, tt)
      | inr f ↦ subst (λ (p : AccessValue). AllIn P (p ∷ [])) (sym (cond-false cfg.event_idx (Put (driver_area base + (4 + 2 * cfg.size)) (little_bytes 2 used)) (Put (driver_area base) (little_bytes 2 (flag_of mode))) f)) (flags, tt)
    ]
