-- Descriptors that were put at locations of a table are read there.
use Rattle.std.proofs.Common.{◌≡◌, ℕ, ◌+◌, ◌*◌, ◌<◌, ◌≤◌, List, [], ◌∷◌, length, eqb, false, inl, inr, refl, sym, ◌∙◌, ap, subst, arith}
use Rattle.std.specs.Prelude.{IsTrue, All}
use Rattle.std.proofs.lemmas.Bool.{false≢true, cases_order, or_parts, eq-eqb}
use Rattle.std.proofs.lemmas.List.Elements.{All-nil, All-cons, All-head, All-tail}
use Rattle.guest_mem.specs.Memory.{part, put_at, Apart}
use Rattle.guest_mem.proofs.Parts.{length-put_at}
use Rattle.vt_types.specs.Access.{Put}
use Rattle.vq_common.specs.declared.descriptor.Descriptor.{Descriptor}
use Rattle.vq_common.specs.Descriptor.{descriptor_at, descriptor_bytes, descriptor_in}
use Rattle.vq_common.proofs.DescriptorLaws.{Fits, length-descriptor_bytes, descriptor_at-put, descriptor_at-put_apart}
use Rattle.vq_split_drv.specs.Post.{puts_of}
use Rattle.vq_split_pair.proofs.Written.{written, written_put, IsPutWithin}
use Rattle.vq_posted.proofs.Members.{distinct_parts}
use Rattle.vq_posted.specs.Free.{is_distinct, is_in}

-- these descriptors are read at these locations of a table, one after the other
abbrev pub AreAt : List ℕ → ℕ → List ℕ → List Descriptor → Type 0
AreAt mem table locations [] = Unit {0}
AreAt mem table [] (d ∷ ds) = ⊥
AreAt mem table (n ∷ ns) (d ∷ ds) = (descriptor_at mem table n ≡ d) × AreAt mem table ns ds

-- two different locations of a table lie apart
pub locations_apart : (table n k : ℕ) → (n ≡ k → ⊥) → Apart (table + 16 * n) 16 (table + 16 * k) 16
locations_apart table n k other =
    elim (cases_order n k) [
      | inl same ↦ absurd (other same)
      | inr order ↦ elim order [ inl below ↦ inl (omega arith) | inr above ↦ inr (omega arith) ]
    ]

-- puts at other locations leave a location
puts_leave : (table count k : ℕ) (locations : List ℕ) (ds : List Descriptor) (mem : List ℕ) → table + 16 * count ≤ length mem → All (λ n. n < count) locations → length ds ≤ length locations → is_in k locations ≡ false
    → descriptor_at (written (puts_of table locations ds) mem) table k ≡ descriptor_at mem table k
puts_leave table count k locations [] mem inside below few other = refl
puts_leave table count k [] (d ∷ ds) mem inside below few other = absurd (omega arith)
puts_leave table count k (n ∷ ns) (d ∷ ds) mem inside below few other =
    let here : n < count = All-head (λ n. n < count) n ns below in
    let (apart, others) = or_parts (eqb n k) (is_in k ns) other in
    let long : length (descriptor_bytes d) ≡ 16 = length-descriptor_bytes d in
    let after : List ℕ = put_at mem (table + 16 * n) (descriptor_bytes d) in
    let same : length after ≡ length mem = length-put_at mem (table + 16 * n) (descriptor_bytes d) (omega arith) in
    ap (λ (m : List ℕ). descriptor_at m table k) (written_put (table + 16 * n) (descriptor_bytes d) (puts_of table ns ds) mem (omega arith))
    ∙ puts_leave table count k ns ds after (omega arith) (All-tail (λ n. n < count) n ns below) (omega arith) others
    ∙ descriptor_at-put_apart mem (table + 16 * n) (descriptor_bytes d) table k (omega arith) (locations_apart table n k (λ e. false≢true (sym apart ∙ eq-eqb n k e)))

-- descriptors that were put at different locations are read there
pub puts_read : (table count : ℕ) (locations : List ℕ) (ds : List Descriptor) (mem : List ℕ) → table + 16 * count ≤ length mem → All (λ n. n < count) locations → length ds ≤ length locations → IsTrue (is_distinct locations) → All Fits ds
    → AreAt (written (puts_of table locations ds) mem) table locations ds
puts_read table count locations [] mem inside below few distinct fits = tt
puts_read table count [] (d ∷ ds) mem inside below few distinct fits = absurd (omega arith)
puts_read table count (n ∷ ns) (d ∷ ds) mem inside below few distinct fits =
    let here : n < count = All-head (λ n. n < count) n ns below in
    let rest : All (λ n. n < count) ns = All-tail (λ n. n < count) n ns below in
    let (apart, others) = distinct_parts n ns distinct in
    let long : length (descriptor_bytes d) ≡ 16 = length-descriptor_bytes d in
    let after : List ℕ = put_at mem (table + 16 * n) (descriptor_bytes d) in
    let same : length after ≡ length mem = length-put_at mem (table + 16 * n) (descriptor_bytes d) (omega arith) in
    let step : written (puts_of table (n ∷ ns) (d ∷ ds)) mem ≡ written (puts_of table ns ds) after = written_put (table + 16 * n) (descriptor_bytes d) (puts_of table ns ds) mem (omega arith) in
    subst (λ (m : List ℕ). AreAt m table (n ∷ ns) (d ∷ ds)) (sym step) (
      puts_leave table count n ns ds after (omega arith) rest (omega arith) apart ∙ descriptor_at-put mem table n d (All-head Fits d ds fits) (omega arith),
      puts_read table count ns ds after (omega arith) rest (omega arith) others (All-tail Fits d ds fits),
    )

-- the puts lie inside the table
pub puts_within : (table count : ℕ) (locations : List ℕ) (ds : List Descriptor) → All (λ n. n < count) locations → length ds ≤ length locations → All (IsPutWithin table (16 * count)) (puts_of table locations ds)
puts_within table count locations [] below few = All-nil (IsPutWithin table (16 * count))
puts_within table count [] (d ∷ ds) below few = absurd (omega arith)
puts_within table count (n ∷ ns) (d ∷ ds) below few =
    let here : n < count = All-head (λ n. n < count) n ns below in
    let long : length (descriptor_bytes d) ≡ 16 = length-descriptor_bytes d in
    All-cons (IsPutWithin table (16 * count)) (Put (table + 16 * n) (descriptor_bytes d)) (puts_of table ns ds)
    (record { addr = table + 16 * n; bytes = descriptor_bytes d; is = refl; starts = omega arith; ends = omega arith })
    (puts_within table count ns ds (All-tail (λ n. n < count) n ns below) (omega arith))

-- where memory holds the same bytes in the table, the same descriptors are read
pub AreAt-same : (table count : ℕ) (locations : List ℕ) (ds : List Descriptor) (mem mem2 : List ℕ) → All (λ n. n < count) locations → ((n : ℕ) → n < count → part mem2 (table + 16 * n) 16 ≡ part mem (table + 16 * n) 16)
    → AreAt mem table locations ds → AreAt mem2 table locations ds
AreAt-same table count locations [] mem mem2 below same at = tt
AreAt-same table count [] (d ∷ ds) mem mem2 below same at = at
AreAt-same table count (n ∷ ns) (d ∷ ds) mem mem2 below same (first, rest) =
    (ap descriptor_in (same n (All-head (λ n. n < count) n ns below)) ∙ first, AreAt-same table count ns ds mem mem2 (All-tail (λ n. n < count) n ns below) same rest)
