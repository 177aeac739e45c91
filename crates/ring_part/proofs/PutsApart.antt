-- Puts that lie apart.
use Rattle.std.proofs.Common.{◌≡◌, ℕ, ◌+◌, ◌*◌, ◌≤◌, List, [], ◌∷◌, ◌++◌, length, eqb, false, IsTrue, refl, sym, ◌∙◌, ap, subst, arith}
use Rattle.std.specs.Prelude.{All}
use Rattle.std.proofs.lemmas.Bool.{false≢true, or_parts, eq-eqb}
use Rattle.std.proofs.lemmas.List.Elements.{All-head, All-tail}
use Rattle.guest_mem.specs.Memory.{part, put_at, Apart}
use Rattle.guest_mem.proofs.Parts.{length-put_at, part-put_at_apart}
use Rattle.guest_mem.proofs.Ranges.{Apart-inside, Apart-swapped}
use Rattle.vt_types.specs.Access.{AccessValue, Put}
use Rattle.vq_common.specs.declared.descriptor.Descriptor.{Descriptor}
use Rattle.vq_common.proofs.DescriptorLaws.{length-descriptor_bytes}
use Rattle.vq_posted.specs.Free.{is_distinct, is_in}
use Rattle.vq_posted.proofs.Members.{distinct_parts}
use Rattle.vq_split_drv.specs.Post.{puts_of}
use Rattle.vq_split_pair.proofs.Located.{locations_apart}
use Rattle.vq_split_pair.proofs.Written.{IsPutWithin, written, written_put}
use Rattle.ring_part.specs.Laws.{ChangedBy}
use Rattle.ring_part.specs.Locations.{IsInside}
use Rattle.memory_port.specs.Puts.{AllApart, AllIn, OfPut, put_of}
use Rattle.memory_port.proofs.PutLaws.{all_in-append, all_in-weaker}

-- those of two lists, where each of the first lies apart from the second
pub apart-append : (xs ys : List AccessValue) → AllApart xs → AllApart ys → AllIn (λ addr count. AllIn (Apart addr count) ys) xs → AllApart (xs ++ ys)
apart-append [] ys first second between = second
apart-append (Put addr bytes ∷ xs) ys (here, first) second (from, between) = (all_in-append (Apart addr (length bytes)) xs ys here from, apart-append xs ys first second between)
apart-append (_ ∷ xs) ys (here, first) second between = absurd here

-- puts inside a range are at locations inside it
pub at_within : (base size : ℕ) (puts : List AccessValue) → All (IsPutWithin base size) puts → AllIn (IsInside base size) puts
at_within base size [] all = tt
at_within base size (access ∷ more) all =
    let put : IsPutWithin base size access = All-head (IsPutWithin base size) access more all in (
      subst (λ (a : AccessValue). OfPut (λ addr bytes. IsInside base size addr (length bytes)) (put_of a)) (sym put.is) (record { starts = put.starts; ends = put.ends }),
      at_within base size more (All-tail (IsPutWithin base size) access more all),
    )

-- they lie apart from a location that is apart from the range
pub apart_from : (addr count base size : ℕ) (puts : List AccessValue) → Apart addr count base size → AllIn (IsInside base size) puts → AllIn (Apart addr count) puts
apart_from addr count base size puts apart within =
    all_in-weaker (IsInside base size) (Apart addr count) (λ b n is.
    Apart-swapped b n addr count (Apart-inside base size addr count b n is.starts is.ends (Apart-swapped addr count base size apart))) puts within

-- descriptors at different locations
location_from : (table k : ℕ) (locations : List ℕ) (ds : List Descriptor) → length ds ≤ length locations → is_in k locations ≡ false → AllIn (Apart (table + 16 * k) 16) (puts_of table locations ds)
location_from table k locations [] few other = tt
location_from table k [] (d ∷ ds) few other = absurd (omega arith)
location_from table k (n ∷ ns) (d ∷ ds) few other =
    let (apart, others) = or_parts (eqb n k) (is_in k ns) other in (
      subst (λ (long : ℕ). Apart (table + 16 * k) 16 (table + 16 * n) long) (sym (length-descriptor_bytes d)) (locations_apart table k n (λ e. false≢true (sym apart ∙ eq-eqb n k (sym e)))),
      location_from table k ns ds (omega arith) others,
    )

pub puts_apart : (table : ℕ) (locations : List ℕ) (ds : List Descriptor) → length ds ≤ length locations → IsTrue (is_distinct locations) → AllApart (puts_of table locations ds)
puts_apart table locations [] few distinct = tt
puts_apart table [] (d ∷ ds) few distinct = absurd (omega arith)
puts_apart table (n ∷ ns) (d ∷ ds) few distinct =
    let (apart, others) = distinct_parts n ns distinct in (
      subst (λ (long : ℕ). AllIn (Apart (table + 16 * n) long) (puts_of table ns ds)) (sym (length-descriptor_bytes d)) (location_from table n ns ds (omega arith) apart),
      puts_apart table ns ds (omega arith) others,
    )

-- what stands at a location stays where puts apart from it are done
pub part_stays : (puts : List AccessValue) (mem : List ℕ) (memory addr count : ℕ) → length mem ≡ memory → AllIn (λ b n. b + n ≤ memory) puts → AllIn (Apart addr count) puts
    → part (written puts mem) addr count ≡ part mem addr count
part_stays [] mem memory addr count long inside apart = refl
part_stays (Put b bytes ∷ more) mem memory addr count long (fits, inside) (here, apart) =
    let within : b + length bytes ≤ length mem = omega arith in
    let same : length (put_at mem b bytes) ≡ length mem = length-put_at mem b bytes within in
    ap (λ (m : List ℕ). part m addr count) (written_put b bytes more mem within)
    ∙ part_stays more (put_at mem b bytes) memory addr count (same ∙ long) inside apart
    ∙ part-put_at_apart mem b bytes addr count within (Apart-swapped addr count b (length bytes) here)
part_stays (_ ∷ more) mem memory addr count long (fits, inside) apart = absurd fits

-- memory keeps its length
pub length_stays : (puts : List AccessValue) (mem : List ℕ) (memory : ℕ) → length mem ≡ memory → AllIn (λ b n. b + n ≤ memory) puts → length (written puts mem) ≡ memory
length_stays [] mem memory long inside = long
length_stays (Put b bytes ∷ more) mem memory long (fits, inside) =
    let within : b + length bytes ≤ length mem = omega arith in
    let same : length (put_at mem b bytes) ≡ length mem = length-put_at mem b bytes within in
    ap length (written_put b bytes more mem within) ∙ length_stays more (put_at mem b bytes) memory (same ∙ long) inside
length_stays (_ ∷ more) mem memory long (fits, inside) = absurd fits

-- puts in memory change it there alone
pub puts_change : (puts : List AccessValue) (mem : List ℕ) → AllIn (λ b n. b + n ≤ length mem) puts → ChangedBy puts mem (written puts mem)
puts_change puts mem inside =
    record { long = length_stays puts mem (length mem) refl inside; others = λ addr count apart. part_stays puts mem (length mem) addr count refl inside apart }
