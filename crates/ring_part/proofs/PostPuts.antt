-- The puts of a post but the index, one after the other.
use Rattle.std.proofs.Common.{◌≡◌, ℕ, ◌+◌, ◌*◌, ◌<◌, ◌≤◌, List, [], ◌∷◌, ◌++◌, length, eqb, IsTrue, inl, inr, refl, sym, ◌∙◌, subst, arith}
use Rattle.std.specs.Prelude.{All}
use Rattle.std.proofs.lemmas.Bool.{cases_Bool, cond-true, cond-false, eq-eqb, or_left}
use Rattle.vt_types.specs.Limits.{LONGEST_BUFFER}
use Rattle.guest_mem.specs.Memory.{part as bytes_at, put_at, Apart}
use Rattle.guest_mem.proofs.Parts.{part-put_at_same}
use Rattle.vt_types.specs.Access.{AccessValue, Put}
use Rattle.vt_types.specs.Operation.{PostedBuffer}
use Rattle.port_access.specs.Accesses.{data_puts}
use Rattle.vq_common.specs.declared.descriptor.Descriptor.{Descriptor}
use Rattle.vt_layout.specs.QueueBlock.{data_address}
use Rattle.vq_common.specs.Queue.{DeviceQueue, DriverQueue}
use Rattle.vq_common.proofs.PostLaws.{readable-le}
use Rattle.vq_posted.specs.Free.{is_distinct, is_in, numbers}
use Rattle.vq_posted.proofs.Members.{all_at}
use Rattle.vq_split_drv.specs.Cost.{length-descriptors_of, length-table_bytes}
use Rattle.vq_split_drv.specs.Post.{chain_puts, descriptors_of, direct_puts, indirect_puts, table_bytes}
use Rattle.vq_split_pair.proofs.ChainParts.{direct_within, indirect_within}
use Rattle.vq_split_pair.proofs.PostParts.{data_within}
use Rattle.vq_split_pair.proofs.Written.{IsPutWithin-wider, written, written_put}
use Rattle.abstract_devices.specs.World.{AbstractQueue}
use Rattle.ring_part.specs.Held.{Held, UsedHeld, CanStand}
use Rattle.ring_part.specs.Locations.{IsFreeLocation, IsInside, OwnedBy}
use Rattle.ring_part.specs.RingPart.{RingPart}
use Rattle.memory_port.specs.Puts.{AllApart, AllIn, Hold}
use Rattle.ring_part.proofs.Free.{free_inside, free_put}
use Rattle.ring_part.proofs.Owned.{owned_areas}
use Rattle.ring_part.proofs.PutLocations.{held_owned}
use Rattle.memory_port.proofs.PutLaws.{all_in-weaker}
use Rattle.ring_part.proofs.PutsApart.{apart-append, apart_from, at_within, part_stays, puts_apart}

-- puts in free locations that lie apart leave the ring part, and all of them stand
pub puts_kept : {a : AbstractQueue} {d : DeviceQueue} {q : DriverQueue} {used : List UsedHeld} {taken waiting : List Held} (puts : List AccessValue) (mem : List ℕ) → RingPart mem a d q used taken waiting
    → AllIn (IsFreeLocation q) puts → AllApart puts → RingPart (written puts mem) a d q used taken waiting × Hold puts (written puts mem)
puts_kept [] mem part free apart = (part, tt)
puts_kept {a} {d} {q} {used} {taken} {waiting} (Put b bytes ∷ more) mem part (here, free) (from, apart) =
    let fits : b + length bytes ≤ length mem = free_inside part b (length bytes) here in
    let mem2 : List ℕ = put_at mem b bytes in
    let part2 : RingPart mem2 a d q used taken waiting = free_put part b bytes here in
    let (part3, stand) = puts_kept more mem2 part2 free apart in
    let inside : AllIn (λ c n. c + n ≤ length mem2) more = all_in-weaker (IsFreeLocation q) (λ c n. c + n ≤ length mem2) (λ c n location. free_inside part2 c n location) more free in
    let same : written (Put b bytes ∷ more) mem ≡ written more mem2 = written_put b bytes more mem fits in
    let stays : bytes_at (written more mem2) b (length bytes) ≡ bytes = part_stays more mem2 (length mem2) b (length bytes) refl inside from ∙ part-put_at_same mem b bytes (omega arith) in (
      subst (λ (m : List ℕ). RingPart m a d q used taken waiting) (sym same) part3,
      subst (λ (m : List ℕ). Hold (Put b bytes ∷ more) m) (sym same) (stays, stand),
    )
puts_kept (_ ∷ more) mem part (here, free) apart = absurd here

-- the puts of a buffer with its descriptors
module _ (q : DriverQueue) (h : Held) (can : CanStand q.cfg h) (below : All (λ k. k < q.cfg.size) (h.head ∷ h.others)) (distinct : IsTrue (is_distinct (h.head ∷ h.others))) (size_low : q.cfg.size ≤ 1024) where
  abbrev b : PostedBuffer
  b = h.buffer

  abbrev locations : List ℕ
  locations = h.head ∷ h.others

  head_low : h.head < q.cfg.size
  head_low = all_at (λ k. k < q.cfg.size) locations h.head below (or_left (eqb h.head h.head) (is_in h.head h.others) (eq-eqb h.head h.head refl))

  chain_apart : AllApart (chain_puts q b locations) × AllIn (IsInside q.base 0x400000) (chain_puts q b locations)
  chain_apart =
      let P : List AccessValue → Type 0 = λ puts. AllApart puts × AllIn (IsInside q.base 0x400000) puts in
      let few : length b.lengths ≤ 8 = can.postable.few in
      elim (cases_Bool b.indirect) [
        | inl t ↦
            let named : List ℕ = numbers 1 (length b.lengths) in
            let ds : List Descriptor = descriptors_of (data_address q.base h.head) b.readable_pieces b.lengths named in
            let count : length ds ≡ length b.lengths = length-descriptors_of (data_address q.base h.head) b.readable_pieces b.lengths named in
            let long : length (table_bytes ds) ≡ 16 * length ds = length-table_bytes ds in
            subst P (sym (cond-true b.indirect (indirect_puts q b h.head) (direct_puts q b locations) t))
            (((inr (omega arith), tt), (tt, tt)), at_within q.base 0x400000 (indirect_puts q b h.head) (indirect_within q b h.head few (omega (arith, head_low))))
        | inr f ↦
            let ds : List Descriptor = descriptors_of (data_address q.base h.head) b.readable_pieces b.lengths h.others in
            let count : length ds ≡ length b.lengths = length-descriptors_of (data_address q.base h.head) b.readable_pieces b.lengths h.others in
            let many : length locations ≡ length b.lengths = can.count ∙ cond-false b.indirect 1 (length b.lengths) f in
            subst P (sym (cond-false b.indirect (indirect_puts q b h.head) (direct_puts q b locations) f)) (
              puts_apart q.base locations ds (omega arith) distinct,
              at_within q.base 0x400000 (direct_puts q b locations)
                  (IsPutWithin-wider q.base (16 * q.cfg.size) q.base 0x400000 (direct_puts q b locations) (omega arith) (omega arith) (direct_within q b h.head h.others many below)),
            )
      ]

  abbrev data_of : List AccessValue
  data_of = data_puts (data_address q.base h.head) b.readable

  data_apart : (location : ℕ) (bytes : List ℕ) → AllApart (data_puts location bytes)
  data_apart location [] = tt
  data_apart location (byte ∷ bytes) = (tt, tt)

  -- they lie apart, and from the next entry
  pub held_apart : AllApart (data_of ++ chain_puts q b locations)
  held_apart =
      let (apart, inside) = chain_apart in
      let at_data : AllIn (IsInside (data_address q.base h.head) LONGEST_BUFFER) data_of = at_within (data_address q.base h.head) LONGEST_BUFFER data_of (data_within (data_address q.base h.head) LONGEST_BUFFER b.readable (readable-le b can.postable)) in
      apart-append data_of (chain_puts q b locations) (data_apart (data_address q.base h.head) b.readable) apart
      (all_in-weaker (IsInside (data_address q.base h.head) LONGEST_BUFFER) (λ addr count. AllIn (Apart addr count) (chain_puts q b locations)) (λ addr count is. apart_from addr count q.base 0x400000 (chain_puts q b locations) (inr (omega (arith, is.starts))) inside)
      data_of at_data)

  pub front_apart : (entry : ℕ) (bytes : List ℕ) → length bytes ≡ 2 → q.base + 0x4000 ≤ entry → entry + 2 ≤ q.base + 0x20000 → AllApart ((data_of ++ chain_puts q b locations) ++ Put entry bytes ∷ [])
  front_apart entry bytes two starts ends =
      apart-append (data_of ++ chain_puts q b locations) (Put entry bytes ∷ []) held_apart (tt, tt)
      (all_in-weaker (OwnedBy q.base locations) (λ addr count. AllIn (Apart addr count) (Put entry bytes ∷ [])) (λ addr count (k, m, owns).
      let low : k < q.cfg.size = all_at (λ k. k < q.cfg.size) locations k below m in
      (subst (λ (n : ℕ). Apart addr count entry n) (sym two) (owned_areas q.base k addr count entry 2 (omega arith) starts ends owns), tt))
      (data_of ++ chain_puts q b locations)
      (held_owned q.cfg q.base h can))
