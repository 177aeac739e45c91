-- Where used buffers stand, and several of them.
use Rattle.std.proofs.Common.{◌≡◌, ℕ, suc, ◌+◌, ◌%◌, ◌^◌, ◌<◌, ◌≤◌, List, [], ◌∷◌, ◌++◌, length, take, drop, eqb, refl, ◌∙◌, subst, arith}
use Rattle.std.specs.Prelude.{All, sum}
use Rattle.std.proofs.Math.Nat.{mod-lt}
use Rattle.std.proofs.lemmas.Bool.{or_left, or_right, eq-eqb}
use Rattle.std.proofs.lemmas.List.Sums.{sum_by-take-drop}
use Rattle.std.proofs.lemmas.List.Elements.{All-nil, All-cons, All-head, All-tail, All-weaker}
use Rattle.vt_types.specs.Limits.{LONGEST_BUFFER}
use Rattle.vt_types.specs.Operation.{PostedBuffer}
use Rattle.vq_common.specs.Buffer.{IsPostable}
use Rattle.vq_common.specs.declared.chain.RingCfg.{RingCfg}
use Rattle.vt_layout.specs.QueueBlock.{data_address}
use Rattle.vq_posted.specs.Free.{is_in}
use Rattle.vq_posted.proofs.Members.{is_in-append}
use Rattle.vq_split_pair.specs.Pair.{room_of}
use Rattle.memory_port.specs.Puts.{Hold, AllIn}
use Rattle.ring_part.specs.Held.{Held, UsedHeld, CanStand, FitsRoom, held_of}
use Rattle.ring_part.specs.RingPuts.{element_at, element_puts, next}
use Rattle.ring_part.proofs.Records.{locations_of}
use Rattle.ring_part.specs.Locations.{Owns, AtData, OwnedBy}
use Rattle.ring_part.proofs.PutLocations.{elements_in}

-- the readable bytes and the room of a buffer together are at most 8,192
pub room_fits : (b : PostedBuffer) → IsPostable b → length b.readable + room_of b ≤ LONGEST_BUFFER
room_fits b h =
    let readable : length b.readable ≡ sum (take b.readable_pieces b.lengths) = h.readable in
    let total : sum b.lengths ≤ LONGEST_BUFFER = h.total in
    let both : sum (take b.readable_pieces b.lengths) + sum (drop b.readable_pieces b.lengths) ≡ sum b.lengths = sum_by-take-drop (λ x. x) b.lengths b.readable_pieces in
    omega (arith, readable, total, both)

-- what is written over a buffer belongs to its head
pub written_owned : (cfg : RingCfg) (base : ℕ) (h : Held) (bytes : List ℕ) → CanStand cfg h → length bytes ≤ room_of h.buffer → Owns base h.head (data_address base h.head + length h.buffer.readable) (length bytes)
written_owned cfg base h bytes can few = AtData (omega arith) (omega (arith, room_fits h.buffer can.postable))

-- so of several
used_owned : (cfg : RingCfg) (base : ℕ) (us : List UsedHeld) → All (CanStand cfg) (held_of us) → All FitsRoom us
    → All (λ (u : UsedHeld). OwnedBy base (locations_of (held_of us)) (data_address base u.held.head + length u.held.buffer.readable) (length u.written)) us
used_owned cfg base [] can wrote = All-nil _
used_owned cfg base (u ∷ us) can wrote =
    let mine : List ℕ = u.held.head ∷ u.held.others in
    let ks : List ℕ = locations_of (held_of us) in
    let P : List ℕ → UsedHeld → Type 0 = λ ns u. OwnedBy base ns (data_address base u.held.head + length u.held.buffer.readable) (length u.written) in
    All-cons (P (mine ++ ks)) u us
    (u.held.head, or_left (eqb u.held.head u.held.head) (is_in u.held.head (u.held.others ++ ks)) (eq-eqb u.held.head u.held.head refl), written_owned cfg base u.held u.written (All-head (CanStand cfg) u.held (held_of us) can) (All-head FitsRoom u us wrote).room)
    (All-weaker (P ks) (P (mine ++ ks)) (λ v o. (o.0, is_in-append o.0 mine ks ∙ or_right (is_in o.0 mine) (is_in o.0 ks) o.1, o.2)) us
    (used_owned cfg base us (All-tail (CanStand cfg) u.held (held_of us) can) (All-tail FitsRoom u us wrote)))

-- the kinds of locations of used buffers
pub elements_kinds : (P : ℕ → ℕ → Type 0) (cfg : RingCfg) (base size n : ℕ) (us : List UsedHeld) → n < 2 ^ 16 → All (CanStand cfg) (held_of us) → All FitsRoom us
    → ((i : ℕ) → i < length us → P (element_at base size ((n + i) % 2 ^ 16)) 8) → ((a m : ℕ) → OwnedBy base (locations_of (held_of us)) a m → P a m) → AllIn P (element_puts base size n us)
elements_kinds P cfg base size n us low can wrote element owned =
    elements_in P base size n us low element
    (All-weaker _ (λ (u : UsedHeld). P (data_address base u.held.head + length u.held.buffer.readable) (length u.written)) (λ u o. owned _ _ o) us (used_owned cfg base us can wrote))

-- elements in a row, and then more
pub elements-append : (base size n : ℕ) (us vs : List UsedHeld) (mem : List ℕ) → n < 2 ^ 16 → Hold (element_puts base size n us) mem → Hold (element_puts base size ((n + length us) % 2 ^ 16) vs) mem
    → Hold (element_puts base size n (us ++ vs)) mem
elements-append base size n [] vs mem low holds more = let same : (n + 0) % 2 ^ 16 ≡ n = omega arith in subst (λ k. Hold (element_puts base size k vs) mem) same more
elements-append base size n (u ∷ us) vs mem low (element, (bytes, holds)) more =
    let same : (n + suc (length us)) % 2 ^ 16 ≡ (next n + length us) % 2 ^ 16 = omega arith in
    (element, (bytes, elements-append base size (next n) us vs mem (mod-lt (n + 1) (omega arith)) holds (subst (λ k. Hold (element_puts base size k vs) mem) same more)))
