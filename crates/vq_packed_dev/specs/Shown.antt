-- What is known of a chain that the walk shows: the law `shown` of `DeviceEnd`.
use Rattle.std.proofs.Common.{◌≡◌, ℕ, zero, suc, ◌≤◌, List, [], ◌∷◌, length, Option, Some, None, Bool, true, false, IsTrue, refl, ap, arith}
use Rattle.std.specs.Prelude.{option_map, if◌then◌else◌}
use Rattle.vq_common.specs.declared.chain.RingCfg.{RingCfg}
use Rattle.vq_common.specs.declared.packed_descriptor.PackedDescriptor.{PackedDescriptor}
use Rattle.vq_common.specs.Chain.{ChainValue, Walked, Empty, Front, IsShown}
use Rattle.vq_common.specs.Descriptor.{has_next}
use Rattle.vq_common.specs.PackedDescriptor.{packed_descriptor_at}
use Rattle.vq_common.specs.Piece.{keeps_rules}
use Rattle.vq_common.specs.Position.{location_after}
use Rattle.vq_common.specs.Queue.{DeviceQueue}
use Rattle.vq_common.proofs.WalkedLaws.{shown_if, shown_else_empty, valid_is_shown}
use Rattle.vq_packed_dev.specs.Walk.{packed_walk, packed_areas_inside, packed_chain_from, packed_chain_of, packed_chain_shown, packed_pieces, last_id, is_next_available}

-- one descriptor, and no more than `n` after it
length-and_others : (n : ℕ) (b : Bool) (d : PackedDescriptor) (o : Option (List PackedDescriptor)) (ds : List PackedDescriptor)
    → ((rest : List PackedDescriptor) → o ≡ Some rest → length rest ≤ n)
    → (if b then option_map (λ rest. d ∷ rest) o else Some (d ∷ [])) ≡ Some ds → length ds ≤ suc n
length-and_others n true d None ds few is = absurd (cc)
length-and_others n true d (Some rest) ds few is =
    let same : d ∷ rest ≡ ds = cc in
    let le : length rest ≤ n = few rest refl in
    omega (arith, ap length same)
length-and_others n false d o ds few is =
    let same : d ∷ [] ≡ ds = cc in
    omega (arith, ap length same)

-- a chain has no more descriptors than it may
length-packed_chain_from : (n : ℕ) (mem : List ℕ) (c : RingCfg) (location : ℕ) (ds : List PackedDescriptor) → packed_chain_from n mem c location ≡ Some ds → length ds ≤ n
length-packed_chain_from zero mem c location ds is = absurd (cc)
length-packed_chain_from (suc n) mem c location ds is =
    let d : PackedDescriptor = packed_descriptor_at mem c.desc location in
    let next : ℕ = location_after c.size location 1 in
    length-and_others n (has_next d.flags) d (packed_chain_from n mem c next) ds (λ rest more. length-packed_chain_from n mem c next rest more) is

-- a chain of some descriptors that is shown keeps the rules, and has no more locations than they are
of_chain : (mem : List ℕ) (cfg : RingCfg) (n : ℕ) (o : Option (List PackedDescriptor)) (c : ChainValue)
    → ((ds : List PackedDescriptor) → o ≡ Some ds → length ds ≤ n) → packed_chain_of mem cfg o ≡ Front c → IsTrue (keeps_rules (length mem) c.pieces) × (c.slots ≤ n)
of_chain mem cfg n None c few is = absurd (cc)
of_chain mem cfg n (Some ds) c few is =
    let (rules, slots) = valid_is_shown (length mem) (last_id ds) (length ds) (packed_pieces mem cfg ds) c is in
    let le : length ds ≤ n = few ds refl in
    (rules, omega arith)

-- a chain that the walk shows keeps the rules, takes no more locations than the ring has, and is shown only where the
-- areas lie inside memory
pub shown : (mem : List ℕ) (q : DeviceQueue) (c : ChainValue) → packed_walk mem q ≡ Front c → IsShown packed_areas_inside (length mem) q c
shown mem q c is =
    let n : ℕ = q.cfg.size in
    let ds : Option (List PackedDescriptor) = packed_chain_from n mem q.cfg q.taken in
    let chain : Walked = packed_chain_shown mem q.cfg q.taken in
    let some : Walked = if is_next_available mem q then chain else Empty in
    let (areas, some_is) = shown_if (packed_areas_inside (length mem) q.cfg) some c is in
    let (rules, slots) = of_chain mem q.cfg n ds c (length-packed_chain_from n mem q.cfg q.taken) (shown_else_empty (is_next_available mem q) chain c some_is) in
    record { rules = rules; slots = slots; areas = areas }
