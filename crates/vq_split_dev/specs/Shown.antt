-- What is known of a chain that the walk shows: the law `shown` of `DeviceEnd`.
use Rattle.std.proofs.Common.{◌≡◌, ℕ, ◌≤◌, List, length, Option, Some, None, IsTrue, refl, arith}
use Rattle.std.specs.Prelude.{◌==◌, nat_lt, if◌then◌else◌}
use Rattle.vq_common.specs.declared.chain.RingCfg.{RingCfg}
use Rattle.vq_common.specs.declared.descriptor.Descriptor.{Descriptor}
use Rattle.vq_common.specs.Chain.{ChainValue, Walked, Empty, Bad, Front, IsShown}
use Rattle.vq_common.specs.Descriptor.{chain_from}
use Rattle.vq_common.specs.Piece.{keeps_rules}
use Rattle.vq_common.specs.Queue.{DeviceQueue}
use Rattle.vq_common.proofs.TableLaws.{length-chain_from}
use Rattle.vq_common.proofs.WalkedLaws.{shown_if, shown_unless_empty, shown_unless_bad, valid_is_shown}
use Rattle.vq_split_dev.specs.Walk.{split_walk, split_areas_inside, waiting_heads, next_head, chain_of, chain_pieces}

-- a chain of some descriptors that is shown keeps the rules, and has no more locations than they are
of_chain : (mem : List ℕ) (cfg : RingCfg) (head n : ℕ) (o : Option (List Descriptor)) (c : ChainValue)
    → ((ds : List Descriptor) → o ≡ Some ds → length ds ≤ n) → chain_of mem cfg head o ≡ Front c → IsTrue (keeps_rules (length mem) c.pieces) × (c.slots ≤ n)
of_chain mem cfg head n None c few is = absurd (cc)
of_chain mem cfg head n (Some ds) c few is =
    let (rules, slots) = valid_is_shown (length mem) head (length ds) (chain_pieces mem cfg ds) c is in
    let le : length ds ≤ n = few ds refl in
    (rules, omega arith)

-- a chain that the walk shows keeps the rules, takes no more locations than the ring has, and is shown only where the
-- areas lie inside memory
pub shown : (mem : List ℕ) (q : DeviceQueue) (c : ChainValue) → split_walk mem q ≡ Front c → IsShown split_areas_inside (length mem) q c
shown mem q c is =
    let n : ℕ = q.cfg.size in
    let head : ℕ = next_head mem q in
    let ds : Option (List Descriptor) = chain_from n mem q.cfg.desc n head in
    let chain : Walked = chain_of mem q.cfg head ds in
    let few : Walked = if nat_lt n (waiting_heads mem q) then Bad else chain in
    let some : Walked = if waiting_heads mem q == 0 then Empty else few in
    let (areas, some_is) = shown_if (split_areas_inside (length mem) q.cfg) some c is in
    let chain_is : chain ≡ Front c = shown_unless_bad (nat_lt n (waiting_heads mem q)) chain c (shown_unless_empty (waiting_heads mem q == 0) few c some_is) in
    let (rules, slots) = of_chain mem q.cfg head n ds c (λ ds is. (length-chain_from n mem q.cfg.desc n head ds is).1) chain_is in
    record { rules = rules; slots = slots; areas = areas }
