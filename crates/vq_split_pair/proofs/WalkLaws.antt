-- What a split ring shows where heads wait, and where none does.
use Rattle.std.proofs.Common.{◌≡◌, ℕ, ◌+◌, ◌-◌, ◌*◌, ◌%◌, ◌^◌, ◌<◌, ◌≤◌, List, length, IsTrue, Some, false, ◌∙◌, ap, arith}
use Rattle.std.specs.Prelude.{◌==◌, ◌&&◌, nat_le, nat_lt, if◌then◌else◌}
use Rattle.std.proofs.lemmas.Bool.{and_from, cond-true, cond-false, le-leb, le-ltb, ne_eqb}
use Rattle.vq_common.specs.declared.chain.Piece.{Piece}
use Rattle.vq_common.specs.declared.chain.RingCfg.{RingCfg}
use Rattle.vq_common.specs.declared.descriptor.Descriptor.{Descriptor}
use Rattle.vq_common.specs.Chain.{Empty, Bad, Front, chain_if_valid}
use Rattle.vq_common.specs.Descriptor.{chain_from}
use Rattle.vq_common.specs.Piece.{keeps_rules}
use Rattle.vq_common.specs.Queue.{DeviceQueue}
use Rattle.vq_split_dev.specs.Walk.{split_walk, split_areas_inside, waiting_heads, next_head, chain_of, chain_pieces, chain_shown}

-- one more than was taken is one that waits
pub one_waits : (n : ℕ) → n < 2 ^ 16 → ((n + 1) % 2 ^ 16 + 2 ^ 16 - n) % 2 ^ 16 ≡ 1
one_waits n low = omega arith

-- the areas of a ring lie inside memory
pub areas_fit : (memory : ℕ) (c : RingCfg) → c.desc + 16 * c.size ≤ memory → c.driver + (6 + 2 * c.size) ≤ memory → c.device + (6 + 8 * c.size) ≤ memory → IsTrue (split_areas_inside memory c)
areas_fit memory c desc driver device =
    and_from (nat_le (c.desc + 16 * c.size) memory && nat_le (c.driver + (6 + 2 * c.size)) memory) (nat_le (c.device + (6 + 8 * c.size)) memory)
    (and_from (nat_le (c.desc + 16 * c.size) memory) (nat_le (c.driver + (6 + 2 * c.size)) memory) (le-leb (c.desc + 16 * c.size) memory desc) (le-leb (c.driver + (6 + 2 * c.size)) memory driver))
    (le-leb (c.device + (6 + 8 * c.size)) memory device)

-- a ring with waiting heads, no more than its size, shows the chain of the first
pub walk_front : (mem : List ℕ) (q : DeviceQueue) (head waiting : ℕ) (ds : List Descriptor) (ps : List Piece) → IsTrue (split_areas_inside (length mem) q.cfg) → 1 ≤ waiting → waiting ≤ q.cfg.size
    → waiting_heads mem q ≡ waiting → next_head mem q ≡ head → chain_from q.cfg.size mem q.cfg.desc q.cfg.size head ≡ Some ds → chain_pieces mem q.cfg ds ≡ Some ps → IsTrue (keeps_rules (length mem) ps)
    → split_walk mem q ≡ Front (record { id = head; slots = length ds; pieces = ps })
walk_front mem q head waiting ds ps areas some few waits next chain pieces rules =
    let other : (waiting == 0) ≡ false = ne_eqb waiting 0 (λ e. absurd (omega arith)) in
    cond-true (split_areas_inside (length mem) q.cfg) _ Bad areas
    ∙ ap (λ (n : ℕ). if n == 0 then Empty else (if nat_lt q.cfg.size n then Bad else chain_shown mem q.cfg (next_head mem q))) waits
    ∙ cond-false (waiting == 0) Empty _ other
    ∙ cond-false (nat_lt q.cfg.size waiting) Bad _ (le-ltb q.cfg.size waiting few)
    ∙ ap (chain_shown mem q.cfg) next
    ∙ ap (chain_of mem q.cfg head) chain
    ∙ ap (chain_if_valid (length mem) head (length ds)) pieces
    ∙ cond-true (keeps_rules (length mem) ps) (Front (record { id = head; slots = length ds; pieces = ps })) Bad rules

-- one with none shows nothing
pub walk_empty : (mem : List ℕ) (q : DeviceQueue) → IsTrue (split_areas_inside (length mem) q.cfg) → waiting_heads mem q ≡ 0 → split_walk mem q ≡ Empty
walk_empty mem q areas waits =
    cond-true (split_areas_inside (length mem) q.cfg) _ Bad areas
    ∙ ap (λ (n : ℕ). if n == 0 then Empty else (if nat_lt q.cfg.size n then Bad else chain_shown mem q.cfg (next_head mem q))) waits
