-- What a post may cost: the law `cost` of `DriverEnd`.
use Rattle.std.proofs.Common.{◌≡◌, ℕ, ◌+◌, ◌*◌, ◌≤◌, List, [], ◌∷◌, length, refl, arith, length-append}
use Rattle.vt_types.specs.Access.{AccessValue}
use Rattle.vt_types.specs.Limits.{MOST_PIECES}
use Rattle.vt_types.specs.Operation.{PostedBuffer}
use Rattle.vt_types.specs.Program.{cost_of_all}
use Rattle.vt_types.proofs.Programs.{cost_of_all-append}
use Rattle.port_access.specs.Accesses.{data_puts}
use Rattle.port_access.proofs.Costs.{cost_of_data, cost_of_either, cost_of_two, pages-le-two}
use Rattle.vq_common.specs.declared.chain.Piece.{Piece}
use Rattle.vq_common.specs.declared.position.Position.{Position}
use Rattle.vq_common.specs.Buffer.{IsPostable}
use Rattle.vt_layout.specs.QueueBlock.{data_address, table_address}
use Rattle.vq_common.specs.PackedDescriptor.{packed_descriptor_bytes}
use Rattle.vq_common.specs.Position.{position_after}
use Rattle.vq_common.specs.Queue.{DriverQueue, GREATEST_COST_OF_POST}
use Rattle.vq_common.proofs.PieceLaws.{length-pieces_from}
use Rattle.vq_common.proofs.PostLaws.{readable-le}
use Rattle.vq_packed_drv.specs.Post.{available_position, chain_puts, direct_puts, has_more, head_last, id_for, indirect_puts, naming_descriptor, packed_post_accesses, packed_table_bytes, pieces_of, ring_descriptor, ring_puts, table_descriptor}

-- each descriptor of a table has 16 bytes
pub length-packed_table_bytes : (ps : List Piece) → length (packed_table_bytes ps) ≡ 16 * length ps
length-packed_table_bytes [] = refl
length-packed_table_bytes (p ∷ ps) =
    let long : length (packed_descriptor_bytes (table_descriptor p)) ≡ 16 = refl in
    omega (arith, length-append (packed_descriptor_bytes (table_descriptor p)) (packed_table_bytes ps), length-packed_table_bytes ps)

-- the descriptors of pieces
cost_of_ring_puts : (base size id : ℕ) (position : Position) (ps : List Piece) → cost_of_all (ring_puts base size id position ps) ≤ 2 * length ps
cost_of_ring_puts base size id position [] = omega arith
cost_of_ring_puts base size id position (p ∷ ps) =
    let bytes : List ℕ = packed_descriptor_bytes (ring_descriptor id position.wrap (has_more ps) p) in
    let long : length bytes ≡ 16 = refl in
    omega (arith, pages-le-two (base + 16 * position.location) (length bytes) (omega arith), cost_of_ring_puts base size id (position_after size position 1) ps)

-- in whichever order the head comes
cost_of_head_last : (puts : List AccessValue) → cost_of_all (head_last puts) ≡ cost_of_all puts
cost_of_head_last [] = refl
cost_of_head_last (head ∷ others) = omega (arith, cost_of_all-append others (head ∷ []))

-- a post costs no more than the greatest cost
pub cost : (q : DriverQueue) (b : PostedBuffer) → IsPostable b → cost_of_all (packed_post_accesses q b) ≤ GREATEST_COST_OF_POST
cost q b h =
    let id : ℕ = id_for q in
    let ps : List Piece = pieces_of q.base b id in
    let pieces : length ps ≡ length b.lengths = length-pieces_from (data_address q.base id) b.readable_pieces b.lengths in
    let few : length b.lengths ≤ MOST_PIECES = h.few in
    let puts : List AccessValue = ring_puts q.base q.cfg.size id (available_position q) ps in
    let direct : cost_of_all (direct_puts q b id) ≤ 16 = omega (arith, cost_of_head_last puts, cost_of_ring_puts q.base q.cfg.size id (available_position q) ps) in
    let named : List ℕ = packed_descriptor_bytes (naming_descriptor q.base id (length b.lengths) q.available_wrap) in
    let sixteen : length named ≡ 16 = refl in
    let indirect : cost_of_all (indirect_puts q b id) ≤ 16
    = omega (arith, cost_of_two (table_address q.base id) (q.base + 16 * q.available) (packed_table_bytes ps) named (omega (arith, length-packed_table_bytes ps)) (omega arith))
    in
    let chain : cost_of_all (chain_puts q b id) ≤ 16 = cost_of_either b.indirect (indirect_puts q b id) (direct_puts q b id) 16 indirect direct in
    omega (arith, cost_of_all-append (data_puts (data_address q.base id) b.readable) (chain_puts q b id), cost_of_data (data_address q.base id) b.readable (readable-le b h))
