-- What a post may cost: the law `cost` of `DriverEnd`.
use Rattle.std.proofs.Common.{◌≡◌, ℕ, suc, ◌+◌, ◌-◌, ◌*◌, ◌≤◌, List, [], ◌∷◌, ◌++◌, Bool, true, false, cond, ltb, ◌%◌, ◌^◌, length, drop, refl, ◌∙◌, ap, arith, length-append}
use Rattle.byteorder.specs.Endian.{little_bytes}
use Rattle.vt_types.specs.Access.{AccessValue}
use Rattle.vt_types.specs.Limits.{MOST_PIECES}
use Rattle.vt_types.specs.Operation.{PostedBuffer}
use Rattle.vt_types.specs.Program.{cost_of_all}
use Rattle.vt_types.proofs.Programs.{cost_of_all-append}
use Rattle.port_access.specs.Accesses.{data_puts}
use Rattle.port_access.proofs.Costs.{cost_of_data, cost_of_either, cost_of_two, pages-le-two}
use Rattle.vq_common.specs.Buffer.{IsPostable}
use Rattle.vq_common.specs.declared.descriptor.Descriptor.{Descriptor}
use Rattle.vq_common.specs.Descriptor.{descriptor_bytes}
use Rattle.vt_layout.specs.QueueBlock.{data_address, table_address}
use Rattle.vq_common.specs.Queue.{DriverQueue, GREATEST_COST_OF_POST, cost_of_post, free_slots, slots_of}
pub use Rattle.vq_common.proofs.PostLaws.{readable-le}
use Rattle.vq_posted.specs.Free.{head_of, numbers}
use Rattle.port_access.specs.Accesses.{data_puts}
use Rattle.vq_split_drv.specs.Post.{puts_of, descriptors_for, descriptors_of, table_bytes, direct_puts, indirect_puts, available_puts, chain_puts, post_puts, split_post_accesses}

-- there are as many descriptors as pieces
pub length-descriptors_of : (addr readable : ℕ) (lengths locations : List ℕ) → length (descriptors_of addr readable lengths locations) ≡ length lengths
length-descriptors_of addr readable [] locations = refl
length-descriptors_of addr readable (len ∷ []) locations = refl
length-descriptors_of addr readable (len ∷ more ∷ rest) locations = ap suc (length-descriptors_of (addr + len) (readable - 1) (more ∷ rest) (drop 1 locations))

-- a descriptor has 16 bytes
pub length-table_bytes : (ds : List Descriptor) → length (table_bytes ds) ≡ 16 * length ds
length-table_bytes [] = refl
length-table_bytes (d ∷ ds) = let long : length (descriptor_bytes d) ≡ 16 = refl in omega (arith, length-append (descriptor_bytes d) (table_bytes ds), length-table_bytes ds)

-- what the parts of a post cost
pub cost_of_parts : (q : DriverQueue) (b : PostedBuffer) (locations : List ℕ)
    → cost_of_all (post_puts q b locations) ≡ cost_of_all (data_puts (data_address q.base (head_of locations)) b.readable) + cost_of_all (chain_puts q b locations) + cost_of_all (available_puts q (head_of locations))
cost_of_parts q b locations =
    let data1 : List AccessValue = data_puts (data_address q.base (head_of locations)) b.readable in
    cost_of_all-append (data1 ++ chain_puts q b locations) (available_puts q (head_of locations))
    ∙ ap (λ (n : ℕ). n + cost_of_all (available_puts q (head_of locations))) (cost_of_all-append data1 (chain_puts q b locations))

cost_of_puts : (table : ℕ) (locations : List ℕ) (ds : List Descriptor) → cost_of_all (puts_of table locations ds) ≤ 2 * length ds
cost_of_puts table locations [] = omega arith
cost_of_puts table locations (d ∷ ds) =
    let long : length (descriptor_bytes d) ≡ 16 = refl in
    omega (arith, pages-le-two (table + 16 * head_of locations) (length (descriptor_bytes d)) (omega arith), cost_of_puts table (drop 1 locations) ds)

-- a post costs no more than the greatest cost
pub cost : (q : DriverQueue) (b : PostedBuffer) → IsPostable b → cost_of_all (split_post_accesses q b) ≤ GREATEST_COST_OF_POST
cost q b h =
    let locations : List ℕ = descriptors_for q b in
    let head : ℕ = head_of locations in
    let location : ℕ = data_address q.base head in
    let few : length b.lengths ≤ MOST_PIECES = h.few in
    let table : List Descriptor = descriptors_of location b.readable_pieces b.lengths (numbers 1 (length b.lengths)) in
    let direct : cost_of_all (direct_puts q b locations) ≤ 16
    = omega (arith, cost_of_puts q.base locations (descriptors_of location b.readable_pieces b.lengths (drop 1 locations)), length-descriptors_of location b.readable_pieces b.lengths (drop 1 locations))
    in
    let named : List ℕ = descriptor_bytes (record { addr = table_address q.base head; len = 16 * length b.lengths; flags = 4; next = 0 }) in
    let sixteen : length named ≡ 16 = refl in
    let indirect : cost_of_all (indirect_puts q b head) ≤ 16
    = omega (arith, cost_of_two (table_address q.base head) (q.base + 16 * head) (table_bytes table) named (omega (arith, length-table_bytes table, length-descriptors_of location b.readable_pieces b.lengths (numbers 1 (length b.lengths)))) (omega arith))
    in
    let chain : cost_of_all (chain_puts q b locations) ≤ 16 = cost_of_either b.indirect (indirect_puts q b head) (direct_puts q b locations) 16 indirect direct in
    let available : cost_of_all (available_puts q head) ≤ 4 = cost_of_two _ _ (little_bytes 2 head) (little_bytes 2 ((q.available + 1) % 2 ^ 16)) (omega arith) (omega arith) in
    omega (arith, cost_of_parts q b locations, cost_of_data location b.readable (readable-le b h))

either_number : (c : Bool) (a b n : ℕ) → a ≤ n → b ≤ n → cond c a b ≤ n
either_number true a b n h k = h
either_number false a b n h k = k

-- also where the ring may be full
pub cost_or_nothing : (q : DriverQueue) (b : PostedBuffer) → IsPostable b → cost_of_post split_post_accesses q b ≤ GREATEST_COST_OF_POST
cost_or_nothing q b h = either_number (ltb (free_slots q) (slots_of b)) 0 (cost_of_all (split_post_accesses q b)) GREATEST_COST_OF_POST (omega arith) (cost q b h)
