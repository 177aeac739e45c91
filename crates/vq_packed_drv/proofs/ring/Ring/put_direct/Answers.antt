use Rattle.std.proofs.Common.{◌≡◌, ℕ, ◌+◌, ◌-◌, ◌*◌, ◌≤◌, List, Bool, length, get_or, take, drop, not, eqb, ap, ◌∙◌, subst, arith}
use Rattle.std.proofs.lemmas.List.{take_rest}
use Rattle.vt_types.specs.Access.{AccessValue}
use Rattle.vt_types.specs.Program.{Does, cost_of_all}
use Rattle.vq_common.specs.declared.position.Position.{Position}
use Rattle.vt_layout.specs.QueueBlock.{data_address}
use Rattle.vq_common.specs.PackedDescriptor.{packed_descriptor_bytes}
use Rattle.vq_common.specs.Piece.{piece_at, pieces_from}
use Rattle.vq_common.specs.Position.{position_after}
use Rattle.vq_packed_drv.specs.Post.{ring_descriptor, ring_puts}
use Rattle.vq_packed_drv.proofs.Described.{direct_cost, direct_does, put_cost, ring_puts-same}
use Rattle.vq_packed_drv.proofs.ring.Ring.put_direct.Goals as goal

-- the puts after the head, by what a step of the code says of them
following : (base size id : ℕ) (all lengths : List ℕ) (position position2 : Position) (id2 location a b readable readable2 : ℕ) → all ≡ lengths → id2 ≡ id → position2 ≡ position_after size position 1 → a ≡ location → b ≡ a + get_or all 0 0 → readable2 ≡ readable - 1
    → ring_puts base size id2 position2 (pieces_from b readable2 (take (length all - 1) (drop 1 all)))
    ≡ ring_puts base size id (position_after size position 1) (pieces_from (location + get_or lengths 0 0) (readable - 1) (drop 1 lengths))
following base size id all lengths position position2 id2 location a b readable readable2 is e f h k m =
    ap (λ (ls : List ℕ). ring_puts base size id2 position2 (pieces_from b readable2 ls)) (take_rest all 1 ∙ ap (drop 1) is)
    ∙ ring_puts-same base size (drop 1 lengths) id2 id b (location + get_or lengths 0 0) readable2 (readable - 1) position2 (position_after size position 1) e f
    (k ∙ ap (λ (n : ℕ). n + get_or all 0 0) h ∙ ap (λ (ls : List ℕ). location + get_or ls 0 0) is) m

pub put_descriptors-requires-clause-credit : goal.put_descriptors-requires-clause-credit
put_descriptors-requires-clause-credit g c =
    let s = c.args.self.now in
    let lengths : List ℕ = c.args.buf.now.cuts.items in
    let told = c.next_descriptor-head.ensures in
    let next = c.next_descriptor-head.new.self in
    let is : c.as_slice.result.now ≡ lengths = c.as_slice.ensures.value in
    let some : 1 ≤ length lengths = c.requires.postable.some in
    let rest = following s.base s.cfg.size c.args.id c.as_slice.result.now lengths s.available next.position next.id (data_address s.base c.args.id) c.data.result next.pieces.addr c.args.buf.now.nread next.pieces.readable is told.id told.position c.data.ensures.value told.addr told.readable in
    omega (arith, ap cost_of_all rest, direct_cost s.base s.cfg.size c.args.id s.available (data_address s.base c.args.id) c.args.buf.now.nread lengths some, c.requires.credit)

pub put-requires-clause-credit : goal.put-requires-clause-credit
put-requires-clause-credit g c =
    let s = c.args.self.now in
    let lengths : List ℕ = c.args.buf.now.cuts.items in
    let told = c.next_descriptor-head.ensures in
    let next = c.next_descriptor-head.new.self in
    let is : c.as_slice.result.now ≡ lengths = c.as_slice.ensures.value in
    let some : 1 ≤ length lengths = c.requires.postable.some in
    let rest = following s.base s.cfg.size c.args.id c.as_slice.result.now lengths s.available next.position next.id (data_address s.base c.args.id) c.data.result next.pieces.addr c.args.buf.now.nread next.pieces.readable is told.id told.position c.data.ensures.value told.addr told.readable in
    omega (arith, ap cost_of_all rest, direct_cost s.base s.cfg.size c.args.id s.available (data_address s.base c.args.id) c.args.buf.now.nread lengths some, c.requires.credit, c.put_descriptors.ensures.credit, put_cost c.location.result (s.base + 16 * s.available.location) c.to_bytes.result c.location.ensures (ap length c.to_bytes.ensures))

pub returns-clause-credit : goal.returns-clause-credit
returns-clause-credit g c =
    let s = c.args.self.now in
    let lengths : List ℕ = c.args.buf.now.cuts.items in
    let told = c.next_descriptor-head.ensures in
    let next = c.next_descriptor-head.new.self in
    let is : c.as_slice.result.now ≡ lengths = c.as_slice.ensures.value in
    let some : 1 ≤ length lengths = c.requires.postable.some in
    let rest = following s.base s.cfg.size c.args.id c.as_slice.result.now lengths s.available next.position next.id (data_address s.base c.args.id) c.data.result next.pieces.addr c.args.buf.now.nread next.pieces.readable is told.id told.position c.data.ensures.value told.addr told.readable in
    omega (arith, ap cost_of_all rest, direct_cost s.base s.cfg.size c.args.id s.available (data_address s.base c.args.id) c.args.buf.now.nread lengths some, c.put.ensures.credit, c.put_descriptors.ensures.credit, put_cost c.location.result (s.base + 16 * s.available.location) c.to_bytes.result c.location.ensures (ap length c.to_bytes.ensures))

pub returns-clause-does : goal.returns-clause-does
returns-clause-does g c =
    let s = c.args.self.now in
    let b = c.args.buf.now in
    let lengths : List ℕ = b.cuts.items in
    let told = c.next_descriptor-head.ensures in
    let next = c.next_descriptor-head.new.self in
    let location : ℕ = data_address s.base c.args.id in
    let is : c.as_slice.result.now ≡ lengths = c.as_slice.ensures.value in
    let some : 1 ≤ length lengths = c.requires.postable.some in
    let rest = following s.base s.cfg.size c.args.id c.as_slice.result.now lengths s.available next.position next.id location c.data.result next.pieces.addr b.nread next.pieces.readable is told.id told.position c.data.ensures.value told.addr told.readable in
    let more : not c.is_empty.result ≡ not (eqb (length (drop 1 lengths)) 0)
    = ap not (c.is_empty.ensures ∙ ap (λ (ls : List ℕ). eqb (length ls) 0) (take_rest c.as_slice.result.now 1 ∙ ap (drop 1) is))
    in
    let bytes = c.to_bytes.ensures ∙ ap packed_descriptor_bytes (told.descriptor
    ∙ ap (λ (follows : Bool). ring_descriptor c.args.id s.available.wrap follows (piece_at c.data.result b.nread (get_or c.as_slice.result.now 0 0))) more
    ∙ ap (λ (a : ℕ). ring_descriptor c.args.id s.available.wrap (not (eqb (length (drop 1 lengths)) 0)) (piece_at a b.nread (get_or c.as_slice.result.now 0 0))) c.data.ensures.value
    ∙ ap (λ (ls : List ℕ). ring_descriptor c.args.id s.available.wrap (not (eqb (length (drop 1 lengths)) 0)) (piece_at location b.nread (get_or ls 0 0))) is)
    in
    direct_does g.P.Port.step g.P.Port.marking s.base s.cfg.size c.args.id s.available location b.nread lengths c.location.result c.to_bytes.result c.args.port.now c.put_descriptors.new.port c.put.new.port some c.location.ensures bytes
    (subst (λ (xs : List AccessValue). Does g.P.Port.step g.P.Port.marking xs c.args.port.now c.put_descriptors.new.port) rest c.put_descriptors.ensures.does) c.put.ensures.does
