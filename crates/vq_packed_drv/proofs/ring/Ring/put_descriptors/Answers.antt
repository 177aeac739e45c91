use Rattle.std.proofs.Common.{◌≡◌, ℕ, ◌+◌, ◌-◌, ◌*◌, List, length, get_or, drop, sum, ap, ◌∙◌, subst, arith}
use Rattle.std.proofs.lemmas.Grind.{common_steps}
use Rattle.vt_types.specs.Access.{AccessValue}
use Rattle.vt_types.specs.Program.{Does, cost_of_all}
use Rattle.vq_common.specs.declared.position.Position.{Position}
use Rattle.vq_common.specs.PackedDescriptor.{packed_descriptor_bytes}
use Rattle.vq_common.specs.Position.{location_after, position_after}
use Rattle.vq_common.proofs.PositionLaws.{location_after-inside}
use Rattle.vq_packed_drv.proofs.Described.{ring_puts-cost, ring_puts-does, ring_puts-same}
use Rattle.vq_packed_drv.proofs.ring.Ring.put_descriptors.Goals as goal

pub pieces-preserved : goal.pieces-preserved
pieces-preserved g c =
    let base : ℕ = c.args.self.now.base in
    let size : ℕ = c.args.self.now.cfg.size in
    let lengths : List ℕ = c.args.lengths.now in
    let id : ℕ = c.pieces.chain.id in
    let position : Position = c.pieces.chain.position in
    let addr : ℕ = c.pieces.chain.pieces.addr in
    let readable : ℕ = c.pieces.chain.pieces.readable in
    let i : ℕ = c.pieces.i in
    let next = c.next_descriptor-descriptor.new.self in
    let told = c.next_descriptor-descriptor.ensures in
    let rest = ring_puts-same base size (drop (i + 1) lengths) next.id id next.pieces.addr (addr + get_or lengths i 0) next.pieces.readable (readable - 1) next.position (position_after size position 1) told.id told.position told.addr told.readable in
    let location : c.location-location.result ≡ base + 16 * position.location = c.location-location.ensures in
    let bytes = c.to_bytes.ensures ∙ ap packed_descriptor_bytes told.descriptor in
    let long : length c.to_bytes.result ≡ 16 = ap length c.to_bytes.ensures in
    let left : sum (drop i lengths) ≡ get_or lengths i 0 + sum (drop (i + 1) lengths) = grind (arith, common_steps) in
    let after : next.position.location ≡ location_after size position.location 1 = ap (λ (p : Position). p.location) told.position in
    record {
      location = omega (arith, after, location_after-inside size position.location 1 c.pieces.invariant.location (omega arith));
      fits = omega (arith, c.pieces.invariant.fits, told.addr);
      credit = omega (arith, c.pieces.invariant.credit, c.put.ensures.credit, ap cost_of_all rest, ring_puts-cost base size id position addr readable lengths i c.location-location.result c.to_bytes.result c.pieces-test.true location long);
      whole = λ p2 more. c.pieces.invariant.whole p2 (ring_puts-does g.P.Port.step g.P.Port.marking base size id position addr readable lengths i c.location-location.result c.to_bytes.result _ _ p2 c.pieces-test.true location bytes c.put.ensures.does
          (subst (λ (xs : List AccessValue). Does g.P.Port.step g.P.Port.marking xs c.put.new.port p2) rest more));
    }
