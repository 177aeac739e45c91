use Rattle.std.proofs.Common.{◌≡◌, ℕ, ◌≤◌, ap, arith, sym, ◌∙◌}
use Rattle.vq_common.specs.declared.position.Position.{Position}
use Rattle.vq_common.specs.Chain.{ChainValue, Front, chain_value, walked}
use Rattle.vq_common.specs.Position.{location_after}
use Rattle.vq_common.specs.Queue.{DeviceQueue}
use Rattle.vq_common.proofs.PositionLaws.{location_after-inside}
use Rattle.vq_packed_dev.specs.Shown.{shown}
use Rattle.vq_packed_dev.specs.Walk.{packed_walk}
use Rattle.vq_packed_dev.proofs.device.PackedDeviceDeviceEnd.take.Goals as goal

pub invariant_of-self : goal.invariant_of-self
invariant_of-self c =
    let q : DeviceQueue = c.args.self.now in
    let chain : ChainValue = chain_value c.in-Front.chain in
    let size : ℕ = c.self.inside.cfg.size in
    let shows : packed_walk c.args.mem.now.bytes q ≡ Front chain = sym c.front-front.ensures ∙ ap walked c.in-Front.is in
    let same : q.cfg.size ≡ size = ap (λ (q : DeviceQueue). q.cfg.size) (sym c.self.view_is) in
    let few : chain.slots ≤ q.cfg.size = (shown c.args.mem.now.bytes q chain shows).slots in
    let location : c.advance-self-inside.result.location ≡ location_after size c.self.inside.taken.location chain.slots = ap (λ (p : Position). p.location) c.advance-self-inside.ensures in
    let (ring, taken, used) = c.self.invariant in
    (ring, rw location (location_after-inside size c.self.inside.taken.location chain.slots taken (omega arith)), used)
