-- A chain that the ring shows keeps the rules, takes no more locations than the ring has, and is shown where the ring's areas
-- lie inside memory, whose length stays while bytes are written over the chain.
use Rattle.std.proofs.Common.{◌≡◌, List, ℕ, length, sym, ap, arith, ◌∙◌}
use Rattle.vq_common.specs.Chain.{chain_value}
use Rattle.vq_common.proofs.RuleFacts.{rules_inside, room-le}
use Rattle.vq_common.proofs.PieceLaws.{length-scatter}
use Rattle.ring_bench.proofs.host.Host.serve_next.Goals as goal

pub gather-requires : goal.gather-requires
gather-requires g c =
    (g.met.E.DeviceEnd.shown c.args.memory.now.bytes (g.E.DeviceEnd.queue c.args.self.now.device) (chain_value c.in-Front.chain) (sym c.in-Front.ensures.takes.shows)).rules

pub scatter-requires-clause-rules : goal.scatter-requires-clause-rules
scatter-requires-clause-rules g c =
    (g.met.E.DeviceEnd.shown c.args.memory.now.bytes (g.E.DeviceEnd.queue c.args.self.now.device) (chain_value c.in-Front.chain) (sym c.in-Front.ensures.takes.shows)).rules

pub room-requires : goal.room-requires
room-requires g c =
    let shown = g.met.E.DeviceEnd.shown c.args.memory.now.bytes (g.E.DeviceEnd.queue c.args.self.now.device) (chain_value c.in-Front.chain) (sym c.in-Front.ensures.takes.shows) in
    omega (arith, room-le (length c.args.memory.now.bytes) c.in-Front.chain.pieces.items shown.rules)

pub give-signals-requires-clause-areas : goal.give-signals-requires-clause-areas
give-signals-requires-clause-areas g c =
    let shown = g.met.E.DeviceEnd.shown c.args.memory.now.bytes (g.E.DeviceEnd.queue c.args.self.now.device) (chain_value c.in-Front.chain) (sym c.in-Front.ensures.takes.shows) in
    let stays : length c.scatter.new.mem.bytes ≡ length c.args.memory.now.bytes
    = ap (λ (bytes : List ℕ). length bytes) c.scatter.ensures.bytes
    ∙ length-scatter c.args.memory.now.bytes c.in-Front.chain.pieces.items _ (rules_inside (length c.args.memory.now.bytes) c.in-Front.chain.pieces.items shown.rules)
    in
    rw stays (rw c.take.ensures.ring.cfg shown.areas)

pub give-signals-requires-clause-slots : goal.give-signals-requires-clause-slots
give-signals-requires-clause-slots g c =
    let shown = g.met.E.DeviceEnd.shown c.args.memory.now.bytes (g.E.DeviceEnd.queue c.args.self.now.device) (chain_value c.in-Front.chain) (sym c.in-Front.ensures.takes.shows) in
    rw c.take.ensures.ring.cfg shown.slots
