use Rattle.std.proofs.Common.{sym}
use Rattle.vq_common.specs.Chain.{chain_value}
use Rattle.tests_rings.proofs.ends.front.Goals as goal

pub returns-clause-rules : goal.returns-clause-rules
returns-clause-rules g c =
    (g.met.D.DeviceEnd.shown c.args.memory.now.bytes (g.D.DeviceEnd.queue c.args.device.now) (chain_value c.in-Front.chain) (sym c.in-Front.ensures.takes.shows)).rules

pub returns-clause-slots : goal.returns-clause-slots
returns-clause-slots g c =
    let shown = g.met.D.DeviceEnd.shown c.args.memory.now.bytes (g.D.DeviceEnd.queue c.args.device.now) (chain_value c.in-Front.chain) (sym c.in-Front.ensures.takes.shows) in
    rw c.take.ensures.ring.cfg shown.slots

pub returns-clause-areas : goal.returns-clause-areas
returns-clause-areas g c =
    let shown = g.met.D.DeviceEnd.shown c.args.memory.now.bytes (g.D.DeviceEnd.queue c.args.device.now) (chain_value c.in-Front.chain) (sym c.in-Front.ensures.takes.shows) in
    rw c.take.ensures.ring.cfg shown.areas
