use Rattle.drv_mmio.proofs.QueueLaws.{described}
use Rattle.drv_mmio.proofs.queue.describe.Goals as goal

pub returns : goal.returns
returns g c =
    described g.P.Port.step g.P.Port.marking c.args.dev c.args.queue c.from.result c.from-2.result c.load.result c.load-2.result c.args.cfg.now c.args.port.now
    c.clear_areas.new.port c.store.new.port c.load.new.port c.load-2.new.port c.store-2.new.port c.store_areas.new.port c.store-3.new.port c.mark.new.self
    c.from.ensures c.from-2.ensures c.clear_areas.ensures.clears c.store.ensures.stores c.load.ensures.loads c.load-2.ensures.loads
    c.store-2.ensures.stores c.store_areas.ensures.stores c.store-3.ensures.stores c.mark.ensures.marking
