use Rattle.std.proofs.Common.{ℕ, ap, arith, subst}
use Rattle.vt_types.specs.Operation.{PostedBuffer, posted_buffer}
use Rattle.vt_types.specs.Program.{Does, cost_of_all}
use Rattle.vt_layout.specs.QueueBlock.{data_address}
use Rattle.vq_common.specs.Queue.{DriverQueue}
use Rattle.vq_split_drv.specs.Driver.{ring_queue}
use Rattle.port_access.specs.Accesses.{data_puts}
use Rattle.vq_split_drv.specs.Post.{available_puts}
use Rattle.vq_split_drv.specs.Cost.{cost_of_parts}
use Rattle.vq_split_drv.proofs.Posts.{post_does}
use Rattle.vq_split_drv.proofs.ring.Ring.put_buffer.Goals as goal

pub put_chain-requires-clause-credit : goal.put_chain-requires-clause-credit
put_chain-requires-clause-credit g c =
    let q : DriverQueue = ring_queue c.args.self.now in
    let b : PostedBuffer = posted_buffer c.args.buf.now in
    omega (arith, cost_of_parts q b c.args.locations.now, ap (λ (h : ℕ). cost_of_all (data_puts (data_address q.base h) b.readable)) c.head-first.ensures)

pub put_available-requires-clause-credit : goal.put_available-requires-clause-credit
put_available-requires-clause-credit g c =
    let q : DriverQueue = ring_queue c.args.self.now in
    let b : PostedBuffer = posted_buffer c.args.buf.now in
    omega (arith, cost_of_parts q b c.args.locations.now, ap (λ (h : ℕ). cost_of_all (data_puts (data_address q.base h) b.readable)) c.head-first.ensures)

pub returns-clause-does : goal.returns-clause-does
returns-clause-does g c =
    let q : DriverQueue = ring_queue c.args.self.now in
    let b : PostedBuffer = posted_buffer c.args.buf.now in
    post_does g.P.Port.step g.P.Port.marking q b c.args.locations.now c.args.port.now c.put_data.new.port c.put_chain.new.port c.put_available.new.port
    (subst (λ (h : ℕ). Does g.P.Port.step g.P.Port.marking (data_puts (data_address q.base h) b.readable) c.args.port.now c.put_data.new.port) c.head-first.ensures c.put_data.ensures.does)
    c.put_chain.ensures.does
    (subst (λ (h : ℕ). Does g.P.Port.step g.P.Port.marking (available_puts q h) c.put_chain.new.port c.put_available.new.port) c.head-first.ensures c.put_available.ensures.does)

pub returns-clause-credit : goal.returns-clause-credit
returns-clause-credit g c =
    let q : DriverQueue = ring_queue c.args.self.now in
    let b : PostedBuffer = posted_buffer c.args.buf.now in
    omega (arith, cost_of_parts q b c.args.locations.now, ap (λ (h : ℕ). cost_of_all (data_puts (data_address q.base h) b.readable)) c.head-first.ensures)
