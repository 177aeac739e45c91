use Rattle.std.proofs.Common.{ℕ, subst}
use Rattle.vt_types.specs.Operation.{PostedBuffer, posted_buffer}
use Rattle.vt_types.specs.Program.{Does}
use Rattle.vq_common.specs.Queue.{DriverQueue}
use Rattle.vq_split_drv.specs.Driver.{ring_queue}
use Rattle.vq_split_drv.specs.Post.{indirect_puts}
use Rattle.vq_split_drv.proofs.ring.Ring.put_chain.Goals as goal

pub returns-then-buf-clause-does : goal.returns-then-buf-clause-does
returns-then-buf-clause-does g c =
    let q : DriverQueue = ring_queue c.args.self.now in
    let b : PostedBuffer = posted_buffer c.args.buf.now in
    rw c.if-buf.true (subst (λ (h : ℕ). Does g.P.Port.step g.P.Port.marking (indirect_puts q b h) c.args.port.now c.put_indirect.new.port) c.head.ensures c.put_indirect.ensures.does)
