use Rattle.std.proofs.Common.{◌≡◌, sym, refl, arith}
use Rattle.vq_common.proofs.PieceLaws.{scatter-nil}
use Rattle.dev_net.proofs.serve.serve_chain.Goals as goal

pub returns-else-queue-eq0-clause-serves : goal.returns-else-queue-eq0-clause-serves
returns-else-queue-eq0-clause-serves c =
    let transmits : c.args.queue ≡ 1 = omega (arith, c.requires.queue, c.if-queue-eq0.false) in
    rw transmits
    (record {
      memory = sym (scatter-nil c.args.mem.now.bytes c.args.chain.now.pieces.items);
      number = refl;
      waiting = c.transmit.ensures.waiting;
      sent = c.transmit.ensures.sent;
      spare = c.transmit.ensures.spare;
    })
