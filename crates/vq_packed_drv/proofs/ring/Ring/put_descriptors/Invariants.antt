use Rattle.std.proofs.Common.{◌+◌, ◌<◌, ◌≤◌, ◌^◌, drop, sum}
use Rattle.vt_types.specs.Program.{Does, cost_of_all}
use Rattle.vq_common.specs.Piece.{pieces_from}
use Rattle.vq_packed_drv.specs.Post.{ring_puts}
use Rattle.vq_packed_drv.proofs.ring.Ring.put_descriptors.Given as goal

-- what the rest of the puts lead to, all of them lead to
abbrev pub invariant-pieces : goal.invariant-pieces
invariant-pieces g l = record {
  location : l.chain.position.location < l.self.cfg.size;
  fits : l.chain.pieces.addr + sum (drop l.i l.lengths) < 2 ^ 64;
  credit : g.P.Port.credit l.fn.port + cost_of_all (ring_puts l.self.base l.self.cfg.size l.chain.id l.chain.position (pieces_from l.chain.pieces.addr l.chain.pieces.readable (drop l.i l.lengths)))
      ≤ g.P.Port.credit l.port + cost_of_all (ring_puts l.self.base l.self.cfg.size l.fn.chain.id l.fn.chain.position (pieces_from l.fn.chain.pieces.addr l.fn.chain.pieces.readable l.lengths));
  whole : (p2 : _)
      → Does g.P.Port.step g.P.Port.marking (ring_puts l.self.base l.self.cfg.size l.chain.id l.chain.position (pieces_from l.chain.pieces.addr l.chain.pieces.readable (drop l.i l.lengths))) l.port p2
      → Does g.P.Port.step g.P.Port.marking (ring_puts l.self.base l.self.cfg.size l.fn.chain.id l.fn.chain.position (pieces_from l.fn.chain.pieces.addr l.fn.chain.pieces.readable l.lengths)) l.fn.port p2;
}
