use Rattle.std.proofs.Common.{◌+◌, ◌<◌, ◌≤◌, ◌^◌, drop, sum}
use Rattle.vt_types.specs.Operation.{posted_buffer}
use Rattle.vt_types.specs.Program.{Does, cost_of_all}
use Rattle.vq_split_drv.specs.Driver.{ring_queue}
use Rattle.vq_split_drv.specs.Post.{descriptors_of, direct_puts, puts_of}
use Rattle.vq_split_drv.proofs.ring.Ring.put_direct.Given as goal

-- what the rest of the puts lead to, all of them lead to
abbrev pub invariant-pieces : goal.invariant-pieces
invariant-pieces g l = record {
  fits : l.pieces.addr + sum (drop l.i l.buf.cuts.items) < 2 ^ 64;
  credit : g.P.Port.credit l.fn.port + cost_of_all (puts_of l.self.base (drop l.i l.locations) (descriptors_of l.pieces.addr l.pieces.readable (drop l.i l.buf.cuts.items) (drop (l.i + 1) l.locations)))
      ≤ g.P.Port.credit l.port + cost_of_all (direct_puts (ring_queue l.self) (posted_buffer l.buf) l.locations);
  whole : (p2 : _)
      → Does g.P.Port.step g.P.Port.marking (puts_of l.self.base (drop l.i l.locations) (descriptors_of l.pieces.addr l.pieces.readable (drop l.i l.buf.cuts.items) (drop (l.i + 1) l.locations))) l.port p2
      → Does g.P.Port.step g.P.Port.marking (direct_puts (ring_queue l.self) (posted_buffer l.buf) l.locations) l.fn.port p2;
}
