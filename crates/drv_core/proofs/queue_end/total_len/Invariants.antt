use Rattle.std.proofs.Common.{◌≡◌, ◌+◌, ◌*◌, ◌≤◌, drop, sum}
use Rattle.drv_core.proofs.queue_end.total_len.Given as goal

abbrev pub invariant-pieces : goal.invariant-pieces
invariant-pieces l = (l.total + sum (drop l.len-index l.lengths) ≡ sum l.lengths) × (l.total ≤ 65535 * l.len-index)
