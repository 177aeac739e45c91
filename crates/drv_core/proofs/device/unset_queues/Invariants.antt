use Rattle.std.proofs.Common.{◌≡◌, None, replicate}
use Rattle.drv_core.proofs.device.unset_queues.Given as goal

abbrev pub invariant-queues : goal.invariant-queues
invariant-queues l = l.queues.items ≡ replicate l._queue None
