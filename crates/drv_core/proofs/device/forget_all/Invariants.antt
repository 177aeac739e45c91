use Rattle.std.proofs.Common.{◌≡◌, None, take, replicate}
use Rattle.drv_core.proofs.device.forget_all.Given as goal

abbrev pub invariant-queues : goal.invariant-queues
invariant-queues l = take l.queue-index l.queues ≡ replicate l.queue-index None
