use Rattle.std.proofs.Common.{◌≡◌, replicate}
use Rattle.dev_core.specs.Device.{unset}
use Rattle.dev_core.proofs.device.unset_queues.Given as goal

abbrev pub invariant-queues : goal.invariant-queues
invariant-queues l = l.queues.items ≡ replicate l._queue unset
