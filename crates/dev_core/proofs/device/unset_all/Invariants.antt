use Rattle.std.proofs.Common.{◌≡◌, take, replicate}
use Rattle.dev_core.specs.Device.{unset}
use Rattle.dev_core.proofs.device.unset_all.Given as goal

abbrev pub invariant-queues : goal.invariant-queues
invariant-queues l = take l.queue-index l.queues ≡ replicate l.queue-index unset
