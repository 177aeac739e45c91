use Rattle.std.proofs.Common.{refl, lit<}
use Rattle.tests_devices.proofs.device_driver.refusals_of_queues.Goals as goal

pub set_queue-requires-clause-in_block : goal.set_queue-requires-clause-in_block
set_queue-requires-clause-in_block g c =
    record { block = record { number = 3; known = lit< tt; location = refl }; desc = refl; driver = refl; device = refl }
