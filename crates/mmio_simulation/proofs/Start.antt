-- The relation at the start.
use Rattle.std.proofs.Common.{refl, arith}
use Rattle.std.proofs.lemmas.List.{length-replicate}
use Rattle.abstract_devices.specs.World.{AbstractDisk, new_world}
use Rattle.dev_core.specs.Bus.{MEMORY_LENGTH, new_raw}
use Rattle.drv_core.specs.Driver.{new_record}
use Rattle.mmio_regs.specs.MmioTable.{mmio_table}
use Rattle.mmio_simulation.specs.Related.{Related, BeforeAll}

pub starts : (disk : AbstractDisk) → Related (new_world disk) (new_raw mmio_table) new_record
starts disk =
    record {
      device = record {
        step = BeforeAll refl;
        status = refl;
        accepted = refl;
        offered = refl;
        generation = omega arith;
        known_probed = refl;
        known_reset = refl;
        known_status = refl;
        known_accepted = refl;
      };
      queues = (record { unset = refl; kick = refl }, (record { unset = refl; kick = refl }, tt));
      count = refl;
      contents = refl;
      signals = record { status = refl; queues = refl };
      memory = length-replicate MEMORY_LENGTH 0;
    }
