use Rattle.std.specs.Prelude.{ℕ, ◌+◌}
use Rattle.vt_types.specs.declared.operation.Step.{Step}
use Rattle.vt_types.specs.declared.operation.Step.TheVariants.{Ack, Driver, FeatOk, DrvOk}

-- the bits of the status (VIRTIO 1.2, 2.1)
abbrev pub ACKNOWLEDGE : ℕ
ACKNOWLEDGE = 1

abbrev pub DRIVER : ℕ
DRIVER = 2

abbrev pub DRIVER_OK : ℕ
DRIVER_OK = 4

abbrev pub FEATURES_OK : ℕ
FEATURES_OK = 8

abbrev pub DEVICE_NEEDS_RESET : ℕ
DEVICE_NEEDS_RESET = 64

abbrev pub FAILED : ℕ
FAILED = 128

-- what a driver writes for a step of the bring-up: the bit of this step and those of the steps before it (VIRTIO 1.2,
-- 3.1.1)
abbrev pub status_of_step : Step → ℕ
status_of_step Ack = ACKNOWLEDGE
status_of_step Driver = ACKNOWLEDGE + DRIVER
status_of_step FeatOk = ACKNOWLEDGE + DRIVER + FEATURES_OK
status_of_step DrvOk = ACKNOWLEDGE + DRIVER + FEATURES_OK + DRIVER_OK
