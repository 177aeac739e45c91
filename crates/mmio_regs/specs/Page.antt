use Rattle.std.specs.Prelude.{ℕ, ◌+◌, ◌*◌, ◌/◌, ◌%◌, ◌^◌, List, replicate, if◌then◌else◌}
use Rattle.std.specs.Int.RustNames.{bit_and, bit_or}
use Rattle.vt_types.specs.declared.device.Dev.TheVariants.{Con}
use Rattle.vt_types.specs.Device.{queue_count}
use Rattle.dev_status.specs.Status.{has_bits}
use Rattle.vt_layout.specs.Interrupts.{USED_BUFFER, CONFIGURATION_CHANGE}
use Rattle.mmio_regs.specs.declared.page.QueueRegisters.{QueueRegisters}

-- what the page of a device keeps beside the device: the selectors, InterruptStatus, and the registers of each queue
pub record Page : Type 0 where
  pub device_features_select : ℕ
  pub driver_features_select : ℕ
  pub queue_select : ℕ
  pub interrupt_status : ℕ
  pub queues : List QueueRegisters

-- the registers of the bus: the console's page alone is there yet
pub record MmioRegisters : Type 0 where
  pub con : Page

abbrev pub new_queue_registers : QueueRegisters
new_queue_registers = record { num = 0; desc = 0; driver = 0; device = 0 }

-- a page after a reset, of a device with so many queues
abbrev pub new_page : ℕ → Page
new_page queues =
    record { device_features_select = 0; driver_features_select = 0; queue_select = 0; interrupt_status = 0; queues = replicate queues new_queue_registers }

abbrev pub new_registers : MmioRegisters
new_registers = record { con = new_page (queue_count Con) }

-- a signal is shown by its bit
abbrev pub with_interrupt : ℕ → Page → Page
with_interrupt bit p = record p { interrupt_status = bit_or p.interrupt_status bit }

-- a bit that is not acknowledged stays
abbrev pub kept_bit : ℕ → ℕ → ℕ → ℕ
kept_bit acknowledged signals bit = if has_bits acknowledged bit then 0 else bit_and signals bit

-- the signals that stand once some are acknowledged
abbrev pub acknowledged : ℕ → Page → Page
acknowledged bits p =
    record p { interrupt_status = kept_bit bits p.interrupt_status USED_BUFFER + kept_bit bits p.interrupt_status CONFIGURATION_CHANGE }

-- an address with another low or high half
abbrev pub with_low : ℕ → ℕ → ℕ
with_low addr word = addr / 2 ^ 32 * 2 ^ 32 + word

abbrev pub with_high : ℕ → ℕ → ℕ
with_high addr word = addr % 2 ^ 32 + word * 2 ^ 32
