-- The relation says of the console's page its interrupt status and how many queues it has, and nothing else.
use Rattle.std.proofs.Common.{◌≡◌, ◌∙◌, length}
use Rattle.abstract_devices.specs.World.{World}
use Rattle.dev_core.specs.Bus.{Raw}
use Rattle.drv_core.specs.Driver.{DriverRecord}
use Rattle.mmio_regs.specs.MmioTable.{with_console_page}
use Rattle.mmio_regs.specs.Page.{MmioRegisters, Page}
use Rattle.mmio_simulation.specs.Related.{Related}

-- the raw machine with another page of the console
abbrev pub with_page : Raw MmioRegisters → Page → Raw MmioRegisters
with_page raw p = with_console_page raw (record { page = p; device = raw.devices.con })

pub page_changed : {w : World} {raw : Raw MmioRegisters} {known : DriverRecord} (p : Page) → p.interrupt_status ≡ raw.registers.con.interrupt_status
    → length p.queues ≡ length raw.registers.con.queues → Related w raw known → Related w (with_page raw p) known
page_changed p interrupts count h = record {
  device = h.device;
  queues = h.queues;
  count = h.count;
  contents = h.contents;
  signals = record { status = interrupts ∙ h.signals.status; queues = count ∙ h.signals.queues };
  memory = h.memory;
}
