use Rattle.vt_types.specs.declared.device.BusKind.TheVariants.{Mmio}
use Rattle.mmio_regs.specs.MmioTable.{mmio_table}
use Rattle.mmio_regs.specs.Page.{MmioRegisters}
use Rattle.drv_mmio.specs.Lowering.{mmio_lowering}
use Rattle.interleaving.specs.BusDefinition.{BusDefinition, driven}

-- MMIO: its table, and the accesses of a driver on it
abbrev pub mmio : BusDefinition MmioRegisters
mmio = driven mmio_table mmio_lowering Mmio
