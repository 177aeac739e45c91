use Rattle.dev_core.specs.Bus.{Raw}
use Rattle.mmio_regs.specs.Page.{MmioRegisters}
use Rattle.monitor.specs.declared.machine.Machine.{Machine}

-- what the table of the bus sees of a machine
abbrev pub raw_of : Machine → Raw MmioRegisters
raw_of m = record { registers = m.bus; devices = m.set.devices; memory = m.port.memory.bytes }
