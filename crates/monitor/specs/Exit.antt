use Rattle.vt_types.specs.Access as access
use Rattle.vt_types.specs.Access.{AccessValue}
use Rattle.vt_types.specs.declared.device.Dev.TheVariants.{Con}
use Rattle.vt_layout.specs.Mmio.{register_address}
use Rattle.monitor.specs.declared.exits.Exit.{Exit}
use Rattle.monitor.specs.declared.exits.Exit.TheVariants.{Load, Store}

-- the access that trapped: of a register of the console, whose registers have 4 bytes
abbrev pub trapped : Exit → AccessValue
trapped (Load register) = access.Load (register_address Con register) 4
trapped (Store register value) = access.Store (register_address Con register) 4 value
