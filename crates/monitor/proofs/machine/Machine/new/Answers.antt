use Rattle.std.proofs.Common.{◌≡◌, ℕ, List, ap}
use Rattle.guest_mem.specs.Pages.{MemoryView}
use Rattle.mmio_regs.specs.Page.{MmioRegisters}
use Rattle.dev_core.specs.Bus.{Raw}
use Rattle.dev_core.specs.Devices.{Devices, SetView}
use Rattle.monitor.proofs.machine.Machine.new.Goals as goal

abbrev raw : MmioRegisters → Devices → List ℕ → Raw MmioRegisters
raw registers devices memory = record { registers = registers; devices = devices; memory = memory }

same_raw : (r r' : MmioRegisters) (d d' : Devices) (m m' : List ℕ) → r ≡ r' → d ≡ d' → m ≡ m' → raw r d m ≡ raw r' d' m'
same_raw r r' d d' m m' registers devices memory = cc

-- by a lemma over variables: `search` would make the list of zeros
pub returns : goal.returns
returns c = same_raw _ _ _ _ _ _ c.new-5.ensures (ap (λ (set : SetView). set.devices) c.in-Ok.ensures.ok) (ap (λ (memory : MemoryView). memory.bytes) c.in_ok-memory.ensures)
