-- Loads and stores of the console's registers, as its driver makes them.
use Rattle.std.proofs.Common.{◌≡◌, ℕ, List, [], true, Some, refl, ◌∙◌, ap}
use Rattle.std.specs.Prelude.{nat_lt}
use Rattle.std.proofs.lemmas.Bool.{cond-true}
use Rattle.vt_types.specs.declared.access.Answer.{Answer}
use Rattle.vt_types.specs.declared.access.Answer.TheVariants.{Word, Done}
use Rattle.vt_types.specs.declared.device.Dev.TheVariants.{Con}
use Rattle.vt_types.specs.Access.{Load, Store}
use Rattle.vt_types.specs.Operation.{Operation}
use Rattle.vt_types.specs.Program.{Program, Do}
use Rattle.vt_types.specs.Reply.{ReplyValue}
use Rattle.vt_layout.specs.declared.register.MmioRegister.{MmioRegister}
use Rattle.vt_layout.specs.declared.register.MmioRegister.TheVariants.{MagicValue, Version, DeviceId, VendorId, DeviceFeatures, DeviceFeaturesSel, DriverFeatures, DriverFeaturesSel, QueueSel, QueueNumMax, QueueNum, QueueReady, QueueNotify, InterruptStatus, InterruptAck, Status, QueueDescLow, QueueDescHigh, QueueDriverLow, QueueDriverHigh, QueueDeviceLow, QueueDeviceHigh, ShmLenLow, ShmLenHigh, ConfigGeneration}
use Rattle.vt_layout.specs.Mmio.{CONFIGURATION, register_address, register_at, row_of}
use Rattle.abstract_devices.specs.World.{World}
use Rattle.dev_core.specs.Bus.{Raw, raw_access}
use Rattle.mmio_regs.specs.MmioTable.{console_offset, console_page, load_at, load_of, load_register, mmio_table, store_at, store_of, store_register, with_console_page}
use Rattle.mmio_regs.specs.Page.{MmioRegisters}
use Rattle.interleaving.specs.Kept.{Invariant, Kept, KeptWhole}
use Rattle.interleaving.specs.Safe.{Ending, Knows, Safe}
use Rattle.interleaving.proofs.AccessRules.{safe_access, safe_after, safe_before}
use Rattle.interleaving.proofs.MemoryRules.{safe_onward}
use Rattle.mmio_simulation.specs.Bus.{mmio}

-- the register's address reaches it
record IsReached (r : MmioRegister) : Type 0 where
  offset : console_offset (register_address Con r) ≡ Some (row_of r).off
  below : nat_lt (row_of r).off CONFIGURATION ≡ true
  register : register_at (row_of r).off 4 ≡ Some r

reached : (r : MmioRegister) → IsReached r
reached MagicValue = record { offset = refl; below = refl; register = refl }
reached Version = record { offset = refl; below = refl; register = refl }
reached DeviceId = record { offset = refl; below = refl; register = refl }
reached VendorId = record { offset = refl; below = refl; register = refl }
reached DeviceFeatures = record { offset = refl; below = refl; register = refl }
reached DeviceFeaturesSel = record { offset = refl; below = refl; register = refl }
reached DriverFeatures = record { offset = refl; below = refl; register = refl }
reached DriverFeaturesSel = record { offset = refl; below = refl; register = refl }
reached QueueSel = record { offset = refl; below = refl; register = refl }
reached QueueNumMax = record { offset = refl; below = refl; register = refl }
reached QueueNum = record { offset = refl; below = refl; register = refl }
reached QueueReady = record { offset = refl; below = refl; register = refl }
reached QueueNotify = record { offset = refl; below = refl; register = refl }
reached InterruptStatus = record { offset = refl; below = refl; register = refl }
reached InterruptAck = record { offset = refl; below = refl; register = refl }
reached Status = record { offset = refl; below = refl; register = refl }
reached QueueDescLow = record { offset = refl; below = refl; register = refl }
reached QueueDescHigh = record { offset = refl; below = refl; register = refl }
reached QueueDriverLow = record { offset = refl; below = refl; register = refl }
reached QueueDriverHigh = record { offset = refl; below = refl; register = refl }
reached QueueDeviceLow = record { offset = refl; below = refl; register = refl }
reached QueueDeviceHigh = record { offset = refl; below = refl; register = refl }
reached ShmLenLow = record { offset = refl; below = refl; register = refl }
reached ShmLenHigh = record { offset = refl; below = refl; register = refl }
reached ConfigGeneration = record { offset = refl; below = refl; register = refl }

-- the raw machine after a store to a register
abbrev pub stored : MmioRegister → ℕ → Raw MmioRegisters → Raw MmioRegisters
stored r value raw = with_console_page raw (store_of r value (console_page raw))

abbrev with_word : Raw MmioRegisters → ℕ → Answer × List ℕ × Raw MmioRegisters
with_word raw x = (Word x, [], raw)

abbrev with_done : Raw MmioRegisters → Answer × List ℕ × Raw MmioRegisters
with_done raw = (Done, [], raw)

loads : (raw : Raw MmioRegisters) (r : MmioRegister) → raw_access mmio_table (Load (register_address Con r) 4) raw ≡ with_word raw (load_of (console_page raw) r)
loads raw r =
    let is : IsReached r = reached r in
    let off : ℕ = (row_of r).off in
    ap (with_word raw)
    (ap (load_at raw 4) is.offset
    ∙ cond-true (nat_lt off CONFIGURATION) (load_register (console_page raw) (register_at off 4)) _ is.below
    ∙ ap (load_register (console_page raw)) is.register)

stores : (raw : Raw MmioRegisters) (r : MmioRegister) (value : ℕ) → raw_access mmio_table (Store (register_address Con r) 4 value) raw ≡ with_done (stored r value raw)
stores raw r value =
    let is : IsReached r = reached r in
    let off : ℕ = (row_of r).off in
    ap with_done
    (ap (store_at raw 4 value) is.offset
    ∙ cond-true (nat_lt off CONFIGURATION) (with_console_page raw (store_register (register_at off 4) value (console_page raw))) _ is.below
    ∙ ap (λ found. with_console_page raw (store_register found value (console_page raw))) is.register)

module _ {X : Type 0} {op : Operation} {ending : Ending MmioRegisters X} where
  -- a load before the mark, and after it
  pub safe_load : (r : MmioRegister) {rest : Answer → List ℕ → Program X} {n : ℕ} {w v : World} {reply : ReplyValue} {raw : Raw MmioRegisters}
      (inv : Invariant MmioRegisters) → Kept mmio inv → inv w raw
      → ((n : ℕ) (w v : World) (raw : Raw MmioRegisters) → inv w raw → Safe mmio op ending (rest (Word (load_of (console_page raw) r)) []) n w v reply raw)
      → Safe mmio op ending (Do (Load (register_address Con r) 4) rest) n w v reply raw
  safe_load r {rest = rest} inv kept holds onward =
      safe_before inv kept holds (λ n w v raw h. safe_onward (Load (register_address Con r) 4) rest raw (loads raw r) (onward n w v raw h))

  pub safe_load_after : (r : MmioRegister) {rest : Answer → List ℕ → Program X} {n : ℕ} {w v : World} {reply : ReplyValue} {raw : Raw MmioRegisters}
      (inv : Invariant MmioRegisters) → Kept mmio inv → inv v raw
      → ((n : ℕ) (w v : World) (raw : Raw MmioRegisters) → inv v raw → Safe mmio op ending (rest (Word (load_of (console_page raw) r)) []) n w v reply raw)
      → Safe mmio op ending (Do (Load (register_address Con r) 4) rest) n w v reply raw
  safe_load_after r {rest = rest} inv kept holds onward =
      safe_after inv kept holds (λ n w v raw h. safe_onward (Load (register_address Con r) 4) rest raw (loads raw r) (onward n w v raw h))

  -- in general
  pub safe_load_knowing : (r : MmioRegister) {rest : Answer → List ℕ → Program X} {n : ℕ} {w v : World} {reply : ReplyValue} {raw : Raw MmioRegisters}
      (inv : Knows MmioRegisters) → KeptWhole mmio inv → inv n w v raw
      → ((n : ℕ) (w v : World) (raw : Raw MmioRegisters) → inv n w v raw → Safe mmio op ending (rest (Word (load_of (console_page raw) r)) []) n w v reply raw)
      → Safe mmio op ending (Do (Load (register_address Con r) 4) rest) n w v reply raw
  safe_load_knowing r {rest = rest} inv kept holds onward =
      safe_access inv kept holds (λ n w v raw h. safe_onward (Load (register_address Con r) 4) rest raw (loads raw r) (onward n w v raw h))

  -- a store before the mark; its own mark may follow
  pub safe_store : (r : MmioRegister) (value : ℕ) {rest : Answer → List ℕ → Program X} {n : ℕ} {w v : World} {reply : ReplyValue} {raw : Raw MmioRegisters}
      (inv : Invariant MmioRegisters) → Kept mmio inv → inv w raw
      → ((n : ℕ) (w v : World) (raw : Raw MmioRegisters) → inv w raw → Safe mmio op ending (rest Done []) n w v reply (stored r value raw))
      → Safe mmio op ending (Do (Store (register_address Con r) 4 value) rest) n w v reply raw
  safe_store r value {rest = rest} inv kept holds onward =
      safe_before inv kept holds (λ n w v raw h. safe_onward (Store (register_address Con r) 4 value) rest raw (stores raw r value) (onward n w v raw h))
