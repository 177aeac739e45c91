-- What a step of the bring-up makes of the status, and what is read of it.
use Rattle.std.proofs.Common.{◌≡◌, ℕ, ◌%◌, ◌^◌, ◌<◌, Bool, true, false, refl, sym, subst, inl, inr, arith}
use Rattle.std.specs.Prelude.{if◌then◌else◌}
use Rattle.std.specs.Int.RustNames.{bit_or}
use Rattle.vt_types.specs.declared.operation.Step.{Step}
use Rattle.vt_types.specs.declared.operation.Step.TheVariants.{Ack, Driver, FeatOk, DrvOk}
use Rattle.vt_types.specs.Status.{DRIVER_OK, FEATURES_OK, status_of_step}
use Rattle.dev_status.specs.Status.{StatusState, add_bit, has_bits, is_acceptable, status_with, write_of}
use Rattle.state_table.specs.Refusal.{status_before}
use Rattle.dev_core.specs.Bus.{Raw}
use Rattle.drv_mmio.specs.Lowering.{low_byte}
use Rattle.vt_layout.specs.declared.register.MmioRegister.TheVariants.{Status}
use Rattle.mmio_regs.specs.Page.{MmioRegisters}
use Rattle.mmio_regs.specs.MmioTable.{with_console_page}
use Rattle.mmio_simulation.specs.Related.{IsAgreed, IsStep, BeforeAll, Acknowledged, Driven, Agreed, Running}
use Rattle.mmio_simulation.proofs.Registers.{stored}

step_low : (s : ℕ) → IsStep s → s < 256
step_low s (BeforeAll is) = omega (arith, is)
step_low s (Acknowledged is) = omega (arith, is)
step_low s (Driven is) = omega (arith, is)
step_low s (Agreed is) = omega (arith, is)
step_low s (Running is) = omega (arith, is)

-- a status that is read as a word is the status
pub byte_read : (x s : ℕ) → x ≡ s → IsStep s → low_byte (x % 2 ^ 32) ≡ s
byte_read x s is step = let low : s < 256 = step_low s step in omega (arith, is, low)

-- from one status to another: it is a step's, and a queue may still be set
pub record Stepped (old new : ℕ) : Type 0 where
  pub step : IsStep new
  pub agreed : IsAgreed old → IsAgreed new

-- the status that follows 3 and 11, by whether the features are acceptable
abbrev agreed_if : Bool → ℕ
agreed_if acceptable = if acceptable then bit_or 3 FEATURES_OK else 3

abbrev running_if : Bool → ℕ
running_if acceptable = let ready : ℕ = if acceptable then bit_or 11 FEATURES_OK else 11 in add_bit ready 15 (has_bits ready FEATURES_OK) DRIVER_OK

no_agreement : (old new : ℕ) → old < 4 → IsAgreed old → IsAgreed new
no_agreement old new low (inl is) = absurd (omega (arith, is))
no_agreement old new low (inr is) = absurd (omega (arith, is))

from_step : (s : Step) (offered accepted : ℕ) → Stepped (status_before s) (status_with (status_of_step s) (record { offered = offered; accepted = accepted; status = status_before s }))
from_step Ack offered accepted = record { step = Acknowledged refl; agreed = no_agreement 0 1 (omega arith) }
from_step Driver offered accepted = record { step = Driven refl; agreed = no_agreement 1 3 (omega arith) }
from_step FeatOk offered accepted = tested (is_acceptable (record { offered = offered; accepted = accepted; status = 3 }))
  where
    tested : (acceptable : Bool) → Stepped 3 (agreed_if acceptable)
    tested true = record { step = Agreed refl; agreed = no_agreement 3 11 (omega arith) }
    tested false = record { step = Driven refl; agreed = no_agreement 3 3 (omega arith) }
from_step DrvOk offered accepted = tested (is_acceptable (record { offered = offered; accepted = accepted; status = 11 }))
  where
    tested : (acceptable : Bool) → Stepped 11 (running_if acceptable)
    tested true = record { step = Running refl; agreed = λ _. inr refl }
    tested false = record { step = Running refl; agreed = λ _. inr refl }

pub stepped : (s : Step) (offered accepted status : ℕ) → status ≡ status_before s → Stepped status (status_with (status_of_step s) (record { offered = offered; accepted = accepted; status = status }))
stepped s offered accepted status is =
    subst (λ (old : ℕ). Stepped old (status_with (status_of_step s) (record { offered = offered; accepted = accepted; status = old }))) (sym is) (from_step s offered accepted)

-- a step resets nothing
pub step_written : (s : Step) (state : StatusState) → write_of (status_of_step s) state ≡ record state { status = status_with (status_of_step s) state }
step_written Ack state = refl
step_written Driver state = refl
step_written FeatOk state = refl
step_written DrvOk state = refl

-- the raw machine with another state of the status machine
abbrev pub with_state : Raw MmioRegisters → StatusState → Raw MmioRegisters
with_state raw state = with_console_page raw (record { page = raw.registers.con; device = record raw.devices.con { status = state } })

pub step_stored : (s : Step) (raw : Raw MmioRegisters)
    → stored Status (status_of_step s) raw ≡ with_state raw (record raw.devices.con.status { status = status_with (status_of_step s) raw.devices.con.status })
step_stored Ack raw = refl
step_stored Driver raw = refl
step_stored FeatOk raw = refl
step_stored DrvOk raw = refl
