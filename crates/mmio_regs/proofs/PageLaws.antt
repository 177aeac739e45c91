-- The registers of the queue that QueueSel names.
use Rattle.std.proofs.Common.{◌≡◌, ℕ, zero, suc, ◌<◌, List, [], ◌∷◌, length, Option, Some, None, false, refl, sym, ap, arith}
use Rattle.std.specs.Prelude.{slice_get, slice_set}
use Rattle.std.proofs.lemmas.Option.{none-some}
use Rattle.mmio_regs.specs.declared.page.QueueRegisters.{QueueRegisters}
use Rattle.dev_core.specs.Device.{is_queue_set}
use Rattle.mmio_regs.specs.MmioTable.{DevicePage, change_registers, change_selected, selected}

-- there is an element at a location below the length
pub at_below : {X : Type 0} (xs : List X) (n : ℕ) → n < length xs → (x : X) × (slice_get xs n ≡ Some x)
at_below [] n below = absurd (omega arith)
at_below (x ∷ xs) zero below = (x, refl)
at_below (x ∷ xs) (suc n) below = at_below xs n (omega arith)

-- where there is none, a write to the location changes nothing
set_none : {X : Type 0} (xs : List X) (n : ℕ) (x : X) → slice_get xs n ≡ None → slice_set xs n x ≡ xs
set_none [] n x is = refl
set_none (y ∷ xs) zero x is = absurd (none-some y (sym is))
set_none (y ∷ xs) (suc n) x is = ap (λ ys. y ∷ ys) (set_none xs n x is)

-- the registers with others in place of those of the queue
replaced : (d : DevicePage) (r : QueueRegisters) (o : Option QueueRegisters) → slice_get d.page.queues d.page.queue_select ≡ o
    → change_registers d d.page.queue_select (λ _. r) o ≡ record d { page = record d.page { queues = slice_set d.page.queues d.page.queue_select r } }
replaced d r None is = ap (λ qs. record d { page = record d.page { queues = qs } }) (sym (set_none d.page.queues d.page.queue_select r is))
replaced d r (Some q) is = refl

-- the same of a queue that is not set
pub replaced_unset : (d : DevicePage) (r : QueueRegisters) → is_queue_set (selected d) ≡ false
    → change_selected (λ _. r) d ≡ record d { page = record d.page { queues = slice_set d.page.queues d.page.queue_select r } }
replaced_unset d r is = rw is (replaced d r (slice_get d.page.queues d.page.queue_select) refl)
