-- The locations of descriptors lie apart, and inside the block.
use Rattle.std.proofs.Common.{◌≡◌, ℕ, ◌+◌, ◌<◌, ◌≤◌, inl, inr, arith}
use Rattle.std.proofs.lemmas.Bool.{cases_order}
use Rattle.guest_mem.specs.Memory.{Apart}
use Rattle.guest_mem.proofs.Ranges.{Apart-swapped}
use Rattle.vt_types.specs.Device.{BLOCK_LEN}
use Rattle.ring_part.specs.Locations.{Owns, AtDescriptor, AtTable, AtData, IsInside}

-- what belongs to a lower number lies apart from what belongs to a higher one
below_apart : (base j k a n b m : ℕ) → k < 1024 → j < k → Owns base j a n → Owns base k b m → Apart a n b m
below_apart base j k a n b m low less (AtDescriptor h t) (AtDescriptor h2 t2) = inl (omega arith)
below_apart base j k a n b m low less (AtDescriptor h t) (AtTable h2 t2) = inl (omega arith)
below_apart base j k a n b m low less (AtDescriptor h t) (AtData h2 t2) = inl (omega arith)
below_apart base j k a n b m low less (AtTable h t) (AtDescriptor h2 t2) = inr (omega arith)
below_apart base j k a n b m low less (AtTable h t) (AtTable h2 t2) = inl (omega arith)
below_apart base j k a n b m low less (AtTable h t) (AtData h2 t2) = inl (omega arith)
below_apart base j k a n b m low less (AtData h t) (AtDescriptor h2 t2) = inr (omega arith)
below_apart base j k a n b m low less (AtData h t) (AtTable h2 t2) = inr (omega arith)
below_apart base j k a n b m low less (AtData h t) (AtData h2 t2) = inl (omega arith)

-- so what belongs to two numbers lies apart
pub owned_apart : (base j k a n b m : ℕ) → j < 1024 → k < 1024 → (j ≡ k → ⊥) → Owns base j a n → Owns base k b m → Apart a n b m
owned_apart base j k a n b m lowj lowk other own own2 =
    elim (cases_order j k) [
      | inl same ↦ absurd (other same)
      | inr order ↦ elim order [ inl below ↦ below_apart base j k a n b m lowk below own own2 | inr above ↦ Apart-swapped b m a n (below_apart base k j b m a n lowj above own2 own) ]
    ]

-- and apart from the driver and the device area
pub owned_areas : (base k a n b m : ℕ) → k < 1024 → base + 0x4000 ≤ b → b + m ≤ base + 0x20000 → Owns base k a n → Apart a n b m
owned_areas base k a n b m low starts ends (AtDescriptor h t) = inl (omega arith)
owned_areas base k a n b m low starts ends (AtTable h t) = inr (omega arith)
owned_areas base k a n b m low starts ends (AtData h t) = inr (omega arith)

-- all of it lies in the block
pub owned_inside : (base k a n : ℕ) → k < 1024 → Owns base k a n → IsInside base BLOCK_LEN a n
owned_inside base k a n low (AtDescriptor h t) = record { starts = omega arith; ends = omega arith }
owned_inside base k a n low (AtTable h t) = record { starts = omega arith; ends = omega arith }
owned_inside base k a n low (AtData h t) = record { starts = omega arith; ends = omega arith }
