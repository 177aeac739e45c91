-- What the status machine keeps (VIRTIO 1.2, 2.1.2, 2.2.2 and 3.1.1).
use Rattle.std.proofs.Common.{◌≡◌, ◌≢◌, ℕ, ◌==◌, ◌&&◌, Bool, true, false, ◌⊎◌, inl, inr, refl, sym, ◌∙◌, ap, arith, IsTrue, if◌then◌else◌, bit_and, bit_or, eq-eqb, ne_eqb}
use Rattle.std.proofs.lemmas.Bool.{eqb-true}
use Rattle.std.proofs.lemmas.Nat.{and_or_apart, and_assoc}
use Rattle.std.proofs.lemmas.Nat.Bits.{bit_at_and, bit_at_or, same_from_bits}
use Rattle.std.specs.Int.{bit_at}
use Rattle.std.specs.Int.Bits.{and_zero_r}
use Rattle.dev_status.specs.Status.{StatusState, has_bits, add_bit, is_acceptable, status_with, write_of, accept_of, reset_of}
use Rattle.vt_types.specs.Status.{DRIVER_OK, FEATURES_OK, DEVICE_NEEDS_RESET}

-- adding bits takes none away
or_keeps : (n m b : ℕ) → bit_and n b ≡ b → bit_and (bit_or n m) b ≡ b
or_keeps n m b h =
    same_from_bits _ _ (λ i. let at : bit_at (bit_and n b) i ≡ bit_at b i = ap (λ x. bit_at x i) h in simp (bit_at_and, bit_at_or) (omega (arith, simp bit_at_and at at)))

or_keeps_bits : (n m b : ℕ) → IsTrue (has_bits n b) → IsTrue (has_bits (bit_or n m) b)
or_keeps_bits n m b h = eq-eqb _ _ (or_keeps n m b (eqb-true _ _ h))

-- adding bits that a mask has none of leaves the test of that mask
or_apart : (n m b : ℕ) → bit_and m b ≡ 0 → has_bits (bit_or n m) b ≡ has_bits n b
or_apart n m b h = ap (λ x. x == b) (and_or_apart b n m h)

-- the same for bits from 131
plain_apart : (n v b : ℕ) → bit_and 131 b ≡ 0 → has_bits (bit_or n (bit_and v 131)) b ≡ has_bits n b
plain_apart n v b h = or_apart n (bit_and v 131) b (and_assoc b v 131 ∙ ap (λ x. bit_and v x) h ∙ and_zero_r v)

two_cases : (b : Bool) → (b ≡ true) ⊎ (b ≡ false)
two_cases true = inl refl
two_cases false = inr refl

add_keeps : (n v : ℕ) (may : Bool) (bit b : ℕ) → IsTrue (has_bits n b) → IsTrue (has_bits (add_bit n v may bit) b)
add_keeps n v may bit b h =
    elim (has_bits v bit && may) as (λ t. IsTrue (has_bits (if t then bit_or n bit else n) b)) [ true ↦ or_keeps_bits n bit b h | false ↦ h ]

add_apart : (n v : ℕ) (may : Bool) (bit b : ℕ) → bit_and bit b ≡ 0 → has_bits (add_bit n v may bit) b ≡ has_bits n b
add_apart n v may bit b h =
    elim (has_bits v bit && may) as (λ t. has_bits (if t then bit_or n bit else n) b ≡ has_bits n b) [ true ↦ or_apart n bit b h | false ↦ refl ]

-- a bit that is not there is added only where it may stand
may_of : (n v : ℕ) (may : Bool) (bit : ℕ) → has_bits n bit ≡ false → IsTrue (has_bits (add_bit n v may bit) bit) → IsTrue may
may_of n v true bit none h = refl
may_of n v false bit none h =
    (elim (has_bits v bit) as (λ t. IsTrue (has_bits (if t && false then bit_or n bit else n) bit) → IsTrue false) [ true ↦ λ k. sym none ∙ k | false ↦ λ k. sym none ∙ k ])
    h

-- the status with ACKNOWLEDGE, DRIVER and FAILED as they are asked for, and then with FEATURES_OK
abbrev plain : ℕ → StatusState → ℕ
plain v s = bit_or s.status (bit_and v 131)

abbrev ready : ℕ → StatusState → ℕ
ready v s = add_bit (plain v s) v (is_acceptable s) FEATURES_OK

-- a fact of the status after a reset and after any other write holds after every write
by_write : (P : ℕ → Type 0) (v : ℕ) (s : StatusState) → P 0 → P (status_with v s) → P (write_of v s).status
by_write P v s zero other =
    elim (v == 0) as (λ t. P (if t then reset_of s else record s { status = status_with v s }).status) [ true ↦ zero | false ↦ other ]

ready_features_ok : (v : ℕ) (s : StatusState) → has_bits s.status FEATURES_OK ≡ false → IsTrue (has_bits (status_with v s) FEATURES_OK) → IsTrue (is_acceptable s)
ready_features_ok v s none h =
    may_of (plain v s) v (is_acceptable s) FEATURES_OK (plain_apart s.status v FEATURES_OK refl ∙ none) (sym (add_apart (ready v s) v (has_bits (ready v s) FEATURES_OK) DRIVER_OK FEATURES_OK refl) ∙ h)

-- a write lets FEATURES_OK come to stand only where the accepted features are offered ones, with VERSION_1 among them
pub features_ok_only_acceptable : (v : ℕ) (s : StatusState) → has_bits s.status FEATURES_OK ≡ false → IsTrue (has_bits (write_of v s).status FEATURES_OK) → IsTrue (is_acceptable s)
features_ok_only_acceptable v s none =
    by_write (λ status. IsTrue (has_bits status FEATURES_OK) → IsTrue (is_acceptable s)) v s (λ h. cc) (ready_features_ok v s none)

ready_driver_ok : (v : ℕ) (s : StatusState) → (IsTrue (has_bits s.status DRIVER_OK) → IsTrue (has_bits s.status FEATURES_OK)) → IsTrue (has_bits (status_with v s) DRIVER_OK) → IsTrue (has_bits (ready v s) FEATURES_OK)
ready_driver_ok v s before h =
    let same : has_bits (ready v s) DRIVER_OK ≡ has_bits s.status DRIVER_OK = add_apart (plain v s) v (is_acceptable s) FEATURES_OK DRIVER_OK refl ∙ plain_apart s.status v DRIVER_OK refl in
    elim (two_cases (has_bits s.status DRIVER_OK)) [
      | inl stands ↦ add_keeps (plain v s) v (is_acceptable s) FEATURES_OK FEATURES_OK (or_keeps_bits s.status (bit_and v 131) FEATURES_OK (before stands))
      | inr none ↦ may_of (ready v s) v (has_bits (ready v s) FEATURES_OK) DRIVER_OK (same ∙ none) h
    ]

-- DRIVER_OK stands only where FEATURES_OK stands: every write keeps this
pub driver_ok_only_with_features_ok : (v : ℕ) (s : StatusState) → (IsTrue (has_bits s.status DRIVER_OK) → IsTrue (has_bits s.status FEATURES_OK)) → IsTrue (has_bits (write_of v s).status DRIVER_OK) → IsTrue (has_bits (write_of v s).status FEATURES_OK)
driver_ok_only_with_features_ok v s before =
    by_write (λ status. IsTrue (has_bits status DRIVER_OK) → IsTrue (has_bits status FEATURES_OK)) v s (λ h. cc)
    (λ h. add_keeps (ready v s) v (has_bits (ready v s) FEATURES_OK) DRIVER_OK FEATURES_OK (ready_driver_ok v s before h))

status_keeps : (v : ℕ) (s : StatusState) (bits : ℕ) → IsTrue (has_bits s.status bits) → IsTrue (has_bits (status_with v s) bits)
status_keeps v s bits h =
    add_keeps (ready v s) v (has_bits (ready v s) FEATURES_OK) DRIVER_OK bits (add_keeps (plain v s) v (is_acceptable s) FEATURES_OK bits (or_keeps_bits s.status (bit_and v 131) bits h))

-- a write other than 0 clears no bit
pub write_clears_no_bit : (v : ℕ) (s : StatusState) (bits : ℕ) → v ≢ 0 → IsTrue (has_bits s.status bits) → IsTrue (has_bits (write_of v s).status bits)
write_clears_no_bit v s bits other h = rw (ne_eqb v 0 other) (status_keeps v s bits h)

-- a write never adds DEVICE_NEEDS_RESET
pub write_adds_no_needs_reset : (v : ℕ) (s : StatusState) → has_bits s.status DEVICE_NEEDS_RESET ≡ false → has_bits (write_of v s).status DEVICE_NEEDS_RESET ≡ false
write_adds_no_needs_reset v s none =
    by_write (λ status. has_bits status DEVICE_NEEDS_RESET ≡ false) v s refl
    (add_apart (ready v s) v (has_bits (ready v s) FEATURES_OK) DRIVER_OK DEVICE_NEEDS_RESET refl
    ∙ add_apart (plain v s) v (is_acceptable s) FEATURES_OK DEVICE_NEEDS_RESET refl
    ∙ plain_apart s.status v DEVICE_NEEDS_RESET refl
    ∙ none)

-- a write of 0 leaves the status 0 and no accepted feature, and the offered features as they were
pub write_zero_resets : (s : StatusState) → write_of 0 s ≡ record { offered = s.offered; accepted = 0; status = 0 }
write_zero_resets s = refl

-- a write other than 0 leaves the accepted features
pub write_leaves_accepted : (v : ℕ) (s : StatusState) → v ≢ 0 → (write_of v s).accepted ≡ s.accepted
write_leaves_accepted v s other = rw (ne_eqb v 0 other) refl

-- FEATURES_OK stands only for acceptable features: every write keeps this, and so does every word that the driver accepts
pub write_keeps_acceptable : (v : ℕ) (s : StatusState) → (IsTrue (has_bits s.status FEATURES_OK) → IsTrue (is_acceptable s)) → IsTrue (has_bits (write_of v s).status FEATURES_OK) → IsTrue (is_acceptable (write_of v s))
write_keeps_acceptable v s before =
    elim (v == 0) as (λ t. IsTrue (has_bits (if t then reset_of s else record s { status = status_with v s }).status FEATURES_OK) → IsTrue (is_acceptable (if t then reset_of s else record s { status = status_with v s }))) [
      | true ↦ λ h. cc
      | false ↦ λ h. elim (two_cases (has_bits s.status FEATURES_OK)) [ inl stands ↦ before stands | inr none ↦ ready_features_ok v s none h ]
    ]

pub accept_keeps_acceptable : (index word : ℕ) (s : StatusState) → (IsTrue (has_bits s.status FEATURES_OK) → IsTrue (is_acceptable s)) → IsTrue (has_bits (accept_of index word s).status FEATURES_OK) → IsTrue (is_acceptable (accept_of index word s))
accept_keeps_acceptable index word s before =
    elim (two_cases (has_bits s.status FEATURES_OK)) [ inl stands ↦ rw stands (λ h. before stands) | inr none ↦ rw none (λ h. cc) ]
