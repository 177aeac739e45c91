use Rattle.std.specs.Prelude.{ℕ, ◌+◌, ◌*◌, ◌/◌, ◌%◌, ◌^◌, ◌==◌, ◌&&◌, Bool, if◌then◌else◌}
use Rattle.std.specs.Int.RustNames.{bit_and, bit_or}
use Rattle.vt_types.specs.Features.{VERSION_1}
use Rattle.vt_types.specs.Status.{ACKNOWLEDGE, DRIVER, DRIVER_OK, FEATURES_OK, DEVICE_NEEDS_RESET, FAILED}

-- the status machine of a device (VIRTIO 1.2, 2.1 and 2.2): the features that it offers, those that the driver accepted,
-- and the status byte
pub record StatusState : Type 0 where
  pub offered : ℕ
  pub accepted : ℕ
  pub status : ℕ

-- a number has all of these bits
abbrev pub has_bits : ℕ → ℕ → Bool
has_bits n bits = bit_and n bits == bits

-- the accepted features are among the offered ones, and VERSION_1 is one of them
abbrev pub is_acceptable : StatusState → Bool
is_acceptable s = has_bits s.offered s.accepted && has_bits s.accepted VERSION_1

-- a bit is added where the write asks for it and it may stand
abbrev pub add_bit : ℕ → ℕ → Bool → ℕ → ℕ
add_bit status v may bit = if has_bits v bit && may then bit_or status bit else status

-- the status after a write of v that isn't 0: FEATURES_OK only for acceptable features, DRIVER_OK only where FEATURES_OK
-- stands; no bit is cleared, and DEVICE_NEEDS_RESET is never added (which set is acceptable is our own)
abbrev pub status_with : ℕ → StatusState → ℕ
status_with v s =
    let plain = bit_or s.status (bit_and v (ACKNOWLEDGE + DRIVER + FAILED)) in
    let ready = add_bit plain v (is_acceptable s) FEATURES_OK in
    add_bit ready v (has_bits ready FEATURES_OK) DRIVER_OK

-- after a reset
abbrev pub reset_of : StatusState → StatusState
reset_of s = record { offered = s.offered; accepted = 0; status = 0 }

-- a write of the status: 0 resets
abbrev pub write_of : ℕ → StatusState → StatusState
write_of v s = if v == 0 then reset_of s else record s { status = status_with v s }

-- a word of 32 bits of a feature set, the low one first; 0 past the second
abbrev pub feature_word : ℕ → ℕ → ℕ
feature_word features index = if index == 0 then features % 2 ^ 32 else (if index == 1 then features / 2 ^ 32 % 2 ^ 32 else 0)

-- a feature set with another word
abbrev pub with_word : ℕ → ℕ → ℕ → ℕ
with_word features index word =
    if index == 0 then features / 2 ^ 32 * 2 ^ 32 + word else (if index == 1 then features % 2 ^ 32 + word * 2 ^ 32 else features)

-- the driver accepts a word of features: nothing changes once FEATURES_OK stands
abbrev pub accept_of : ℕ → ℕ → StatusState → StatusState
accept_of index word s = if has_bits s.status FEATURES_OK then s else record s { accepted = with_word s.accepted index word }

-- the device needs a reset
abbrev pub needs_reset_of : StatusState → StatusState
needs_reset_of s = record s { status = bit_or s.status DEVICE_NEEDS_RESET }
