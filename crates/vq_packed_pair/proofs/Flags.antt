-- What the flags of a posted buffer's descriptors say.
use Rattle.std.proofs.Common.{◌≡◌, ℕ, ◌+◌, ◌^◌, ◌<◌, Bool, true, false, refl, arith}
use Rattle.vq_common.specs.Descriptor.{flags_of, has_next, is_indirect, is_write}
use Rattle.vq_common.specs.PackedDescriptor.{available_flags, is_available}

-- the flags of the descriptor of a piece, available to a device with this wrap counter
pub record NamesPiece (flags : ℕ) (follows write wrap : Bool) : Type 0 where
  pub next : has_next flags ≡ follows
  pub writes : is_write flags ≡ write
  pub direct : is_indirect flags ≡ false
  pub available : is_available wrap flags ≡ true
  pub low : flags < 2 ^ 16

pub names_piece : (follows write wrap : Bool) → NamesPiece (flags_of follows write + available_flags wrap) follows write wrap
names_piece true true true = record { next = refl; writes = refl; direct = refl; available = refl; low = omega arith }
names_piece true true false = record { next = refl; writes = refl; direct = refl; available = refl; low = omega arith }
names_piece true false true = record { next = refl; writes = refl; direct = refl; available = refl; low = omega arith }
names_piece true false false = record { next = refl; writes = refl; direct = refl; available = refl; low = omega arith }
names_piece false true true = record { next = refl; writes = refl; direct = refl; available = refl; low = omega arith }
names_piece false true false = record { next = refl; writes = refl; direct = refl; available = refl; low = omega arith }
names_piece false false true = record { next = refl; writes = refl; direct = refl; available = refl; low = omega arith }
names_piece false false false = record { next = refl; writes = refl; direct = refl; available = refl; low = omega arith }

-- the flags of a descriptor that names a table
pub record NamesTable (flags : ℕ) (wrap : Bool) : Type 0 where
  pub alone : has_next flags ≡ false
  pub indirect : is_indirect flags ≡ true
  pub available : is_available wrap flags ≡ true
  pub low : flags < 2 ^ 16

pub names_table : (wrap : Bool) → NamesTable (4 + available_flags wrap) wrap
names_table true = record { alone = refl; indirect = refl; available = refl; low = omega arith }
names_table false = record { alone = refl; indirect = refl; available = refl; low = omega arith }

-- the flags of a descriptor in a table
pub record IsTableFlags (flags : ℕ) (write : Bool) : Type 0 where
  pub writes : is_write flags ≡ write
  pub low : flags < 2 ^ 16

pub table_flags : (write : Bool) → IsTableFlags (flags_of false write) write
table_flags true = record { writes = refl; low = omega arith }
table_flags false = record { writes = refl; low = omega arith }
