use Rattle.std.specs.Prelude.{ℕ, ◌+◌, ◌*◌, ◌-◌, ◌^◌, ◌==◌, ◌&&◌, nat_le, nat_lt, List, [], ◌∷◌, length, Bool, true, false, Option, Some, None, Result, Ok, Err, if◌then◌else◌, codes}
use Rattle.std.specs.List.{list_all, fold}
use Rattle.std.specs.Char.{digit_value}
use Rattle.hex.specs.Hex.{decode_of}
use Rattle.hex.specs.declared.error.FromHexError.{FromHexError}
use Rattle.vt_types.specs.Access.{is_width}
use Rattle.vt_types.specs.declared.device.Dev.{Dev}
use Rattle.vt_types.specs.declared.device.Dev.TheVariants.{Blk, Net, Con}
use Rattle.vt_types.specs.declared.operation.Step.{Step}
use Rattle.vt_types.specs.declared.operation.Step.TheVariants as step
use Rattle.vt_types.specs.declared.operation.Field.{Field}
use Rattle.vt_types.specs.declared.operation.Field.TheVariants as field
use Rattle.script_text.specs.Limits.{MOST_DECIMAL_DIGITS}
use Rattle.script_text.specs.Reading.{one_of, one_word}

-- each byte is a digit in a base; letters are digits in either case
abbrev pub are_digits : ℕ → List ℕ → Bool
are_digits base word = list_all (λ b. nat_lt (digit_value b) base) word

-- the number that digits spell in a base, the highest digit first
abbrev pub value_of_digits : ℕ → List ℕ → ℕ
value_of_digits base word = fold (λ n b. base * n + digit_value b) 0 word

-- a number from `least` to `most`, in 1 to `digits` digits, zeros in front among them
abbrev pub number_in : (base digits least most : ℕ) → List ℕ → Option ℕ
number_in base digits least most word =
    if nat_le 1 (length word) && nat_le (length word) digits && are_digits base word
    && nat_le least (value_of_digits base word) && nat_le (value_of_digits base word) most
    then Some (value_of_digits base word)
    else None

-- a decimal number
abbrev pub decimal_in : (least most : ℕ) → List ℕ → Option ℕ
decimal_in least most word = number_in 10 MOST_DECIMAL_DIGITS least most word

-- a hexadecimal number of at most so many digits: they bound it already
abbrev pub hexadecimal_in : ℕ → List ℕ → Option ℕ
hexadecimal_in digits word = number_in 16 digits 0 (16 ^ digits - 1) word

-- features: a hexadecimal number of exactly 16 digits
abbrev pub features_in : List ℕ → Option ℕ
features_in word = if length word == 16 then hexadecimal_in 16 word else None

-- a width of an access, in bytes
abbrev pub if_width : Option ℕ → Option ℕ
if_width None = None
if_width (Some n) = if is_width n then Some n else None

abbrev pub width_in : List ℕ → Option ℕ
width_in word = if_width (decimal_in 0 255 word)

-- from 1 to `most` bytes that were decoded
abbrev pub if_few : ℕ → Result (List ℕ) FromHexError → Option (List ℕ)
if_few most (Ok bytes) = if nat_le 1 (length bytes) && nat_le (length bytes) most then Some bytes else None
if_few most (Err e) = None

-- from 1 to `most` bytes in hexadecimal, two digits each
abbrev pub bytes_in : ℕ → List ℕ → Option (List ℕ)
bytes_in most word = if_few most (decode_of word)

-- a device
abbrev pub device_in : List ℕ → Option Dev
device_in word = one_of ((codes "blk", Blk) ∷ (codes "net", Net) ∷ (codes "con", Con) ∷ []) word

-- a step of the bring-up
abbrev pub step_in : List ℕ → Option Step
step_in word =
    one_of ((codes "ack", step.Ack) ∷ (codes "driver", step.Driver) ∷ (codes "featok", step.FeatOk) ∷ (codes "drvok", step.DrvOk) ∷ []) word

-- a field of a device's configuration that can be read
abbrev pub read_field_in : Dev → List ℕ → Option Field
read_field_in Blk word =
    one_of ((codes "capacity", field.Capacity) ∷ (codes "seg_max", field.SegMax) ∷ (codes "blk_size", field.BlkSize) ∷ (codes "writeback", field.Writeback) ∷ []) word
read_field_in Net word = one_of ((codes "mac", field.Mac) ∷ (codes "status", field.NetStatus) ∷ []) word
read_field_in Con word = one_of ((codes "cols", field.Cols) ∷ (codes "rows", field.Rows) ∷ (codes "ports", field.Ports) ∷ []) word

-- and one that can be written
abbrev pub written_field_in : Dev → List ℕ → Option Field
written_field_in Blk word = one_of ((codes "writeback", field.Writeback) ∷ []) word
written_field_in Net word = None
written_field_in Con word = one_of ((codes "emerg", field.Emerg) ∷ []) word

-- a network link that is up or down
abbrev pub link_in : List ℕ → Option Bool
link_in word = one_of ((codes "up", true) ∷ (codes "down", false) ∷ []) word

-- the words of a line that spell these
abbrev pub device : List (List ℕ) → Option (Dev × List (List ℕ))
device words = one_word device_in words

abbrev pub decimal : (least most : ℕ) → List (List ℕ) → Option (ℕ × List (List ℕ))
decimal least most words = one_word (decimal_in least most) words

-- queues, tags and sizes have 16 bits
abbrev pub number16 : List (List ℕ) → Option (ℕ × List (List ℕ))
number16 words = decimal 0 65535 words

abbrev pub hexadecimal : ℕ → List (List ℕ) → Option (ℕ × List (List ℕ))
hexadecimal digits words = one_word (hexadecimal_in digits) words

abbrev pub hex_bytes : ℕ → List (List ℕ) → Option (List ℕ × List (List ℕ))
hex_bytes most words = one_word (bytes_in most) words

-- a number with one more digit, where that is a number of 64 bits
abbrev pub with_digit : (base n byte : ℕ) → Option ℕ
with_digit base n byte = if nat_lt (digit_value byte) base && nat_lt (base * n + digit_value byte) (2 ^ 64) then Some (base * n + digit_value byte) else None
