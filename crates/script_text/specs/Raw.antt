use Rattle.std.specs.Prelude.{ℕ, List, [], ◌∷◌, codes}
use Rattle.vt_types.specs.Access.{AccessValue, Load, Store, Put, Get, Zero, Swap, CfgLoad, CfgStore, Ssch, Tsch, Stsch, Msch, Csch, TurnOf, Diag}
use Rattle.vt_types.specs.Limits.{LONGEST_BUFFER}
use Rattle.script_text.specs.Reading.{Reading, gives, ◌>>=◌, one_word, named}
use Rattle.script_text.specs.Fields.{decimal, hexadecimal, hex_bytes, width_in}

-- the words of a raw line: an address and a number of 16 digits, a subchannel's id and a stored value of 8, an offset
-- of 3, a width in bytes, and a function's number
abbrev pub digits16 : Reading ℕ
digits16 = hexadecimal 16

abbrev pub digits8 : Reading ℕ
digits8 = hexadecimal 8

abbrev pub offset : Reading ℕ
offset = hexadecimal 3

abbrev pub width : Reading ℕ
width = one_word width_in

abbrev pub func : Reading ℕ
func = decimal 0 255

abbrev pub load : Reading AccessValue
load = do
  addr ← digits16
  bytes ← width
  gives (Load addr bytes)

abbrev pub store : Reading AccessValue
store = do
  addr ← digits16
  bytes ← width
  value ← digits8
  gives (Store addr bytes value)

abbrev pub cfgload : Reading AccessValue
cfgload = do
  number ← func
  off ← offset
  bytes ← width
  gives (CfgLoad number off bytes)

abbrev pub cfgstore : Reading AccessValue
cfgstore = do
  number ← func
  off ← offset
  bytes ← width
  value ← digits8
  gives (CfgStore number off bytes value)

abbrev pub put : Reading AccessValue
put = do
  addr ← digits16
  bytes ← hex_bytes LONGEST_BUFFER
  gives (Put addr bytes)

abbrev pub get : Reading AccessValue
get = do
  addr ← digits16
  count ← decimal 1 LONGEST_BUFFER
  gives (Get addr count)

abbrev pub zero_range : Reading AccessValue
zero_range = do
  addr ← digits16
  count ← decimal 1 65535
  gives (Zero addr count)

abbrev pub swap : Reading AccessValue
swap = do
  addr ← digits16
  value ← digits16
  gives (Swap addr value)

-- a subchannel, and a block in guest memory
abbrev pub block : Reading (ℕ × ℕ)
block = do
  id ← digits8
  addr ← digits16
  gives (id, addr)

-- an instruction with a block in guest memory, and one without
abbrev pub with_block : (ℕ → ℕ → AccessValue) → Reading AccessValue
with_block instruction = do
  at ← block
  gives (instruction at.0 at.1)

abbrev pub on_subchannel : (ℕ → AccessValue) → Reading AccessValue
on_subchannel instruction = do
  id ← digits8
  gives (instruction id)

abbrev pub diag : Reading AccessValue
diag = do
  code ← digits16
  id ← digits8
  value ← digits16
  cookie ← digits16
  gives (Diag code id value cookie)

-- the accesses by their first words: those on a subchannel, the others that have no bytes of their own, and all of them
abbrev pub channel_names : List (List ℕ × Reading AccessValue)
channel_names =
    (codes "ssch", with_block Ssch)
    ∷ (codes "tsch", with_block Tsch)
    ∷ (codes "stsch", with_block Stsch)
    ∷ (codes "msch", with_block Msch)
    ∷ (codes "csch", on_subchannel Csch)
    ∷ (codes "turn", on_subchannel TurnOf)
    ∷ (codes "diag", diag)
    ∷ []

abbrev pub plain_names : List (List ℕ × Reading AccessValue)
plain_names =
    (codes "load", load)
    ∷ (codes "store", store)
    ∷ (codes "cfgload", cfgload)
    ∷ (codes "cfgstore", cfgstore)
    ∷ (codes "get", get)
    ∷ (codes "zero", zero_range)
    ∷ (codes "swap", swap)
    ∷ channel_names

-- the access whose first word this is
unfoldable pub access_named : List ℕ → Reading AccessValue
access_named word = named ((codes "put", put) ∷ plain_names) word
