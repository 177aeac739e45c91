use Rattle.std.specs.Prelude.{ℕ, ◌-◌, List, [], ◌∷◌, ◌++◌, length, replicate, false, codes}
use Rattle.std.specs.Fmt.{decimal, digits}
use Rattle.byteorder.specs.Endian.{big_bytes}
use Rattle.hex.specs.Hex.{encode_lower}

-- bytes in hexadecimal, two lower-case digits each; `-` for none
abbrev pub hex : List ℕ → List ℕ
hex [] = codes "-"
hex (b ∷ bytes) = encode_lower (b ∷ bytes)

-- the low bytes of a number in hexadecimal, two digits each
abbrev pub low_digits : ℕ → ℕ → List ℕ
low_digits bytes n = encode_lower (big_bytes bytes n)

-- the digit 0
abbrev pub zero_digit : ℕ
zero_digit = 48

-- a number in hexadecimal, with zeros in front where it needs fewer digits than `least`
abbrev pub hex_number : ℕ → ℕ → List ℕ
hex_number least n = replicate (least - length (digits 16 false n)) zero_digit ++ digits 16 false n

-- a word and the space before it
abbrev pub word : List ℕ → List ℕ
word text = codes " " ++ text

-- numbers, each after a space
abbrev pub numbers : List ℕ → List ℕ
numbers [] = []
numbers (n ∷ ns) = word (decimal n) ++ numbers ns
