use Rattle.std.specs.Prelude.{ℕ}

-- the most bytes of a line without its line feed (our own)
abbrev pub LONGEST_LINE : ℕ
LONGEST_LINE = 1048576

-- the most digits of a decimal number, zeros in front among them (our own)
abbrev pub MOST_DECIMAL_DIGITS : ℕ
MOST_DECIMAL_DIGITS = 20
