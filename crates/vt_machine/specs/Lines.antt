use Rattle.std.specs.Prelude.{ℕ, ◌-◌, ◌^◌, nat_lt, List, ◌++◌, length, if◌then◌else◌}
use Rattle.report_text.specs.Text.{LINE_SPARE}

-- lines, and for how many more bytes of them there are spare ones
pub record LinesView : Type 0 where
  pub bytes : List ℕ
  pub spare : ℕ

-- lines with one more at their end, which is left out where fewer bytes are spare than the longest one has
abbrev pub joined : LinesView → List ℕ → LinesView
joined lines line = if nat_lt lines.spare LINE_SPARE then lines else record { bytes = lines.bytes ++ line; spare = lines.spare - length line }

-- no lines of the accesses of an operation are longer (our own)
abbrev pub LONGEST_TRACE : ℕ
LONGEST_TRACE = 2 ^ 19
