use Rattle.std.specs.Prelude.{ℕ, List, [], ◌++◌, take, drop, Bool}
use Rattle.report_text.specs.EndParts.{frames_text, console_line}
use Rattle.report_out.specs.EndText.{sector_lines}

-- the end parts in the pieces in which they are sent

-- the end parts up to the disk, where no frame was sent
abbrev pub console_text : List ℕ → List ℕ
console_text console = frames_text [] ++ console_line console

-- what an image has for its sector n, where the reading of it takes the first of some outcomes
abbrev pub line_of_sector : ℕ → List (List ℕ) → List Bool → List ℕ
line_of_sector n image outcomes = sector_lines n (take 1 (drop n image)) outcomes

-- and for those below n
abbrev pub lines_below : ℕ → List (List ℕ) → List Bool → List ℕ
lines_below n image outcomes = sector_lines 0 (take n image) outcomes
