use Rattle.std.specs.Prelude.{ℕ, ◌+◌, List, [], ◌∷◌, ◌++◌, length, drop, Bool, true, if◌then◌else◌}
use Rattle.report_text.specs.EndParts.{frames_text, console_line, disk_line, sector_text, unreadable_line, end_line}

-- what is printed for a sector that was read, or not
abbrev pub reading_text : ℕ → List ℕ → Bool → List ℕ
reading_text n bytes read = if read then sector_text n bytes else unreadable_line n

-- the first of some outcomes; where there is none the reading succeeds
abbrev pub first_outcome : List Bool → Bool
first_outcome [] = true
first_outcome (b ∷ bs) = b

-- the lines of sectors that are numbered from n on; each reading takes the first of the outcomes
abbrev pub sector_lines : ℕ → List (List ℕ) → List Bool → List ℕ
sector_lines n [] outcomes = []
sector_lines n (s ∷ ss) outcomes = reading_text n s (first_outcome outcomes) ++ sector_lines (n + 1) ss (drop 1 outcomes)

-- the disk, and the end
abbrev pub disk_text : List (List ℕ) → List Bool → List ℕ
disk_text sectors outcomes = disk_line (length sectors) ++ sector_lines 0 sectors outcomes ++ end_line

-- the end parts: the sent frames, the console bytes, the disk
abbrev pub end_text : List (List ℕ) → List ℕ → List (List ℕ) → List Bool → List ℕ
end_text sent console sectors outcomes = frames_text sent ++ console_line console ++ disk_text sectors outcomes
