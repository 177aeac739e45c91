use Rattle.std.specs.Prelude.{ℕ, ◌==◌, List, [], ◌∷◌, ◌++◌, length, codes, if◌then◌else◌}
use Rattle.std.specs.Fmt.{decimal}
use Rattle.std.specs.List.{list_all}
use Rattle.report_text.specs.Words.{hex, word}

-- how many frames were sent
abbrev pub frames_line : ℕ → List ℕ
frames_line count = codes "frames" ++ word (decimal count) ++ codes "\n"

-- a sent frame
abbrev pub frame_line : List ℕ → List ℕ
frame_line frame = codes "frame" ++ word (hex frame) ++ codes "\n"

-- a line for each sent frame
abbrev pub frame_lines : List (List ℕ) → List ℕ
frame_lines [] = []
frame_lines (f ∷ fs) = frame_line f ++ frame_lines fs

-- the sent frames, after their number
abbrev pub frames_text : List (List ℕ) → List ℕ
frames_text sent = frames_line (length sent) ++ frame_lines sent

-- the console bytes
abbrev pub console_line : List ℕ → List ℕ
console_line console = codes "console" ++ word (hex console) ++ codes "\n"

-- how many sectors the disk has
abbrev pub disk_line : ℕ → List ℕ
disk_line count = codes "disk" ++ word (decimal count) ++ codes "\n"

-- a sector
abbrev pub sector_line : ℕ → List ℕ → List ℕ
sector_line n bytes = codes "sector" ++ word (decimal n) ++ word (hex bytes) ++ codes "\n"

-- its line, where it isn't all zeros
abbrev pub sector_text : ℕ → List ℕ → List ℕ
sector_text n bytes = if list_all (λ b. b == 0) bytes then [] else sector_line n bytes

-- a sector that can't be read
abbrev pub unreadable_line : ℕ → List ℕ
unreadable_line n = codes "sector" ++ word (decimal n) ++ codes " unreadable\n"

-- the end of a report
abbrev pub end_line : List ℕ
end_line = codes "end\n"

-- in place of the end parts: the number of the first line that is not in the grammar
abbrev pub fault_line : ℕ → List ℕ
fault_line line = codes "fault" ++ word (decimal line) ++ codes "\n"

-- in place of the end parts: the script has too many bytes
abbrev pub too_long_line : List ℕ
too_long_line = codes "too long\n"
