use Rattle.std.specs.Prelude.{◌≡◌, ℕ, ◌+◌, List, [], ◌∷◌, ◌++◌, length, Option, Some, None}
use Rattle.report_out.specs.Report.{DoneLine}
use Rattle.line_runner.specs.Script.{Did, Script}

-- what a line did, the k-th of its script, from a state
abbrev pub IsDone : {S : Type 0} → Option (ℕ → S → Did S) → ℕ → S → DoneLine S → Type 0
IsDone None k state line = ⊥
IsDone (Some does) k state line = does k state ≡ record { told = line.told; state = line.state }

-- lines of an input were done from this byte on, behind the first k and from a state: the bytes of each stand before its end, and
-- the next one begins behind its line feed, from the state that it left
abbrev pub StandFrom : {S : Type 0} → Script S → List ℕ → ℕ → ℕ → S → List (DoneLine S) → Type 0
StandFrom script input at k state [] = Unit {0}
StandFrom script input at k state (line ∷ lines) =
    (before bytes behind : List ℕ) × (input ≡ before ++ (bytes ++ behind)) × (length before ≡ at) × (at + length bytes ≡ line.end)
    × IsDone (script.line bytes) (k + 1) state line × StandFrom script input (line.end + 1) (k + 1) line.state lines
