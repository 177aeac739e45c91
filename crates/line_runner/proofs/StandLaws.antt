-- The lines of a report stand in its input.
use Rattle.std.proofs.Common.{◌≡◌, ℕ, zero, suc, ◌+◌, List, [], ◌∷◌, ◌++◌, length, Bool, true, false, Option, Some, None, refl, sym, ◌∙◌, ap, append_assoc, arith}
use Rattle.std.proofs.lemmas.List.{length-append}
use Rattle.std.specs.Prelude.{◌==◌, if◌then◌else◌}
use Rattle.script_text.specs.Lines.{Lines, NoMore, TooMany, Line, lines_after, lines_of}
use Rattle.vt_types.specs.Limits.{LONGEST_SCRIPT}
use Rattle.report_out.specs.Report.{Report}
use Rattle.line_runner.specs.Script.{Did, Script, line_report, report_of, reporting}
use Rattle.line_runner.specs.Stands.{StandFrom}

-- a line stands where it begins, and the lines behind it where they do
stand_line : {S : Type 0} (script : Script S) (image : List (List ℕ)) (does : Option (ℕ → S → Did S)) (input line before behind : List ℕ) (at k : ℕ) (state : S) (rest : S → Report S)
    → script.line line ≡ does → input ≡ before ++ (line ++ behind) → length before ≡ at
    → ((next : S) → StandFrom script input (at + length line + 1) (k + 1) next (rest next).lines)
    → StandFrom script input at k state (line_report image does (at + length line) (k + 1) state rest).lines
stand_line script image None input line before behind at k state rest is stands begins others = tt
stand_line script image (Some does) input line before behind at k state rest is stands begins others =
    (before, line, behind, stands, begins, refl, rw is refl, others (does (k + 1) state).state)

-- one byte more of a line was seen
seen : (part : List ℕ) (b : ℕ) (bytes : List ℕ) → part ++ b ∷ bytes ≡ (part ++ b ∷ []) ++ bytes
seen part b bytes = sym (append_assoc part (b ∷ []) bytes)

-- the next line begins behind a line and its line feed
passed : (before part : List ℕ) (b at : ℕ) → length before ≡ at → length (before ++ (part ++ b ∷ [])) ≡ at + length part + 1
passed before part b at begins = rw (length-append before (part ++ b ∷ []), length-append part (b ∷ []), begins) (omega arith)

-- the lines of bytes behind others, of whose first line a part has been seen
stand_after : {S : Type 0} (script : Script S) (image : List (List ℕ)) (outcomes : List Bool) (input : List ℕ) (most : ℕ) (part bytes before : List ℕ) (at k : ℕ) (state : S)
    → input ≡ before ++ (part ++ bytes) → length before ≡ at → StandFrom script input at k state (report_of script image outcomes (lines_after most part bytes) at k state).lines
stand_after script image outcomes input most [] [] before at k state stands begins = tt
stand_after script image outcomes input most (b ∷ part) [] before at k state stands begins =
    let line : List ℕ = b ∷ part in
    stand_line script image (script.line line) input line before [] at k state (λ next. report_of script image outcomes NoMore (at + length line + 1) (k + 1) next) refl stands begins
    (λ next. tt)
stand_after script image outcomes input zero part (b ∷ bytes) before at k state stands begins = tt
stand_after {S} script image outcomes input (suc most) part (b ∷ bytes) before at k state stands begins =
    elim (b == 10) as (λ feed. StandFrom script input at k state (report_of script image outcomes (if feed then Line part (lines_after most [] bytes) else lines_after most (part ++ b ∷ []) bytes) at k state).lines) [
      | true ↦
          stand_line script image (script.line part) input part before (b ∷ bytes) at k state (λ next. report_of script image outcomes (lines_after most [] bytes) (at + length part + 1) (k + 1) next)
          refl stands begins (
          λ next. stand_after script image outcomes input most [] bytes (before ++ (part ++ b ∷ [])) (at + length part + 1) (k + 1) next
          (stands ∙ ap (λ z. before ++ z) (seen part b bytes) ∙ sym (append_assoc before (part ++ b ∷ []) bytes)) (passed before part b at begins)
          )
      | false ↦ stand_after script image outcomes input most (part ++ b ∷ []) bytes before at k state (stands ∙ ap (λ z. before ++ z) (seen part b bytes)) begins
    ]

pub stand : {S : Type 0} (script : Script S) (input : List ℕ) (sectors : List (List ℕ)) (read_only : Bool) (outcomes : List Bool)
    → StandFrom script input 0 0 (script.start sectors read_only) (reporting script input sectors read_only outcomes).lines
stand script input sectors read_only outcomes = stand_after script sectors outcomes input LONGEST_SCRIPT [] input [] 0 0 (script.start sectors read_only) refl refl
