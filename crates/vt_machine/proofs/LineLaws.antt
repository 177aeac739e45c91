-- The lines of what happens.
use Rattle.std.proofs.Common.{◌≡◌, ℕ, ◌+◌, ◌-◌, ◌≤◌, List, [], ◌∷◌, ◌++◌, length, refl, sym, ap, ◌∙◌, arith, append_assoc, append-nil, length-append}
use Rattle.std.proofs.lemmas.Bool.Decides.{nat_tests}
use Rattle.report_text.specs.Text.{LINE_SPARE}
use Rattle.vt_machine.specs.Lines.{LinesView, joined}
use Rattle.vt_machine.specs.Machine.{MachineView, happening_line, happening_lines, joined_lines, lines_of}
use Rattle.vt_machine.specs.Trace.{Happening}

-- the lines of what happened join, and then those of more
pub joined_lines-append : (lines : LinesView) (xs ys : List Happening) → joined_lines lines (xs ++ ys) ≡ joined_lines (joined_lines lines xs) ys
joined_lines-append lines [] ys = refl
joined_lines-append lines (h ∷ xs) ys = joined_lines-append (joined lines (happening_line h)) xs ys

-- a line joins where the longest one fits
line_joins : (lines : LinesView) (line : List ℕ) → LINE_SPARE ≤ lines.spare → joined lines line ≡ record { bytes = lines.bytes ++ line; spare = lines.spare - length line }
line_joins lines line fits = grind (arith, nat_tests)

none_less : (n : ℕ) → n - 0 ≡ n
none_less n = omega arith

less_both : (n x y : ℕ) → n - x - y ≡ n - (x + y)
less_both n x y = omega arith

-- lines join where all of them fit, and the longest one behind them
all_join : (lines : LinesView) (hs : List Happening) → length (happening_lines hs) + LINE_SPARE ≤ lines.spare
    → joined_lines lines hs ≡ record { bytes = lines.bytes ++ happening_lines hs; spare = lines.spare - length (happening_lines hs) }
all_join lines [] fits = rw (append-nil lines.bytes, none_less lines.spare) refl
all_join lines (h ∷ hs) fits =
    let long : length (happening_line h ++ happening_lines hs) ≡ length (happening_line h) + length (happening_lines hs) = length-append (happening_line h) (happening_lines hs) in
    let first = line_joins lines (happening_line h) (omega (arith, long, fits)) in
    let next : LinesView = record { bytes = lines.bytes ++ happening_line h; spare = lines.spare - length (happening_line h) } in
    ap (λ l. joined_lines l hs) first ∙ all_join next hs (omega (arith, long, fits))
    ∙ rw (long, append_assoc lines.bytes (happening_line h) (happening_lines hs), less_both lines.spare (length (happening_line h)) (length (happening_lines hs))) refl

-- so do those that join a machine's
pub lines_join : {R : Type 0} (old new : MachineView R) (hs : List Happening) → lines_of new ≡ joined_lines (lines_of old) hs → length (happening_lines hs) + LINE_SPARE ≤ old.line_spare
    → (new.lines ≡ old.lines ++ happening_lines hs) × (old.line_spare ≤ new.line_spare + length (happening_lines hs))
lines_join old new hs same fits =
    let e : lines_of new ≡ record { bytes = old.lines ++ happening_lines hs; spare = old.line_spare - length (happening_lines hs) } = same ∙ all_join (lines_of old) hs fits in
    (ap (λ (l : LinesView). l.bytes) e, let s : new.line_spare ≡ old.line_spare - length (happening_lines hs) = ap (λ (l : LinesView). l.spare) e in omega (arith, s))

-- the lines of what happened, and of more
pub happening_lines-append : (xs ys : List Happening) → happening_lines (xs ++ ys) ≡ happening_lines xs ++ happening_lines ys
happening_lines-append [] ys = refl
happening_lines-append (h ∷ xs) ys =
    ap (λ z. happening_line h ++ z) (happening_lines-append xs ys) ∙ sym (append_assoc (happening_line h) (happening_lines xs) (happening_lines ys))

-- how long the lines of what happened, and of more, are together
pub length-happening_lines : (xs ys : List Happening) → length (happening_lines (xs ++ ys)) ≡ length (happening_lines xs) + length (happening_lines ys)
length-happening_lines xs ys = ap length (happening_lines-append xs ys) ∙ length-append (happening_lines xs) (happening_lines ys)

-- and of one thing
pub length-happening_line : (h : Happening) → length (happening_lines (h ∷ [])) ≡ length (happening_line h)
length-happening_line h = ap length (append-nil (happening_line h))
