-- Laws of lines, and of reports with lines before their own.
use Rattle.std.proofs.Common.{◌≡◌, ℕ, List, [], ◌∷◌, ◌++◌, Bool, refl, sym, ◌∙◌, ap, append_assoc, inl, inr}
use Rattle.vt_outside.specs.Text.{IsPrefixOf}
use Rattle.report_out.specs.Answers.{ShowsLines, Written}
use Rattle.report_out.specs.Report.{Report, DoneLine, IsFront, ending_text, line_text, lines_text, lines_trace, text_of, watched_of, with_lines}

-- the texts of lines, and then those of others
pub text_then : {S : Type 0} (traces : Bool) (xs ys : List (DoneLine S)) → lines_text traces (xs ++ ys) ≡ lines_text traces xs ++ lines_text traces ys
text_then traces [] ys = refl
text_then traces (x ∷ xs) ys =
    ap (λ (z : List ℕ). line_text traces x.told.trace x.told.text ++ z) (text_then traces xs ys)
    ∙ sym (append_assoc (line_text traces x.told.trace x.told.text) (lines_text traces xs) (lines_text traces ys))

-- the traces of lines, and then those of others
pub trace_then : {S : Type 0} (xs ys : List (DoneLine S)) → lines_trace (xs ++ ys) ≡ lines_trace xs ++ lines_trace ys
trace_then [] ys = refl
trace_then (x ∷ xs) ys = ap (λ (z : List ℕ). x.told.trace ++ z) (trace_then xs ys) ∙ sym (append_assoc x.told.trace (lines_trace xs) (lines_trace ys))

-- lines stand before a report, and others before them
pub with_lines_then : {S : Type 0} (xs ys : List (DoneLine S)) (r : Report S) → with_lines xs (with_lines ys r) ≡ with_lines (xs ++ ys) r
with_lines_then xs ys r = rw (append_assoc xs ys r.lines) refl

-- the text of a report with lines before its own
pub text_with : {S : Type 0} (traces : Bool) (xs : List (DoneLine S)) (r : Report S) → text_of traces (with_lines xs r) ≡ lines_text traces xs ++ text_of traces r
text_with traces xs r =
    ap (λ (z : List ℕ). z ++ ending_text r.ending) (text_then traces xs r.lines) ∙ append_assoc (lines_text traces xs) (lines_text traces r.lines) (ending_text r.ending)

-- the traces of the first lines are the front of the traces of all
front_trace : {S : Type 0} (xs ys : List (DoneLine S)) → IsFront xs ys → IsPrefixOf (lines_trace xs) (lines_trace ys)
front_trace {S} xs ys (rest, e) = (lines_trace rest, sym (trace_then xs rest) ∙ ap (λ (z : List (DoneLine S)). lines_trace z) e)

-- what was shown is all that a watch is shown of a report, or, where the call stopped, a part of it
pub shown_written : {S : Type 0} (traces : Bool) (status : ℕ) (written text : List ℕ) (r : Report S) → ShowsLines traces status written text r.lines → Written status text (watched_of r)
shown_written {S} traces status written text r h = rw h.traced (
  front_trace h.lines r.lines h.front,
  elim h.all [ inl stopped ↦ inl stopped | inr all ↦ inr (ap (λ (z : List (DoneLine S)). lines_trace z) all) ],
)
