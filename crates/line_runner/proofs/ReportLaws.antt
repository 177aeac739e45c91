-- Laws of reports, and of what was sent and shown of them.
use Rattle.std.proofs.Common.{◌≡◌, ℕ, List, [], ◌∷◌, ◌++◌, Bool, refl, sym, ◌∙◌, ap, append_assoc, append-nil, inl, inr}
use Rattle.vt_outside.proofs.TextLaws.{prefix_behind, prefix_none}
use Rattle.report_out.specs.Report.{Report, DoneLine, Told, IsFront, ending_text, line_text, lines_text, lines_trace, text_of, with_lines}
use Rattle.report_out.specs.Answers.{WritesShown}
use Rattle.report_out.proofs.LineLaws.{text_then, text_with, trace_then}
use Rattle.line_runner.specs.Lines.{Begins, HasEnded}

-- the first of the lines behind others
front_behind : {S : Type 0} (xs ys zs : List (DoneLine S)) → IsFront ys zs → IsFront (xs ++ ys) (xs ++ zs)
front_behind {S} xs ys zs (rest, e) = (rest, append_assoc xs ys rest ∙ ap (λ (z : List (DoneLine S)). xs ++ z) e)

-- the text of a report that has lines before another one
pub text_behind : {S : Type 0} (traces : Bool) (xs : List (DoneLine S)) (r s : Report S) → r ≡ with_lines xs s → text_of traces r ≡ lines_text traces xs ++ text_of traces s
text_behind {S} traces xs r s e = ap (λ (x : Report S). text_of traces x) e ∙ text_with traces xs s

-- what was written of the first of some lines, behind what others print
writes_behind : {S : Type 0} (traces : Bool) (xs ys zs : List (DoneLine S)) (part : List ℕ)
    → WritesShown traces part ys zs → WritesShown traces (lines_text traces xs ++ part) (xs ++ ys) (xs ++ zs)
writes_behind {S} traces xs ys zs part (inl front) = inl (rw (text_then traces xs ys) (prefix_behind (lines_text traces xs) part (lines_text traces ys) front))
writes_behind {S} traces xs ys zs part (inr all) = inr (ap (λ (z : List (DoneLine S)). xs ++ z) all)

-- a report begins with the lines before another one, and then as this one does
pub begins_behind : {S : Type 0} (traces : Bool) (xs : List (DoneLine S)) (r s : Report S) (sent shown part more : List ℕ)
    → sent ≡ lines_text traces xs → shown ≡ lines_trace xs → r ≡ with_lines xs s → Begins traces s part more → Begins traces r (sent ++ part) (shown ++ more)
begins_behind {S} traces xs r s sent shown part more text trace e h = record {
  text = rw (text, text_behind traces xs r s e) (prefix_behind (lines_text traces xs) part (text_of traces s) h.text);
  lines = xs ++ h.lines;
  front = rw e (front_behind xs h.lines s.lines h.front);
  traced = rw (trace, h.traced) (sym (trace_then xs h.lines));
  first = rw (text, e) (writes_behind traces xs h.lines s.lines part h.first);
}

-- each report begins with nothing
pub begins_none : {S : Type 0} (traces : Bool) (r : Report S) → Begins traces r [] []
begins_none traces r = record { text = prefix_none (text_of traces r); lines = []; front = (r.lines, refl); traced = refl; first = inl (prefix_none []) }

-- and with its first line
pub begins_line : {S : Type 0} (traces : Bool) (end : ℕ) (told : Told) (next : S) (r s : Report S) (trace text : List ℕ)
    → told.trace ≡ trace → told.text ≡ text → r ≡ with_lines (record { end = end; told = told; state = next } ∷ []) s → Begins traces r (line_text traces trace text) trace
begins_line {S} traces end told next r s trace text is_trace is_text e =
    let line : DoneLine S = record { end = end; told = told; state = next } in
    record {
      text = rw e (rw (← is_trace, ← is_text) (text_of traces s, sym (append_assoc (line_text traces told.trace told.text) (lines_text traces s.lines) (ending_text s.ending))));
      lines = line ∷ [];
      front = (s.lines, ap (λ (x : Report S). x.lines) (sym e));
      traced = rw (append-nil told.trace) (sym is_trace);
      first = inl (rw (← is_trace, ← is_text) ([], refl));
    }

-- and, where no line is left, with its last text
pub begins_ended : {S : Type 0} (traces : Bool) (r : Report S) (fault last : List ℕ) (status : ℕ) → HasEnded r (fault ++ last) status → Begins traces r fault []
begins_ended traces r fault last status h = record {
  text = (last, sym (rw (h.lines, h.text) refl));
  lines = [];
  front = (r.lines, refl);
  traced = refl;
  first = inr (sym h.lines);
}
