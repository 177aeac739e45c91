-- Laws of the bytes that a reader of lines takes from its source.
use Rattle.std.proofs.Common.{◌≡◌, ℕ, zero, suc, ◌+◌, ◌≤◌, Bool, true, false, List, [], ◌∷◌, ◌++◌, length, drop, Option, Some, None, Result, Ok, Err, refl, sym, ap, ◌∙◌, arith, length-append, length-drop}
use Rattle.std.specs.Prelude.{◌==◌, if◌then◌else◌}
use Rattle.std.proofs.Math.Seq.{drop-append_seam}
use Rattle.std.proofs.lemmas.Bool.{eqb-true}
use Rattle.std.proofs.lemmas.List.{drop-drop, nil_from_length}
use Rattle.script_text.specs.declared.reader.NextFault.{NextFault}
use Rattle.script_text.specs.declared.reader.NextFault.TheVariants.{Read, TooLong, Long, Memory}
use Rattle.vt_types.specs.Limits.{LONGEST_SCRIPT}
use Rattle.script_text.specs.Lines.{NoMore, Line, ReaderView, lines_after, bytes_taken, NextIs, Takes, KnowsEnd}
use Rattle.script_text.specs.Reader.{with_bytes, behind_line, AnswersLine, AnswersRest, Gave}

-- calls in a row take what they take one after another
pub takes_then : (a b c : Option (List ℕ)) (old mid new : ReaderView) → Takes a b old mid → Takes b c mid new → Takes a c old new
takes_then a b c old mid new h k = record {
  front = λ left told.
      let (n, e, counted) = h.front left told in
      let (m, e2, counted2) = k.front (drop n left) e in
      (n + m, e2 ∙ ap (λ z. Some z) (drop-drop m n left), omega (arith, counted, counted2));
}

-- a reader that had taken nothing takes the first byte that is too many at most
pub takes_at_most : (before after : Option (List ℕ)) (start now : ReaderView) (left : List ℕ) → Takes before after start now → bytes_taken start ≡ 0 → bytes_taken now ≤ LONGEST_SCRIPT + 1
    → before ≡ Some left → (n : ℕ) × (n ≤ LONGEST_SCRIPT + 1) × (after ≡ Some (drop n left))
takes_at_most before after start now left h none within told =
    let (n, e, counted) = h.front left told in
    (n, omega (arith, counted, none, within), e)

-- a reader with as many bytes took no more
pub takes_kept : (a b : Option (List ℕ)) (old now new : ReaderView) → Takes a b old now → bytes_taken new ≡ bytes_taken now → Takes a b old new
takes_kept a b old now new h same = record {
  front = λ left told.
      let (n, e, counted) = h.front left told in
      (n, e, counted ∙ sym same);
}

-- a line that is answered was held
behind_kept : (now : ReaderView) (len taken : ℕ) → taken ≤ length now.held → bytes_taken (behind_line len taken now) ≡ bytes_taken now
behind_kept now len taken within = omega (arith, length-drop taken now.held)

pub line_kept : (r : Result (Option ℕ) NextFault) (now new : ReaderView) (len taken : ℕ) → taken ≤ length now.held → AnswersLine len taken r now new → bytes_taken new ≡ bytes_taken now
line_kept (Ok (Some n)) now new len taken within h = ap bytes_taken h.behind ∙ behind_kept now len taken within
line_kept (Ok None) now new len taken within h = absurd h
line_kept (Err Read) now new len taken within h = absurd h
line_kept (Err Memory) now new len taken within h = absurd h
line_kept (Err TooLong) now new len taken within h = ap bytes_taken h.1
line_kept (Err Long) now new len taken within h = ap bytes_taken h.2

pub rest_kept : (r : Result (Option ℕ) NextFault) (now new : ReaderView) → AnswersRest r now new → bytes_taken new ≡ bytes_taken now
rest_kept (Ok (Some n)) now new h = ap bytes_taken (h.1).behind ∙ behind_kept now (length now.held) (length now.held) (omega arith)
rest_kept (Ok None) now new h = ap bytes_taken h.1
rest_kept (Err Read) now new h = absurd h
rest_kept (Err Memory) now new h = absurd h
rest_kept (Err TooLong) now new h = ap bytes_taken h.1
rest_kept (Err Long) now new h = ap bytes_taken h.2

-- bytes that came were taken
pub takes_more : (came : List ℕ) (b c : Option (List ℕ)) (now : ReaderView) → Gave came b c → Takes b c now (with_bytes came now)
takes_more came None c now h = record { front = λ left told. absurd cc }
takes_more came (Some x) None now h = absurd h
takes_more came (Some x) (Some y) now h = record {
  front = λ left told.
      let front : left ≡ came ++ y = let e : x ≡ left = cc in sym e ∙ h.0 in
      (length came, ap (λ z. Some z) (sym (ap (drop (length came)) front ∙ drop-append_seam came y)), omega (arith, length-append now.held came));
}

-- where none came, nothing is left
pub knows_more : (came : List ℕ) (b c : Option (List ℕ)) (now : ReaderView) → Gave came b c → KnowsEnd c (with_bytes came now)
knows_more came b None now h = record { nothing = λ end left told. absurd cc }
knows_more came None (Some y) now h = absurd h
knows_more came (Some x) (Some y) now h = record {
  nothing = λ end left told.
      let none = nil_from_length came (eqb-true (length came) 0 end) in
      let e : y ≡ left = cc in
      sym e ∙ sym (h.0 ∙ ap (λ z. z ++ y) none) ∙ h.1 none;
}

-- behind a byte that was seen there is a line, or there are too many bytes
some_byte : (t : Bool) (most b : ℕ) (part : List ℕ) (x : ℕ) (bytes : List ℕ) → (lines_after most (b ∷ (part ++ x ∷ [])) bytes ≡ NoMore → ⊥)
    → (if t then Line (b ∷ part) (lines_after most [] bytes) else lines_after most (b ∷ (part ++ x ∷ [])) bytes) ≡ NoMore → ⊥
some_byte true most b part x bytes ih h = cc
some_byte false most b part x bytes ih h = ih h

some_line : (most b : ℕ) (part bytes : List ℕ) → lines_after most (b ∷ part) bytes ≡ NoMore → ⊥
some_line most b part [] h = cc
some_line zero b part (x ∷ bytes) h = cc
some_line (suc most) b part (x ∷ bytes) h = some_byte (x == 10) most b part x bytes (some_line most b (part ++ x ∷ []) bytes) h

-- so bytes without a line are none
first_byte : (t : Bool) (most b : ℕ) (bytes : List ℕ) → (if t then Line [] (lines_after most [] bytes) else lines_after most (b ∷ []) bytes) ≡ NoMore → ⊥
first_byte true most b bytes h = cc
first_byte false most b bytes h = some_line most b [] bytes h

no_line : (most : ℕ) (bytes : List ℕ) → lines_after most [] bytes ≡ NoMore → bytes ≡ []
no_line most [] h = refl
no_line zero (b ∷ bytes) h = absurd cc
no_line (suc most) (b ∷ bytes) h = absurd (first_byte (b == 10) most b bytes h)

none_behind : (held left : List ℕ) (ended : Bool) → (ended ≡ true → left ≡ []) → held ++ (if ended then [] else left) ≡ [] → left ≡ []
none_behind [] left true knows none = knows refl
none_behind [] left false knows none = none
none_behind (b ∷ held) left ended knows none = absurd cc

-- where a call answers that no line is left, its source has nothing left
pub none_left : (old new : ReaderView) (left left2 : List ℕ) → NextIs (Ok None) old new left left2 → KnowsEnd (Some left2) new → left2 ≡ []
none_left old new left left2 h knows =
    none_behind new.held left2 new.ended (λ end. knows.nothing end left2 refl) ((h.1).input ∙ no_line _ _ h.0)
