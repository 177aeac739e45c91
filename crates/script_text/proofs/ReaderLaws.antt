-- Facts on the reader of lines.
use Rattle.std.proofs.Common.{◌≡◌, ℕ, zero, suc, ◌+◌, ◌-◌, ◌*◌, ◌≤◌, ◌<◌, Bool, true, List, [], ◌∷◌, ◌++◌, length, take, drop, Option, Some, None, Result, Ok, Err, append-nil, refl, sym, ap, ◌∙◌, arith}
use Rattle.std.specs.Prelude.{◌==◌, if◌then◌else◌, is_ok, OnOk}
use Rattle.std.proofs.lemmas.List.{length-take, length-take-le, length-drop, drop-append-le, take-append-le}
use Rattle.std.proofs.Math.Seq.{take-length, drop-length}
use Rattle.std.specs.List.{position, position_or_len}
use Rattle.vt_outside.specs.Source.{Moves}
use Rattle.vt_outside.specs.Source.{SourceView}
use Rattle.script_text.specs.declared.reader.NextFault.{NextFault}
use Rattle.script_text.specs.declared.reader.NextFault.TheVariants.{Read, TooLong, Long, Memory}
use Rattle.vt_types.specs.Limits.{LONGEST_SCRIPT}
use Rattle.script_text.specs.Lines.{NoMore, TooMany, Line, ReaderView, lines_after, input_left, lines_left, Stays, NextIs, Answers, Takes, KnowsEnd}
use Rattle.script_text.specs.Reader.{without_line, with_bytes, behind_line, AnswersLine, AnswersRest, Gave}
use Rattle.script_text.proofs.LineLaws.{found, not_found, lines_feed, lines_over, lines_last, at_end}

-- a reader as its fields have it
abbrev pub reader : (bytes : List ℕ) (start line_start line_len answered number : ℕ) → Bool → ReaderView
reader bytes start line_start line_len answered number ended =
    record { held = drop start bytes; answered = answered; number = number; ended = ended; line = take line_len (drop line_start bytes) }

no_len : (bytes : List ℕ) (line_start line_len : ℕ) → line_start + line_len ≤ length bytes → take line_len (drop line_start bytes) ≡ [] → line_len ≡ 0
no_len bytes line_start line_len within none =
    let len : length (take line_len (drop line_start bytes)) ≡ line_len = length-take-le line_len (drop line_start bytes) (omega (arith, length-drop line_start bytes)) in
    sym len ∙ ap length none

-- bytes that are added behind those of a reader without a line
pub with_more : (bytes came : List ℕ) (start line_start line_len answered number : ℕ) (ended ended2 : Bool) (old : ReaderView)
    → start ≤ length bytes → line_start + line_len ≤ length bytes → reader bytes start line_start line_len answered number ended ≡ without_line old
    → ended2 ≡ (length came == 0)
    → reader (bytes ++ came) start line_start line_len answered number ended2 ≡ with_bytes came old
with_more bytes came start line_start line_len answered number ended ended2 old within fits is last =
    let held = drop-append-le start bytes came within in
    let empty = no_len bytes line_start line_len fits (ap (λ (r : ReaderView). r.line) is) in
    rw (held, empty, last) (ap (λ (r : ReaderView). with_bytes came r) is)

-- what a read moved is what the source gave
pub gave : (left left2 : Option (List ℕ)) (room room2 : List ℕ) (n : ℕ) → n ≤ length room2 → 0 < length room → Moves left left2 room room2 n → Gave (take n room2) left left2
gave None None room room2 n within some moves = tt
gave None (Some left2) room room2 n within some moves = moves
gave (Some left) None room room2 n within some moves = moves
gave (Some left) (Some left2) room room2 n within some moves =
    let len = length-take-le n room2 within in
    (moves.0, λ none. moves.1 (sym len ∙ ap length none) some)

-- bytes that were read into the front of a room
pub cut_front : (all bytes part rest : List ℕ) (n : ℕ) → n ≤ length part → all ≡ bytes ++ take n (part ++ rest) → all ≡ bytes ++ take n part
cut_front all bytes part rest n within h = h ∙ ap (λ z. bytes ++ z) (take-append-le n part rest within)

-- a part of a room has room
pub some_part : (most : ℕ) (room : List ℕ) → 0 < most → most ≤ length room → 0 < length (take most room)
some_part most room some within = let len : length (take most room) ≡ most = length-take-le most room within in omega (arith, len, some)

-- and what was read into it fits where the room would
pub fits_in : (held capacity n most len : ℕ) (room bytes : List ℕ) → n ≤ length (take most room) → most ≤ len → held + len ≤ capacity → held + length (take n bytes) ≤ capacity
fits_in held capacity n most len room bytes bound within fits = omega (arith, length-take most room, length-take n bytes, bound, fits)

-- what an answer that is Ok ensures
pub at_ok : {T E : Type 0} (r : Result T E) (P : Type 0) → is_ok r ≡ true → OnOk r P → P
at_ok (Ok x) P is h = h
at_ok (Err e) P is h = absurd cc

abbrev feeds : ℕ → Bool
feeds b = b == 10

-- the lines that are left where the bytes held have a line feed in time
line_of : (now : ReaderView) (len : ℕ) (left : List ℕ) → position feeds now.held ≡ Some len → len + 1 ≤ LONGEST_SCRIPT - now.answered
    → lines_left now left ≡ Line (take len now.held) (lines_left (behind_line len (len + 1) now) left)
line_of now len left at room =
    let (same, within) = found feeds now.held len at in
    let below : position_or_len feeds now.held < LONGEST_SCRIPT - now.answered = omega arith in
    let one : suc len ≡ len + 1 = omega arith in
    let most : LONGEST_SCRIPT - now.answered - (len + 1) ≡ LONGEST_SCRIPT - (now.answered + (len + 1)) = omega arith in
    lines_feed now.held (LONGEST_SCRIPT - now.answered) [] (if now.ended then [] else left) within below ∙ rw (same, one, most) refl

-- where more bytes came than may come, and no line feed in time
over_of : (now : ReaderView) (left : List ℕ) → LONGEST_SCRIPT - now.answered < length now.held → LONGEST_SCRIPT - now.answered ≤ position_or_len feeds now.held → lines_left now left ≡ TooMany
over_of now left long past = lines_over now.held (LONGEST_SCRIPT - now.answered) [] (if now.ended then [] else left) long past

-- and at the end of the source
last_of : (now : ReaderView) (left : List ℕ) → now.ended ≡ true → position feeds now.held ≡ None → length now.held ≤ LONGEST_SCRIPT - now.answered → lines_left now left ≡ at_end now.held
last_of now left ended none few =
    rw (ended, append-nil now.held) (lines_last now.held (LONGEST_SCRIPT - now.answered) [] few (not_found feeds now.held none))

-- while a call looks for its line: nothing was answered yet, the input stays, and the first bytes held have no line feed
pub record IsSearching (old now : ReaderView) (source source2 : SourceView) (searched : ℕ) : Type 0 where
  pub answered : now.answered ≡ old.answered
  pub number : now.number ≡ old.number
  pub input : (left : List ℕ) → source.left ≡ Some left → (left2 : List ℕ) × (source2.left ≡ Some left2) × (input_left now left2 ≡ input_left old left)
  pub calm : source2.faults ≡ source.faults
  pub within : searched ≤ length now.held
  pub none : position (λ b. b == 10) (take searched now.held) ≡ None
  pub takes : Takes source.left source2.left old now
  pub ends : KnowsEnd source.left old → KnowsEnd source2.left now

same_lines : (old now : ReaderView) (left left2 : List ℕ) → now.answered ≡ old.answered → input_left now left2 ≡ input_left old left → lines_left old left ≡ lines_left now left2
same_lines old now left left2 answered input =
    ap (λ n. lines_after (LONGEST_SCRIPT - n) [] (input_left old left)) (sym answered) ∙ ap (lines_after (LONGEST_SCRIPT - now.answered) []) (sym input)

-- the reader stays as a call found it, but for its line
stays_at : (old now new : ReaderView) (left left2 : List ℕ) → now.answered ≡ old.answered → input_left now left2 ≡ input_left old left → new ≡ now → Stays old new left left2
stays_at old now new left left2 answered input same =
    rw same (record { input = input; answered = answered })

-- a line that ends with a line feed
line_next : (r : Result (Option ℕ) NextFault) (old now new : ReaderView) (len : ℕ) (left left2 : List ℕ) → now.answered ≡ old.answered → input_left now left2 ≡ input_left old left
    → position feeds now.held ≡ Some len → AnswersLine len (len + 1) r now new → NextIs r old new left left2
line_next (Ok (Some n)) old now new len left left2 answered input at h =
    let room = h.room in
    same_lines old now left left2 answered input ∙ line_of now len left2 at room ∙ ap (λ (r : ReaderView). Line r.line (lines_left r left2)) (sym h.behind)
line_next (Ok None) old now new len left left2 answered input at h = absurd h
line_next (Err Read) old now new len left left2 answered input at h = absurd h
line_next (Err Memory) old now new len left left2 answered input at h = absurd h
line_next (Err TooLong) old now new len left left2 answered input at h =
    let (same, within) = found feeds now.held len at in
    let over = h.0 in (
      same_lines old now left left2 answered input ∙ over_of now left2 (omega arith) (omega arith),
      stays_at old now new left left2 answered input h.1,
    )
line_next (Err Long) old now new len left left2 answered input at h =
    let (same, within) = found feeds now.held len at in
    let long = h.1 in
    let len_is : length (take len now.held) ≡ len = length-take-le len now.held (omega arith) in (
      (take len now.held, lines_left (behind_line len (len + 1) now) left2, same_lines old now left left2 answered input ∙ line_of now len left2 at h.0, omega (arith, len_is, long)),
      stays_at old now new left left2 answered input h.2,
    )

pub line_told : (r : Result (Option ℕ) NextFault) (old now new : ReaderView) (source source2 : SourceView) (len searched : ℕ) → IsSearching old now source source2 searched
    → position feeds now.held ≡ Some len → AnswersLine len (len + 1) r now new → Answers source.left source2.left r old new
line_told r old now new source source2 len searched searching at h = λ left told.
    let (left2, e, input) = searching.input left told in
    (left2, e, line_next r old now new len left left2 searching.answered input at h)

-- too many bytes
pub over_told : (old now : ReaderView) (source source2 : SourceView) (searched : ℕ) → IsSearching old now source source2 searched
    → position feeds now.held ≡ None → LONGEST_SCRIPT - now.answered < length now.held → Answers source.left source2.left (Err TooLong) old now
over_told old now source source2 searched searching none long = λ left told.
    let (left2, e, input) = searching.input left told in
    let past = not_found feeds now.held none in (
      left2,
      e,
      (same_lines old now left left2 searching.answered input ∙ over_of now left2 long (omega arith), stays_at old now now left left2 searching.answered input refl),
    )

-- the last line, or none
none_after : (most : ℕ) → lines_after most [] [] ≡ NoMore
none_after zero = refl
none_after (suc most) = refl

some_end : (held : List ℕ) → 0 < length held → at_end held ≡ Line held NoMore
some_end [] some = absurd (omega arith)
some_end (b ∷ held) some = refl

nothing_left : (now : ReaderView) (left : List ℕ) → now.ended ≡ true → lines_left (behind_line (length now.held) (length now.held) now) left ≡ NoMore
nothing_left now left ended =
    let none : drop (length now.held) now.held ≡ [] = drop-length now.held in
    rw (ended, none) (none_after (LONGEST_SCRIPT - (now.answered + length now.held)))

rest_next : (r : Result (Option ℕ) NextFault) (old now new : ReaderView) (left left2 : List ℕ) → now.answered ≡ old.answered → input_left now left2 ≡ input_left old left
    → now.ended ≡ true → position feeds now.held ≡ None → length now.held ≤ LONGEST_SCRIPT - now.answered → AnswersRest r now new → NextIs r old new left left2
rest_next (Ok (Some n)) old now new left left2 answered input ended none few h =
    let whole : take (length now.held) now.held ≡ now.held = take-length now.held in
    same_lines old now left left2 answered input ∙ last_of now left2 ended none few ∙ some_end now.held h.0
    ∙ ap (λ line. Line line NoMore) (sym whole) ∙ ap (Line (take (length now.held) now.held)) (sym (nothing_left now left2 ended))
    ∙ ap (λ (r : ReaderView). Line r.line (lines_left r left2)) (sym (h.1).behind)
rest_next (Ok None) old now new left left2 answered input ended none few h = (
  same_lines old now left left2 answered input ∙ last_of now left2 ended none few ∙ ap at_end h.0,
  stays_at old now new left left2 answered input h.1,
)
rest_next (Err Read) old now new left left2 answered input ended none few h = absurd h
rest_next (Err Memory) old now new left left2 answered input ended none few h = absurd h
rest_next (Err TooLong) old now new left left2 answered input ended none few h = let over = h.0 in absurd (omega (arith, over, few))
rest_next (Err Long) old now new left left2 answered input ended none few h =
    let long = h.1 in
    let some : 0 < length now.held = omega (arith, long) in (
      (now.held, NoMore, same_lines old now left left2 answered input ∙ last_of now left2 ended none few ∙ some_end now.held some, long),
      stays_at old now new left left2 answered input h.2,
    )

pub rest_told : (r : Result (Option ℕ) NextFault) (old now new : ReaderView) (source source2 : SourceView) (searched : ℕ) → IsSearching old now source source2 searched
    → now.ended ≡ true → position feeds now.held ≡ None → length now.held ≤ LONGEST_SCRIPT - now.answered → AnswersRest r now new → Answers source.left source2.left r old new
rest_told r old now new source source2 searched searching ended none few h = λ left told.
    let (left2, e, input) = searching.input left told in
    (left2, e, rest_next r old now new left left2 searching.answered input ended none few h)

-- each read brings bytes, or the end
abbrev pub left_to_read : ReaderView → ℕ
left_to_read now = 2 * (LONGEST_SCRIPT + 1 - length now.held) + (if now.ended then 0 else 1)
