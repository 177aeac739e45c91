use Rattle.std.specs.Prelude.{◌≡◌, ℕ, ◌+◌, ◌-◌, ◌<◌, ◌≤◌, ◌==◌, List, [], ◌++◌, length, take, drop, Option, Some, None, Result, Ok, Err}
use Rattle.vt_outside.specs.Source.{SourceView}
use Rattle.vt_outside.specs.Faults.{Rose}
use Rattle.script_text.specs.declared.reader.NextFault.{NextFault}
use Rattle.script_text.specs.declared.reader.NextFault.TheVariants.{Read, TooLong, Long, Memory}
use Rattle.vt_types.specs.Limits.{LONGEST_SCRIPT}
use Rattle.script_text.specs.Limits.{LONGEST_LINE}
use Rattle.script_text.specs.Lines.{ReaderView}

-- a reader that lends no line
abbrev pub without_line : ReaderView → ReaderView
without_line r = record { held = r.held; answered = r.answered; number = r.number; ended = r.ended; line = [] }

-- a reader that answered its first `len` bytes as a line, and passed over its first `taken` bytes
abbrev pub behind_line : ℕ → ℕ → ReaderView → ReaderView
behind_line len taken r =
    record { held = drop taken r.held; answered = r.answered + taken; number = r.number + 1; ended = r.ended; line = take len r.held }

-- a line that a reader answered
pub record Answered (len taken n : ℕ) (old new : ReaderView) : Type 0 where
  pub room : taken ≤ LONGEST_SCRIPT - old.answered
  pub short : len ≤ LONGEST_LINE
  pub number : n ≡ old.number + 1
  pub behind : new ≡ behind_line len taken old

-- the first `len` bytes held are to be answered, and the first `taken` of them passed over
abbrev pub AnswersLine : ℕ → ℕ → Result (Option ℕ) NextFault → ReaderView → ReaderView → Type 0
AnswersLine len taken (Ok (Some n)) old new = Answered len taken n old new
AnswersLine len taken (Ok None) old new = ⊥
AnswersLine len taken (Err TooLong) old new = (LONGEST_SCRIPT - old.answered < taken) × (new ≡ old)
AnswersLine len taken (Err Long) old new = (taken ≤ LONGEST_SCRIPT - old.answered) × (LONGEST_LINE < len) × (new ≡ old)
AnswersLine len taken (Err Read) old new = ⊥
AnswersLine len taken (Err Memory) old new = ⊥

-- all the bytes held are to be answered as the last line, where there are any
abbrev pub AnswersRest : Result (Option ℕ) NextFault → ReaderView → ReaderView → Type 0
AnswersRest (Ok (Some n)) old new = (0 < length old.held) × Answered (length old.held) (length old.held) n old new
AnswersRest (Ok None) old new = (old.held ≡ []) × (new ≡ old)
AnswersRest (Err TooLong) old new = (LONGEST_SCRIPT - old.answered < length old.held) × (new ≡ old)
AnswersRest (Err Long) old new = (length old.held ≤ LONGEST_SCRIPT - old.answered) × (LONGEST_LINE < length old.held) × (new ≡ old)
AnswersRest (Err Read) old new = ⊥
AnswersRest (Err Memory) old new = ⊥

-- the bytes that came from a source, where it tells what is left: none come only at its end
abbrev pub Gave : List ℕ → Option (List ℕ) → Option (List ℕ) → Type 0
Gave came None None = Unit {0}
Gave came None (Some left2) = ⊥
Gave came (Some left) None = ⊥
Gave came (Some left) (Some left2) = (left ≡ came ++ left2) × (came ≡ [] → left ≡ [])

-- a reader with bytes that came, or with the end
abbrev pub with_bytes : List ℕ → ReaderView → ReaderView
with_bytes came r = record { held = r.held ++ came; answered = r.answered; number = r.number; ended = length came == 0; line = [] }

-- what one read does
abbrev pub ReadsMore : Result Unit NextFault → SourceView → SourceView → ReaderView → ReaderView → Type 0
ReadsMore (Ok u) source source2 old new =
    (came : List ℕ) × (new ≡ with_bytes came old) × Gave came source.left source2.left × (source2.faults ≡ source.faults)
ReadsMore (Err Read) source source2 old new =
    (new ≡ without_line old) × (source2.left ≡ source.left) × Rose source.faults source2.faults × (source.faults ≤ source2.faults)
ReadsMore (Err Memory) source source2 old new = (new ≡ without_line old) × (source2.left ≡ source.left) × (source2.faults ≡ source.faults)
ReadsMore (Err TooLong) source source2 old new = ⊥
ReadsMore (Err Long) source source2 old new = ⊥
