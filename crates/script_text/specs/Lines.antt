use Rattle.std.specs.Prelude.{◌≡◌, ℕ, zero, suc, ◌+◌, ◌-◌, ◌<◌, ◌≤◌, ◌==◌, List, [], ◌∷◌, ◌++◌, length, drop, Bool, true, Option, Some, None, Result, Ok, Err, if◌then◌else◌}
use Rattle.vt_outside.specs.Faults.{Rose}
use Rattle.script_text.specs.declared.reader.NextFault.{NextFault}
use Rattle.script_text.specs.declared.reader.NextFault.TheVariants.{Read, TooLong, Long, Memory}
use Rattle.vt_types.specs.Limits.{LONGEST_SCRIPT}
use Rattle.script_text.specs.Limits.{LONGEST_LINE}

-- the lines of an input: up to its end, or up to where more bytes came than a script may have
pub data Lines : Type 0 where
  NoMore : Lines
  TooMany : Lines
  Line : List ℕ → Lines → Lines

-- the lines of some bytes, of whose first one `part` has been seen, where `most` bytes may still come: a line ends at its
-- line feed, which counts as one of the bytes, or at the end of the bytes
abbrev pub lines_after : ℕ → List ℕ → List ℕ → Lines
lines_after most [] [] = NoMore
lines_after most (b ∷ part) [] = Line (b ∷ part) NoMore
lines_after zero part (b ∷ bytes) = TooMany
lines_after (suc most) part (b ∷ bytes) = if b == 10 then Line part (lines_after most [] bytes) else lines_after most (part ++ b ∷ []) bytes

-- the lines of an input
abbrev pub lines_of : List ℕ → Lines
lines_of input = lines_after LONGEST_SCRIPT [] input

-- a reader of lines as contracts see it: the bytes that it holds behind the lines that it answered, how many bytes and
-- lines it answered, line feeds among the bytes, whether the source has ended, and the last line
pub record ReaderView : Type 0 where
  pub held : List ℕ
  pub answered : ℕ
  pub number : ℕ
  pub ended : Bool
  pub line : List ℕ

-- the input that a reader has not answered yet, where its source has some bytes left: of a source that ended no more is
-- read
abbrev pub input_left : ReaderView → List ℕ → List ℕ
input_left reader left = reader.held ++ (if reader.ended then [] else left)

-- the lines that a reader has not answered yet
abbrev pub lines_left : ReaderView → List ℕ → Lines
lines_left reader left = lines_after (LONGEST_SCRIPT - reader.answered) [] (input_left reader left)

-- nothing was answered, and the input stays
pub record Stays (old new : ReaderView) (left left2 : List ℕ) : Type 0 where
  pub input : input_left new left2 ≡ input_left old left
  pub answered : new.answered ≡ old.answered

-- what a call answers of the lines that are left
abbrev pub NextIs : Result (Option ℕ) NextFault → ReaderView → ReaderView → List ℕ → List ℕ → Type 0
NextIs (Ok (Some number)) old new left left2 = lines_left old left ≡ Line new.line (lines_left new left2)
NextIs (Ok None) old new left left2 = (lines_left old left ≡ NoMore) × Stays old new left left2
NextIs (Err Long) old new left left2 =
    ((line : List ℕ) × (others : Lines) × (lines_left old left ≡ Line line others) × (LONGEST_LINE < length line)) × Stays old new left left2
NextIs (Err TooLong) old new left left2 = (lines_left old left ≡ TooMany) × Stays old new left left2
NextIs (Err Read) old new left left2 = Stays old new left left2
NextIs (Err Memory) old new left left2 = Stays old new left left2

-- where a source tells what is left, what a call answers of it
abbrev pub Answers : Option (List ℕ) → Option (List ℕ) → Result (Option ℕ) NextFault → ReaderView → ReaderView → Type 0
Answers before after result old new =
    (left : List ℕ) → before ≡ Some left → (left2 : List ℕ) × (after ≡ Some left2) × NextIs result old new left left2

-- how many bytes a reader has taken from its source: each of them is answered or held
abbrev pub bytes_taken : ReaderView → ℕ
bytes_taken reader = reader.answered + length reader.held

-- where a source tells what is left, the bytes that a call takes are the front of it, and the reader has each of them
pub record Takes (before after : Option (List ℕ)) (old new : ReaderView) : Type 0 where
  pub front : (left : List ℕ) → before ≡ Some left → (n : ℕ) × (after ≡ Some (drop n left)) × (n + bytes_taken old ≡ bytes_taken new)

-- where a source tells what is left, a reader takes it to have ended only where nothing is
pub record KnowsEnd (told : Option (List ℕ)) (reader : ReaderView) : Type 0 where
  pub nothing : reader.ended ≡ true → (left : List ℕ) → told ≡ Some left → left ≡ []

-- the number of a line counts the lines; a line that is answered takes bytes of the script, and is not too long
pub record Counts (number : ℕ) (old new : ReaderView) : Type 0 where
  pub next : number ≡ old.number + 1
  pub counted : new.number ≡ number
  pub later : old.answered < new.answered
  pub bound : new.answered ≤ LONGEST_SCRIPT
  pub short : length new.line ≤ LONGEST_LINE

-- the numbers of a call
abbrev pub Numbers : Result (Option ℕ) NextFault → ReaderView → ReaderView → Type 0
Numbers (Ok (Some number)) old new = Counts number old new
Numbers (Ok None) old new = (new.number ≡ old.number) × (new.answered ≡ old.answered)
Numbers (Err fault) old new = (new.number ≡ old.number) × (new.answered ≡ old.answered)

-- the failed calls of a source: only a call that answers `Read` meets one
abbrev pub FaultsOf : Result (Option ℕ) NextFault → ℕ → ℕ → Type 0
FaultsOf (Ok number) before after = after ≡ before
FaultsOf (Err Long) before after = after ≡ before
FaultsOf (Err TooLong) before after = after ≡ before
FaultsOf (Err Memory) before after = after ≡ before
FaultsOf (Err Read) before after = Rose before after × (before ≤ after)
