use Rattle.std.specs.Prelude.{◌≡◌, ℕ, List, [], ◌∷◌, Bool, true, false, Option, Some, None, Result, Ok, Err, if◌then◌else◌}
use Rattle.std.specs.Str.{bytes_eq}
use Rattle.script_text.specs.declared.fault.LineFault.{LineFault}
use Rattle.script_text.specs.declared.fault.LineFault.TheVariants.{Bad, Memory}

-- a reading takes words from the front of a line: a value, and the words that are left; None where the words do not
-- begin with what is read
abbrev pub Reading : Type 0 → Type 0
Reading A = List (List ℕ) → Option (A × List (List ℕ))

-- this value, with no word taken
abbrev pub gives : {A : Type 0} → A → List (List ℕ) → Option (A × List (List ℕ))
gives value words = Some (value, words)

-- what was read, and then what its value leads to
abbrev pub read_on : {A B : Type 0} → Option (A × List (List ℕ)) → (A → List (List ℕ) → Option (B × List (List ℕ))) → Option (B × List (List ℕ))
read_on None next = None
read_on (Some (value, words)) next = next value words

-- one reading, and then another by its value
infixl 10 ◌>>=◌
abbrev pub ◌>>=◌ : {A B : Type 0} → Reading A → (A → Reading B) → Reading B
(read >>= next) = λ words. read_on (read words) next

-- a value, where there is one, before the words behind it
abbrev pub and_words : {A : Type 0} → Option A → List (List ℕ) → Option (A × List (List ℕ))
and_words None words = None
and_words (Some value) words = Some (value, words)

-- a value that is there by what was read so far, with no word taken
abbrev pub gives_if : {A : Type 0} → Option A → List (List ℕ) → Option (A × List (List ℕ))
gives_if value words = and_words value words

-- one word, whatever it is
abbrev pub any_word : List (List ℕ) → Option (List ℕ × List (List ℕ))
any_word [] = None
any_word (word ∷ words) = Some (word, words)

-- one word, by what it spells
abbrev pub one_word : {A : Type 0} → (List ℕ → Option A) → List (List ℕ) → Option (A × List (List ℕ))
one_word spelled [] = None
one_word spelled (word ∷ words) = and_words (spelled word) words

-- whether the next word is a name, which is taken then
abbrev pub optional_word : List ℕ → List (List ℕ) → Option (Bool × List (List ℕ))
optional_word name [] = Some (false, [])
optional_word name (word ∷ words) = if bytes_eq word name then Some (true, words) else Some (false, word ∷ words)

-- what a word names in a list of names
abbrev pub one_of : {A : Type 0} → List (List ℕ × A) → List ℕ → Option A
one_of [] word = None
one_of ((name, value) ∷ others) word = if bytes_eq word name then Some value else one_of others word

-- the reading that a word names in a list of names
abbrev pub named : {A : Type 0} → List (List ℕ × Reading A) → List ℕ → List (List ℕ) → Option (A × List (List ℕ))
named [] word words = None
named ((name, read) ∷ others) word words = if bytes_eq word name then read words else named others word words

-- what was read, where no word is left behind it
abbrev pub to_the_end : {A : Type 0} → Option (A × List (List ℕ)) → Option A
to_the_end None = None
to_the_end (Some (value, [])) = Some value
to_the_end (Some (value, word ∷ words)) = None

-- what the code answered, and the words that it left, against a reading: a value is what is read, `Bad` comes only where
-- there is no such thing, and want of memory says nothing
abbrev pub Reads : {X A : Type 0} → (X → A) → Result X LineFault → List (List ℕ) → Option (A × List (List ℕ)) → Type 0
Reads view (Ok x) words read = read ≡ Some (view x, words)
Reads view (Err Bad) words read = read ≡ None
Reads view (Err Memory) words read = Unit {0}

-- the same of a whole line or word
abbrev pub Spells : {X A : Type 0} → (X → A) → Result X LineFault → Option A → Type 0
Spells view (Ok x) spelled = spelled ≡ Some (view x)
Spells view (Err Bad) spelled = spelled ≡ None
Spells view (Err Memory) spelled = Unit {0}
