use Rattle.std.specs.Prelude.{◌≡◌, ℕ, ◌==◌, List, [], ◌∷◌, ◌++◌, Bool, true, false, if◌then◌else◌}

-- a word before others; no bytes are no word
abbrev pub with_word : List ℕ → List (List ℕ) → List (List ℕ)
with_word [] words = words
with_word (b ∷ bytes) words = (b ∷ bytes) ∷ words

-- the words of a line, of whose first one `part` has been seen
abbrev pub words_after : List ℕ → List ℕ → List (List ℕ)
words_after part [] = with_word part []
words_after part (b ∷ bytes) = if b == 32 then with_word part (words_after [] bytes) else words_after (part ++ b ∷ []) bytes

-- the words of a line: what stands between spaces
abbrev pub words_of : List ℕ → List (List ℕ)
words_of line = words_after [] line

-- a word begins with this byte
abbrev pub begins_with : ℕ → List ℕ → Bool
begins_with byte [] = false
begins_with byte (b ∷ bytes) = b == byte

-- there is no word, or the first one begins with this byte; the words stay
abbrev pub Without : ℕ → List (List ℕ) → List (List ℕ) → Type 0
Without byte [] new = new ≡ []
Without byte (word ∷ words) new = (begins_with byte word ≡ true) × (new ≡ word ∷ words)
