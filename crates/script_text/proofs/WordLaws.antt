-- Facts on the words of a line.
use Rattle.std.proofs.Common.{◌≡◌, ℕ, suc, ◌+◌, ◌<◌, Bool, true, false, cond, List, [], ◌∷◌, ◌++◌, length, take, drop, refl, sym, ap, ◌∙◌, arith, append_assoc, append-nil}
use Rattle.std.specs.Prelude.{not, ◌==◌}
use Rattle.std.specs.List.{prefix_len}
use Rattle.script_text.specs.Words.{with_word, words_after, words_of}

abbrev is_space : ℕ → Bool
is_space b = b == 32

abbrev no_space : ℕ → Bool
no_space b = not (b == 32)

-- one space, or another byte, before a text
skip_byte : (t : Bool) (b : ℕ) (bytes : List ℕ) → words_after [] bytes ≡ words_after [] (drop (prefix_len is_space bytes) bytes) → (b == 32) ≡ t
    → words_after [] (b ∷ bytes) ≡ words_after [] (drop (cond t (1 + prefix_len is_space bytes) 0) (b ∷ bytes))
skip_byte true b bytes ih e =
    let k = prefix_len is_space bytes in
    let one : 1 + k ≡ suc k = omega arith in
    rw (one, e) ih
skip_byte false b bytes ih e = refl

-- spaces before a text are no words
past_spaces : (text : List ℕ) → words_after [] text ≡ words_after [] (drop (prefix_len is_space text) text)
past_spaces [] = refl
past_spaces (b ∷ bytes) = skip_byte (b == 32) b bytes (past_spaces bytes) refl

-- what follows the spaces does not begin with one
begins_so : (t : Bool) (x b : ℕ) (xs bytes : List ℕ) → (drop (prefix_len is_space xs) xs ≡ b ∷ bytes → (b == 32) ≡ false) → (x == 32) ≡ t
    → drop (cond t (1 + prefix_len is_space xs) 0) (x ∷ xs) ≡ b ∷ bytes → (b == 32) ≡ false
begins_so true x b xs bytes ih e h =
    let k = prefix_len is_space xs in
    let one : 1 + k ≡ suc k = omega arith in
    ih (rw one at h)
begins_so false x b xs bytes ih e h = let same : x ≡ b = cc in rw same at e

behind_spaces : (text : List ℕ) (b : ℕ) (bytes : List ℕ) → drop (prefix_len is_space text) text ≡ b ∷ bytes → (b == 32) ≡ false
behind_spaces [] b bytes h = absurd cc
behind_spaces (x ∷ xs) b bytes h = begins_so (x == 32) x b xs bytes (behind_spaces xs b bytes) refl h

-- one byte of a word, or the space behind it
word_byte : (t : Bool) (part : List ℕ) (b : ℕ) (bytes : List ℕ)
    → words_after (part ++ b ∷ []) bytes ≡ with_word ((part ++ b ∷ []) ++ take (prefix_len no_space bytes) bytes) (words_after [] (drop (prefix_len no_space bytes) bytes))
    → (b == 32) ≡ t
    → words_after part (b ∷ bytes)
    ≡ with_word (part ++ take (cond (not t) (1 + prefix_len no_space bytes) 0) (b ∷ bytes)) (words_after [] (drop (cond (not t) (1 + prefix_len no_space bytes) 0) (b ∷ bytes)))
word_byte true part b bytes ih e = rw (e, append-nil) refl
word_byte false part b bytes ih e =
    let k = prefix_len no_space bytes in
    let one : 1 + k ≡ suc k = omega arith in
    rw (one, e) (ih ∙ ap (λ z. with_word z (words_after [] (drop k bytes))) (append_assoc part (b ∷ []) (take k bytes)))

-- up to the first space there is a word
up_to_space : (part text : List ℕ)
    → words_after part text ≡ with_word (part ++ take (prefix_len no_space text) text) (words_after [] (drop (prefix_len no_space text) text))
up_to_space part [] = ap (λ z. with_word z []) (sym (append-nil part))
up_to_space part (b ∷ bytes) = word_byte (b == 32) part b bytes (up_to_space (part ++ b ∷ []) bytes) refl

some_word : (t : Bool) (b : ℕ) (bytes : List ℕ) → (b == 32) ≡ t → t ≡ false
    → with_word (take (cond (not t) (1 + prefix_len no_space bytes) 0) (b ∷ bytes)) (words_after [] (drop (cond (not t) (1 + prefix_len no_space bytes) 0) (b ∷ bytes)))
    ≡ take (cond (not t) (1 + prefix_len no_space bytes) 0) (b ∷ bytes) ∷ words_after [] (drop (cond (not t) (1 + prefix_len no_space bytes) 0) (b ∷ bytes))
some_word true b bytes e f = absurd cc
some_word false b bytes e f =
    let one : 1 + prefix_len no_space bytes ≡ suc (prefix_len no_space bytes) = omega arith in
    rw one refl

-- the first word of a text that does not begin with a space
first_word : (begun : List ℕ) → 0 < length begun → ((b : ℕ) (bytes : List ℕ) → begun ≡ b ∷ bytes → (b == 32) ≡ false)
    → words_of begun ≡ take (prefix_len no_space begun) begun ∷ words_of (drop (prefix_len no_space begun) begun)
first_word [] some h = absurd (omega arith)
first_word (b ∷ bytes) some h = up_to_space [] (b ∷ bytes) ∙ some_word (b == 32) b bytes refl (h b bytes refl)

-- a text has a word where something follows its spaces
pub at_word : (text begun word rest : List ℕ) → begun ≡ drop (prefix_len (λ b. b == 32) text) text → 0 < length begun
    → word ≡ take (prefix_len (λ b. not (b == 32)) begun) begun → rest ≡ drop (prefix_len (λ b. not (b == 32)) begun) begun
    → words_of text ≡ word ∷ words_of rest
at_word text begun word rest e some ew er =
    past_spaces text ∙ ap (words_after []) (sym e) ∙ first_word begun some (λ b bytes h. behind_spaces text b bytes (sym e ∙ h)) ∙ rw (ew, er) refl

-- and none where nothing does
pub no_word : (text : List ℕ) → drop (prefix_len (λ b. b == 32) text) text ≡ [] → words_of text ≡ []
no_word text e = past_spaces text ∙ ap (words_after []) e
