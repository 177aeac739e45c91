-- Facts on the lines of an input.
use Rattle.std.proofs.Common.{◌≡◌, ℕ, zero, suc, ◌+◌, ◌-◌, ◌≤◌, ◌<◌, Bool, true, false, cond, ltb, List, [], ◌∷◌, ◌++◌, length, take, drop, Some, None, refl, sym, ap, ◌∙◌, arith, append_assoc, append-nil, take-append-drop}
use Rattle.std.specs.Prelude.{if◌then◌else◌, not, ◌==◌}
use Rattle.std.specs.List.{position, position_or_len}
use Rattle.std.proofs.lemmas.Bool.{ltb-true, ltb-false}
use Rattle.std.proofs.lemmas.List.{length-take-le, length-drop}
use Rattle.script_text.specs.Lines.{Lines, NoMore, TooMany, Line, lines_after}

-- the location that a search answers
found_by : (t : Bool) (m l n : ℕ) → ltb m l ≡ t → cond t (Some m) None ≡ Some n → (m ≡ n) × (m < l)
found_by true m l n e h = (cc, ltb-true m l e)
found_by false m l n e h = absurd cc

pub found : (p : ℕ → Bool) (xs : List ℕ) (n : ℕ) → position p xs ≡ Some n → (position_or_len p xs ≡ n) × (position_or_len p xs < length xs)
found p xs n h = found_by (ltb (position_or_len p xs) (length xs)) (position_or_len p xs) (length xs) n refl h

-- a search that answers no location
not_found_by : (t : Bool) (m l : ℕ) → ltb m l ≡ t → cond t (Some m) None ≡ None → l ≤ m
not_found_by true m l e h = absurd cc
not_found_by false m l e h = ltb-false m l e

pub not_found : (p : ℕ → Bool) (xs : List ℕ) → position p xs ≡ None → length xs ≤ position_or_len p xs
not_found p xs h = not_found_by (ltb (position_or_len p xs) (length xs)) (position_or_len p xs) (length xs) refl h

-- and the search of a location that is known
at_location_by : (t : Bool) (m l n : ℕ) → ltb m l ≡ t → m ≡ n → n < l → cond t (Some m) None ≡ Some n
at_location_by true m l n e same below = ap Some same
at_location_by false m l n e same below = let h = ltb-false m l e in absurd (omega arith)

at_location : (p : ℕ → Bool) (xs : List ℕ) (n : ℕ) → position_or_len p xs ≡ n → n < length xs → position p xs ≡ Some n
at_location p xs n same below = at_location_by (ltb (position_or_len p xs) (length xs)) (position_or_len p xs) (length xs) n refl same below

no_location_by : (t : Bool) (m l : ℕ) → ltb m l ≡ t → l ≤ m → cond t (Some m) None ≡ None
no_location_by true m l e past = let h = ltb-true m l e in absurd (omega arith)
no_location_by false m l e past = refl

no_location : (p : ℕ → Bool) (xs : List ℕ) → length xs ≤ position_or_len p xs → position p xs ≡ None
no_location p xs past = no_location_by (ltb (position_or_len p xs) (length xs)) (position_or_len p xs) (length xs) refl past

-- a search that finds nothing in a front goes on behind it
go_on_by : (t : Bool) (p : ℕ → Bool) (x : ℕ) (xs ys : List ℕ) → p x ≡ t
    → (length xs ≤ position_or_len p xs → position_or_len p (xs ++ ys) ≡ length xs + position_or_len p ys)
    → suc (length xs) ≤ cond (not t) (1 + position_or_len p xs) 0
    → cond (not t) (1 + position_or_len p (xs ++ ys)) 0 ≡ suc (length xs) + position_or_len p ys
go_on_by true p x xs ys e ih past = absurd (omega arith)
go_on_by false p x xs ys e ih past = let h = ih (omega arith) in omega (arith, h)

go_on : (p : ℕ → Bool) (xs ys : List ℕ) → length xs ≤ position_or_len p xs → position_or_len p (xs ++ ys) ≡ length xs + position_or_len p ys
go_on p [] ys past = omega arith
go_on p (x ∷ xs) ys past = go_on_by (p x) p x xs ys refl (go_on p xs ys) past

-- a search behind a front that has been searched
pub found_behind : (p : ℕ → Bool) (xs : List ℕ) (s n : ℕ) → s ≤ length xs → position p (take s xs) ≡ None → position p (drop s xs) ≡ Some n → position p xs ≡ Some (s + n)
found_behind p xs s n within none h =
    let whole : take s xs ++ drop s xs ≡ xs = take-append-drop s xs in
    let len : length (take s xs) ≡ s = length-take-le s xs within in
    let len2 : length (drop s xs) ≡ length xs - s = length-drop s xs in
    let (same, below) = found p (drop s xs) n h in
    let behind = go_on p (take s xs) (drop s xs) (not_found p (take s xs) none) in
    at_location p xs (s + n) (ap (position_or_len p) (sym whole) ∙ behind ∙ omega (arith, len, same)) (omega arith)

pub none_behind : (p : ℕ → Bool) (xs : List ℕ) (s : ℕ) → s ≤ length xs → position p (take s xs) ≡ None → position p (drop s xs) ≡ None → position p xs ≡ None
none_behind p xs s within none h =
    let whole : take s xs ++ drop s xs ≡ xs = take-append-drop s xs in
    let len : length (take s xs) ≡ s = length-take-le s xs within in
    let len2 : length (drop s xs) ≡ length xs - s = length-drop s xs in
    let past = not_found p (drop s xs) h in
    let behind = go_on p (take s xs) (drop s xs) (not_found p (take s xs) none) in
    let same : position_or_len p xs ≡ length (take s xs) + position_or_len p (drop s xs) = ap (position_or_len p) (sym whole) ∙ behind in
    no_location p xs (omega arith)

abbrev feeds : ℕ → Bool
feeds b = b == 10

-- one byte before a line feed that is known further on
feed_byte : (t : Bool) (most : ℕ) (part : List ℕ) (b : ℕ) (bytes rest : List ℕ)
    → ((m : ℕ) → position_or_len feeds bytes < length bytes → position_or_len feeds bytes < m
    → lines_after m (part ++ b ∷ []) (bytes ++ rest) ≡ Line ((part ++ b ∷ []) ++ take (position_or_len feeds bytes) bytes) (lines_after (m - suc (position_or_len feeds bytes)) [] (drop (suc (position_or_len feeds bytes)) bytes ++ rest)))
    → cond (not t) (1 + position_or_len feeds bytes) 0 < suc (length bytes)
    → cond (not t) (1 + position_or_len feeds bytes) 0 < suc most
    → (if t then Line part (lines_after most [] (bytes ++ rest)) else lines_after most (part ++ b ∷ []) (bytes ++ rest))
    ≡ Line (part ++ take (cond (not t) (1 + position_or_len feeds bytes) 0) (b ∷ bytes)) (lines_after (suc most - suc (cond (not t) (1 + position_or_len feeds bytes) 0)) [] (drop (suc (cond (not t) (1 + position_or_len feeds bytes) 0)) (b ∷ bytes) ++ rest))
feed_byte true most part b bytes rest ih within below =
    let same : suc most - suc 0 ≡ most = omega arith in
    rw (same, append-nil) refl
feed_byte false most part b bytes rest ih within below =
    let k = position_or_len feeds bytes in
    let one : 1 + k ≡ suc k = omega arith in
    let same : suc most - suc (suc k) ≡ most - suc k = omega arith in
    rw (one, same) (ih most (omega arith) (omega arith) ∙ ap (λ z. Line z (lines_after (most - suc k) [] (drop (suc k) bytes ++ rest))) (append_assoc part (b ∷ []) (take k bytes)))

-- up to the first line feed there is a line
pub lines_feed : (bytes : List ℕ) (most : ℕ) (part rest : List ℕ) → position_or_len feeds bytes < length bytes → position_or_len feeds bytes < most
    → lines_after most part (bytes ++ rest)
    ≡ Line (part ++ take (position_or_len feeds bytes) bytes) (lines_after (most - suc (position_or_len feeds bytes)) [] (drop (suc (position_or_len feeds bytes)) bytes ++ rest))
lines_feed [] most part rest within below = absurd (omega arith)
lines_feed (b ∷ bytes) zero part rest within below = absurd (omega arith)
lines_feed (b ∷ bytes) (suc most) part rest within below =
    feed_byte (b == 10) most part b bytes rest (λ m. lines_feed bytes m (part ++ b ∷ []) rest) within below

-- one byte of too many
over_byte : (t : Bool) (most : ℕ) (part : List ℕ) (b : ℕ) (bytes rest : List ℕ)
    → (most < length bytes → most ≤ position_or_len feeds bytes → lines_after most (part ++ b ∷ []) (bytes ++ rest) ≡ TooMany)
    → suc most < suc (length bytes) → suc most ≤ cond (not t) (1 + position_or_len feeds bytes) 0
    → (if t then Line part (lines_after most [] (bytes ++ rest)) else lines_after most (part ++ b ∷ []) (bytes ++ rest)) ≡ TooMany
over_byte true most part b bytes rest ih long past = absurd (omega arith)
over_byte false most part b bytes rest ih long past = ih (omega arith) (omega arith)

-- more bytes than may come, and no line feed in time
pub lines_over : (bytes : List ℕ) (most : ℕ) (part rest : List ℕ) → most < length bytes → most ≤ position_or_len feeds bytes → lines_after most part (bytes ++ rest) ≡ TooMany
lines_over [] most part rest long past = absurd (omega arith)
lines_over (b ∷ bytes) zero [] rest long past = refl
lines_over (b ∷ bytes) zero (x ∷ part) rest long past = refl
lines_over (b ∷ bytes) (suc most) part rest long past =
    over_byte (b == 10) most part b bytes rest (λ a c. lines_over bytes most (part ++ b ∷ []) rest a c) long past

-- what is left at the end of the input
abbrev pub at_end : List ℕ → Lines
at_end [] = NoMore
at_end (b ∷ bytes) = Line (b ∷ bytes) NoMore

end_of : (most : ℕ) (part : List ℕ) → lines_after most part [] ≡ at_end part
end_of zero [] = refl
end_of zero (b ∷ part) = refl
end_of (suc most) [] = refl
end_of (suc most) (b ∷ part) = refl

last_byte : (t : Bool) (most : ℕ) (part : List ℕ) (b : ℕ) (bytes : List ℕ)
    → (length bytes ≤ most → length bytes ≤ position_or_len feeds bytes → lines_after most (part ++ b ∷ []) bytes ≡ at_end ((part ++ b ∷ []) ++ bytes))
    → suc (length bytes) ≤ suc most → suc (length bytes) ≤ cond (not t) (1 + position_or_len feeds bytes) 0
    → (if t then Line part (lines_after most [] bytes) else lines_after most (part ++ b ∷ []) bytes) ≡ at_end (part ++ b ∷ bytes)
last_byte true most part b bytes ih few past = absurd (omega arith)
last_byte false most part b bytes ih few past = ih (omega arith) (omega arith) ∙ ap at_end (append_assoc part (b ∷ []) bytes)

-- bytes without a line feed, at the end of the input
pub lines_last : (bytes : List ℕ) (most : ℕ) (part : List ℕ) → length bytes ≤ most → length bytes ≤ position_or_len feeds bytes → lines_after most part bytes ≡ at_end (part ++ bytes)
lines_last [] most part few past = end_of most part ∙ ap at_end (sym (append-nil part))
lines_last (b ∷ bytes) zero part few past = absurd (omega arith)
lines_last (b ∷ bytes) (suc most) part few past =
    last_byte (b == 10) most part b bytes (λ a c. lines_last bytes most (part ++ b ∷ []) a c) few past
