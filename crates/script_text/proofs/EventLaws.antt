-- Facts on the events at the end of a line.
use Rattle.std.proofs.Common.{◌≡◌, ◌≢◌, ℕ, zero, suc, ◌+◌, ◌-◌, ◌<◌, ◌≤◌, true, false, List, [], ◌∷◌, ◌++◌, length, take, drop, Option, Some, None, Err, refl, sym, ap, ◌∙◌, arith, append_assoc, append-nil, length-append}
use Rattle.std.specs.Prelude.{◌==◌, nat_le, codes}
use Rattle.std.specs.Str.{bytes_eq}
use Rattle.std.specs.List.{position}
use Rattle.std.proofs.lemmas.Bool.Decides.{nat_tests}
use Rattle.vt_types.specs.declared.operation.EventAt.{EventAt}
use Rattle.vt_types.specs.Events.{last_gap}
use Rattle.vt_types.proofs.EventLists.{last_gap_from-push}
use Rattle.script_text.specs.declared.fault.LineFault.{LineFault}
use Rattle.script_text.specs.declared.fault.LineFault.TheVariants.{Bad, Memory}
use Rattle.script_text.specs.Reading.{Reads, Spells}
use Rattle.script_text.specs.Event.{with_name, gap_and_name, around, around_colon, gap_in, and_events, events_then, event_at, events_from}
use Rattle.script_text.specs.Fields.{decimal_in}

-- the gap of a word that begins with `@`
gap_is : (word behind : List ℕ) → bytes_eq (take 1 word) (codes "@") ≡ true → behind ≡ drop 1 word → gap_in word ≡ gap_and_name (around_colon behind)
gap_is word behind begins rest = rw begins (ap (λ b. gap_and_name (around_colon b)) (sym rest))

gap_by : (word behind : List ℕ) (o : Option ℕ) → bytes_eq (take 1 word) (codes "@") ≡ true → behind ≡ drop 1 word → position (λ b. b == 58) behind ≡ o
    → gap_in word ≡ gap_and_name (around behind o)
gap_by word behind o begins rest e = gap_is word behind begins rest ∙ ap (λ p. gap_and_name (around behind p)) e

-- a word without a colon, one whose gap is no number, and one that is well
pub no_colon : (word behind : List ℕ) → bytes_eq (take 1 word) (codes "@") ≡ true → behind ≡ drop 1 word → position (λ b. b == 58) behind ≡ None → gap_in word ≡ None
no_colon word behind begins rest e = gap_by word behind None begins rest e

pub no_gap : (word behind : List ℕ) (k : ℕ) → bytes_eq (take 1 word) (codes "@") ≡ true → behind ≡ drop 1 word → position (λ b. b == 58) behind ≡ Some k
    → decimal_in 0 65535 (take k behind) ≡ None → gap_in word ≡ None
no_gap word behind k begins rest e d = gap_by word behind (Some k) begins rest e ∙ ap (with_name (drop (k + 1) behind)) d

pub some_gap : (word behind : List ℕ) (k gap : ℕ) → bytes_eq (take 1 word) (codes "@") ≡ true → behind ≡ drop 1 word → position (λ b. b == 58) behind ≡ Some k
    → decimal_in 0 65535 (take k behind) ≡ Some gap → gap_in word ≡ Some (gap, drop (k + 1) behind)
some_gap word behind k gap begins rest e d = gap_by word behind (Some k) begins rest e ∙ ap (with_name (drop (k + 1) behind)) d

-- events behind others
abbrev pub events_behind : List EventAt → Option (List EventAt) → Option (List EventAt)
events_behind front None = None
events_behind front (Some others) = Some (front ++ others)

-- events of which some were read, and the others are still words
abbrev pub with_front : ℕ → List EventAt → List (List ℕ) → Option (List EventAt)
with_front most front words = events_behind front (events_from (most - length front) (last_gap front) words)

no_words : (most low : ℕ) → events_from most low [] ≡ Some []
unfolding events_from
no_words zero low = refl
no_words (suc most) low = refl

none_more : (low : ℕ) (words : List (List ℕ)) → words ≢ [] → events_from 0 low words ≡ None
unfolding events_from
none_more low [] some = absurd (some refl)
none_more low (word ∷ words) some = refl

one_more : (most low : ℕ) (words : List (List ℕ)) → words ≢ [] → events_from (suc most) low words ≡ events_then low (events_from most) (event_at words)
unfolding events_from
one_more most low [] some = absurd (some refl)
one_more most low (word ∷ words) some = refl

pub front_end : (most : ℕ) (front : List EventAt) (words : List (List ℕ)) → words ≡ [] → with_front most front words ≡ Some front
front_end most front words none =
    rw (none, no_words (most - length front) (last_gap front)) (ap Some (append-nil front))

pub front_full : (most : ℕ) (front : List EventAt) (words : List (List ℕ)) → words ≢ [] → length front ≡ most → with_front most front words ≡ None
front_full most front words some full =
    let none : most - length front ≡ 0 = omega arith in
    rw (none, none_more (last_gap front) words some) refl

front_step : (most : ℕ) (front : List EventAt) (words : List (List ℕ)) (o : Option (EventAt × List (List ℕ))) → words ≢ [] → length front < most → event_at words ≡ o
    → with_front most front words ≡ events_behind front (events_then (last_gap front) (events_from (most - suc (length front))) o)
front_step most front words o some room e =
    let more : most - length front ≡ suc (most - suc (length front)) = omega arith in
    rw (more, one_more (most - suc (length front)) (last_gap front) words some, e) refl

pub front_bad : (most : ℕ) (front : List EventAt) (words : List (List ℕ)) → words ≢ [] → length front < most → event_at words ≡ None → with_front most front words ≡ None
front_bad most front words some room e = front_step most front words None some room e

pub front_falls : (most : ℕ) (front : List EventAt) (words left : List (List ℕ)) (event : EventAt) → words ≢ [] → length front < most
    → event_at words ≡ Some (event, left) → event.gap < last_gap front → with_front most front words ≡ None
front_falls most front words left event some room e falls =
    let no : nat_le (last_gap front) event.gap ≡ false = grind (arith, nat_tests) in
    front_step most front words (Some (event, left)) some room e ∙ rw no refl

-- one more event behind the front
behind_more : (front : List EventAt) (event : EventAt) (others : Option (List EventAt)) → events_behind front (and_events event others) ≡ events_behind (front ++ event ∷ []) others
behind_more front event None = refl
behind_more front event (Some others) = ap Some (sym (append_assoc front (event ∷ []) others))

pub front_more : (most : ℕ) (front : List EventAt) (words left : List (List ℕ)) (event : EventAt) → words ≢ [] → length front < most
    → event_at words ≡ Some (event, left) → last_gap front ≤ event.gap → with_front most front words ≡ with_front most (front ++ event ∷ []) left
front_more most front words left event some room e rises =
    let yes : nat_le (last_gap front) event.gap ≡ true = grind (arith, nat_tests) in
    let len : length (front ++ event ∷ []) ≡ suc (length front) = length-append front (event ∷ []) ∙ omega arith in
    front_step most front words (Some (event, left)) some room e
    ∙ rw (yes, len, last_gap_from-push 0 front event) (behind_more front event (events_from (most - suc (length front)) event.gap left))

-- a fault at the next event
pub front_fault : (fault : LineFault) (most : ℕ) (front : List EventAt) (words left : List (List ℕ)) (whole : Option (List EventAt)) → words ≢ [] → length front < most
    → with_front most front words ≡ whole → Reads {X = EventAt} (λ e. e) (Err fault) left (event_at words) → Spells {X = List EventAt} (λ e. e) (Err fault) whole
front_fault Bad most front words left whole some room is h = sym is ∙ front_bad most front words some room h
front_fault Memory most front words left whole some room is h = tt

-- with no front the events are all of them
pub no_front : (events : Option (List EventAt)) → events_behind [] events ≡ events
no_front None = refl
no_front (Some events) = refl
