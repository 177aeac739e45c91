-- A table in which each buffer has the location of its id, as a list.
use Rattle.std.proofs.Common.{◌≡◌, ℕ, zero, suc, ◌+◌, ◌<◌, List, [], ◌∷◌, true, eqb, ltb, get_or, replicate, length, Option, Some, None, refl, sym, ◌∙◌, ap, arith}
use Rattle.std.specs.Prelude.{IsTrue, slice_set, option_map}
use Rattle.std.specs.List.{list_all}
use Rattle.std.proofs.lemmas.Bool.{lt-ltb, le-ltb, eq-eqb, ne_eqb, and_from, cond-true, cond-false}
use Rattle.vq_common.specs.Queue.{Unreaped, with_buffer, unreaped_with, without}
use Rattle.vq_posted.specs.Order.{ids_rise}
use Rattle.vq_posted.specs.Table.{entry_at, entries}
use Rattle.vq_posted.specs.declared.entry.Posted.{Posted}

-- each id is at least the first location's number
entries_above : (id from : ℕ) (locations : List (Option Posted)) → id < from → list_all (λ (v : Unreaped). ltb id v.id) (entries from locations) ≡ true
entries_above id from [] low = refl
entries_above id from (None ∷ locations) low = entries_above id (from + 1) locations (omega arith)
entries_above id from (Some p ∷ locations) low = and_from (ltb id from) _ (lt-ltb id from low) (entries_above id (from + 1) locations (omega arith))

pub entries_rise : (from : ℕ) (locations : List (Option Posted)) → IsTrue (ids_rise (entries from locations))
entries_rise from [] = refl
entries_rise from (None ∷ locations) = entries_rise (from + 1) locations
entries_rise from (Some p ∷ locations) =
    and_from _ (ids_rise (entries (from + 1) locations)) (entries_above from (from + 1) locations (omega arith)) (entries_rise (from + 1) locations)

-- no entry has a lower id
none_lower : (id from : ℕ) (locations : List (Option Posted)) → id < from → unreaped_with id (entries from locations) ≡ None
none_lower id from [] low = refl
none_lower id from (None ∷ locations) low = none_lower id (from + 1) locations (omega arith)
none_lower id from (Some p ∷ locations) low =
    cond-false (eqb from id) (Some (entry_at from p)) (unreaped_with id (entries (from + 1) locations)) (ne_eqb from id (λ e. omega arith))
    ∙ none_lower id (from + 1) locations (omega arith)

stays_lower : (id from : ℕ) (locations : List (Option Posted)) → id < from → without id (entries from locations) ≡ entries from locations
stays_lower id from [] low = refl
stays_lower id from (None ∷ locations) low = stays_lower id (from + 1) locations (omega arith)
stays_lower id from (Some p ∷ locations) low =
    cond-false (eqb from id) (entries (from + 1) locations) (entry_at from p ∷ without id (entries (from + 1) locations)) (ne_eqb from id (λ e. omega arith))
    ∙ ap (λ (us : List Unreaped). entry_at from p ∷ us) (stays_lower id (from + 1) locations (omega arith))

-- one with a lower id comes first
joins_first : (u : Unreaped) (from : ℕ) (locations : List (Option Posted)) → u.id < from → with_buffer u (entries from locations) ≡ u ∷ entries from locations
joins_first u from [] low = refl
joins_first u from (None ∷ locations) low = joins_first u (from + 1) locations (omega arith)
joins_first u from (Some p ∷ locations) low =
    cond-true (ltb u.id from) (u ∷ entry_at from p ∷ entries (from + 1) locations) (entry_at from p ∷ with_buffer u (entries (from + 1) locations)) (lt-ltb u.id from low)

-- the buffer with an id is the one at that location
pub entry_with : (locations : List (Option Posted)) (id from i : ℕ) → id ≡ from + i → unreaped_with id (entries from locations) ≡ option_map (entry_at id) (get_or locations i None)
entry_with [] id from i e = refl
entry_with (None ∷ locations) id from zero e = none_lower id (from + 1) locations (omega arith)
entry_with (Some p ∷ locations) id from zero e =
    let same : from ≡ id = omega arith in
    cond-true (eqb from id) (Some (entry_at from p)) (unreaped_with id (entries (from + 1) locations)) (eq-eqb from id same)
    ∙ ap (λ (k : ℕ). Some (entry_at k p)) same
entry_with (None ∷ locations) id from (suc i) e = entry_with locations id (from + 1) i (omega arith)
entry_with (Some p ∷ locations) id from (suc i) e =
    cond-false (eqb from id) (Some (entry_at from p)) (unreaped_with id (entries (from + 1) locations)) (ne_eqb from id (λ w. omega arith))
    ∙ entry_with locations id (from + 1) i (omega arith)

-- where a location is cleared, the list is without that buffer
pub entries_without : (locations : List (Option Posted)) (id from i : ℕ) → id ≡ from + i → entries from (slice_set locations i None) ≡ without id (entries from locations)
entries_without [] id from i e = refl
entries_without (None ∷ locations) id from zero e = sym (stays_lower id (from + 1) locations (omega arith))
entries_without (Some p ∷ locations) id from zero e =
    sym (cond-true (eqb from id) (entries (from + 1) locations) (entry_at from p ∷ without id (entries (from + 1) locations)) (eq-eqb from id (omega arith)))
entries_without (None ∷ locations) id from (suc i) e = entries_without locations id (from + 1) i (omega arith)
entries_without (Some p ∷ locations) id from (suc i) e =
    ap (λ (us : List Unreaped). entry_at from p ∷ us) (entries_without locations id (from + 1) i (omega arith))
    ∙ sym (cond-false (eqb from id) (entries (from + 1) locations) (entry_at from p ∷ without id (entries (from + 1) locations)) (ne_eqb from id (λ w. omega arith)))

-- where a free location is taken, the list is with that buffer
pub entries_with : (locations : List (Option Posted)) (p : Posted) (id from i : ℕ) → id ≡ from + i → i < length locations → get_or locations i None ≡ None
    → entries from (slice_set locations i (Some p)) ≡ with_buffer (entry_at id p) (entries from locations)
entries_with [] p id from i e inside free = absurd (omega arith)
entries_with (None ∷ locations) p id from zero e inside free =
    let same : from ≡ id = omega arith in
    ap (λ (k : ℕ). entry_at k p ∷ entries (from + 1) locations) same ∙ sym (joins_first (entry_at id p) (from + 1) locations (omega arith))
entries_with (Some q ∷ locations) p id from zero e inside free = absurd (let some : Some q ≡ None = free in cc)
entries_with (None ∷ locations) p id from (suc i) e inside free = entries_with locations p id (from + 1) i (omega arith) (omega arith) free
entries_with (Some q ∷ locations) p id from (suc i) e inside free =
    ap (λ (us : List Unreaped). entry_at from q ∷ us) (entries_with locations p id (from + 1) i (omega arith) (omega arith) free)
    ∙ sym (cond-false (ltb id from) (entry_at id p ∷ entry_at from q ∷ entries (from + 1) locations) (entry_at from q ∷ with_buffer (entry_at id p) (entries (from + 1) locations)) (le-ltb id from (omega arith)))

-- a table of free locations has no entries
pub entries_of_none : (from count : ℕ) → entries from (replicate count None) ≡ []
entries_of_none from zero = refl
entries_of_none from (suc count) = entries_of_none (from + 1) count
