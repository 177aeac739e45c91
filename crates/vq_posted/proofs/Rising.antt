-- Ids that rise: with one buffer more, and with one fewer.
use Rattle.std.proofs.Common.{◌≡◌, ℕ, ◌-◌, ◌<◌, ◌≤◌, List, [], ◌∷◌, Bool, true, false, eqb, ltb, length, take, Some, None, refl, sym, ◌∙◌, ap, subst, inl, inr, arith}
use Rattle.std.specs.Prelude.{IsTrue}
use Rattle.std.specs.List.{list_all}
use Rattle.std.proofs.lemmas.Bool.{cases_Bool, and_parts, and_from, lt-ltb, ltb-true, cond-true, cond-false}
use Rattle.std.proofs.lemmas.Bool.Decides.{nat_tests}
use Rattle.vq_common.specs.Queue.{Unreaped, slots_of_all, with_buffer, unreaped_with, without, holds_tag}
use Rattle.vq_posted.specs.Free.{free_descriptors, is_in}
use Rattle.vq_posted.specs.Order.{IsBuffer, IsInOrder, ids_rise}
use Rattle.vq_posted.proofs.Buffers.{head_is_in, in_order_joined, in_order_left, lowest_free-apart, none_with_free_id}

-- all ids are above one
abbrev ids_above : ℕ → List Unreaped → Bool
ids_above id us = list_all (λ (v : Unreaped). ltb id v.id) us

above_lower : (low high : ℕ) (us : List Unreaped) → low < high → IsTrue (ids_above high us) → IsTrue (ids_above low us)
above_lower low high [] less above = refl
above_lower low high (u ∷ us) less above =
    let (first, others) = and_parts (ltb high u.id) (ids_above high us) above in
    and_from (ltb low u.id) (ids_above low us) (grind (arith, nat_tests)) (above_lower low high us less others)

above_without : (low id : ℕ) (us : List Unreaped) → IsTrue (ids_above low us) → IsTrue (ids_above low (without id us))
above_without low id [] above = refl
above_without low id (u ∷ us) above =
    let (first, others) = and_parts (ltb low u.id) (ids_above low us) above in
    elim (cases_Bool (eqb u.id id)) [
      | inl t ↦ subst (λ (vs : List Unreaped). IsTrue (ids_above low vs)) (sym (cond-true (eqb u.id id) us (u ∷ without id us) t)) others
      | inr f ↦ subst (λ (vs : List Unreaped). IsTrue (ids_above low vs)) (sym (cond-false (eqb u.id id) us (u ∷ without id us) f))
          (and_from (ltb low u.id) (ids_above low (without id us)) first (above_without low id us others))
    ]

above_joined : (low : ℕ) (u : Unreaped) (us : List Unreaped) → low < u.id → IsTrue (ids_above low us) → IsTrue (ids_above low (with_buffer u us))
above_joined low u [] less above = and_from (ltb low u.id) true (lt-ltb low u.id less) refl
above_joined low u (v ∷ vs) less above =
    let (first, others) = and_parts (ltb low v.id) (ids_above low vs) above in
    elim (cases_Bool (ltb u.id v.id)) [
      | inl t ↦ subst (λ (ws : List Unreaped). IsTrue (ids_above low ws)) (sym (cond-true (ltb u.id v.id) (u ∷ v ∷ vs) (v ∷ with_buffer u vs) t))
          (and_from (ltb low u.id) (ids_above low (v ∷ vs)) (lt-ltb low u.id less) above)
      | inr f ↦ subst (λ (ws : List Unreaped). IsTrue (ids_above low ws)) (sym (cond-false (ltb u.id v.id) (u ∷ v ∷ vs) (v ∷ with_buffer u vs) f))
          (and_from (ltb low v.id) (ids_above low (with_buffer u vs)) first (above_joined low u vs less others))
    ]

-- an id that names no buffer is not that of the first, and names none of the others
none_among : (id : ℕ) (v : Unreaped) (vs : List Unreaped) → unreaped_with id (v ∷ vs) ≡ None → (eqb v.id id ≡ false) × (unreaped_with id vs ≡ None)
none_among id v vs none =
    elim (cases_Bool (eqb v.id id)) [
      | inl t ↦ absurd (let some : Some v ≡ None = sym (cond-true (eqb v.id id) (Some v) (unreaped_with id vs) t) ∙ none in cc)
      | inr f ↦ (f, sym (cond-false (eqb v.id id) (Some v) (unreaped_with id vs) f) ∙ none)
    ]

-- ids rise once a buffer with a new one joined
pub rise_joined : (u : Unreaped) (us : List Unreaped) → IsTrue (ids_rise us) → unreaped_with u.id us ≡ None → IsTrue (ids_rise (with_buffer u us))
rise_joined u [] rise new = refl
rise_joined u (v ∷ vs) rise new =
    let (above, others) = and_parts (ids_above v.id vs) (ids_rise vs) rise in
    let (other, none) = none_among u.id v vs new in
    elim (cases_Bool (ltb u.id v.id)) [
      | inl t ↦ subst (λ (ws : List Unreaped). IsTrue (ids_rise ws)) (sym (cond-true (ltb u.id v.id) (u ∷ v ∷ vs) (v ∷ with_buffer u vs) t))
          (and_from (ids_above u.id (v ∷ vs)) (ids_rise (v ∷ vs)) (and_from (ltb u.id v.id) (ids_above u.id vs) t (above_lower u.id v.id vs (ltb-true u.id v.id t) above)) rise)
      | inr f ↦
          let less : v.id < u.id = grind (arith, nat_tests) in
          subst (λ (ws : List Unreaped). IsTrue (ids_rise ws)) (sym (cond-false (ltb u.id v.id) (u ∷ v ∷ vs) (v ∷ with_buffer u vs) f))
          (and_from (ids_above v.id (with_buffer u vs)) (ids_rise (with_buffer u vs)) (above_joined v.id u vs less above) (rise_joined u vs others none))
    ]

-- and once one left
pub rise_left : (id : ℕ) (us : List Unreaped) → IsTrue (ids_rise us) → IsTrue (ids_rise (without id us))
rise_left id [] rise = refl
rise_left id (u ∷ us) rise =
    let (above, others) = and_parts (ids_above u.id us) (ids_rise us) rise in
    elim (cases_Bool (eqb u.id id)) [
      | inl t ↦ subst (λ (vs : List Unreaped). IsTrue (ids_rise vs)) (sym (cond-true (eqb u.id id) us (u ∷ without id us) t)) others
      | inr f ↦ subst (λ (vs : List Unreaped). IsTrue (ids_rise vs)) (sym (cond-false (eqb u.id id) us (u ∷ without id us) f))
          (and_from (ids_above u.id (without id us)) (ids_rise (without id us)) (above_without u.id id us above) (rise_left id us others))
    ]

-- a buffer of the lowest free descriptors joins those in order
pub in_order_with : (size : ℕ) (u : Unreaped) (us : List Unreaped) → IsInOrder size us → IsBuffer u → u.descriptors ≡ take (length u.descriptors) (free_descriptors size us)
    → u.slots ≤ size - slots_of_all us → holds_tag u.tag us ≡ false → IsInOrder size (with_buffer u us)
in_order_with size u us order buffer lowest room new =
    let own : is_in u.id u.descriptors ≡ true = ap (λ (n : ℕ). is_in n u.descriptors) buffer.id ∙ head_is_in u.descriptors buffer.some in
    let free : is_in u.id (take (length u.descriptors) (free_descriptors size us)) ≡ true = ap (is_in u.id) (sym lowest) ∙ own in
    let none : unreaped_with u.id us ≡ None = none_with_free_id size u.id us order (lowest_free-apart size (length u.descriptors) us u.id free) in
    in_order_joined size u us order buffer lowest room new (rise_joined u us order.ids none)

-- those in order stay so without one of them
pub in_order_without : (size id : ℕ) (u : Unreaped) (us : List Unreaped) → IsInOrder size us → unreaped_with id us ≡ Some u → IsInOrder size (without id us)
in_order_without size id u us order found = in_order_left size id u us order found (rise_left id us order.ids)
