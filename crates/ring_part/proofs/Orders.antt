-- Whichever of its buffers may be named first of a list.
use Rattle.std.proofs.Common.{◌≡◌, ℕ, List, [], ◌∷◌, ◌++◌, true, false, eqb, Some, IsTrue, refl, sym, ◌∙◌, ap, subst, inl, inr}
use Rattle.std.proofs.lemmas.Bool.{false≢true, cases_Bool, or_left, or_right, or_parts, eqb-true, eq-eqb, cond-true, cond-false, false_from_ne_true}
use Rattle.vq_common.specs.Queue.{Unreaped, unreaped_with, without}
use Rattle.vq_posted.specs.Free.{is_distinct, is_in}
use Rattle.vq_posted.proofs.Members.{is_in-append, distinct_parts, distinct_back}
use Rattle.ring_part.specs.Held.{Held, HasThese}
use Rattle.ring_part.proofs.Records.{locations_of}

-- a record with one id has no other
other_id : (x id other : ℕ) → (id ≡ other → ⊥) → eqb x other ≡ true → eqb x id ≡ false
other_id x id other ne t = false_from_ne_true (eqb x id) (λ s. ne (sym (eqb-true x id s) ∙ eqb-true x other t))

-- a buffer is found as well where another one left
pub found_without : (id other : ℕ) (us : List Unreaped) → (id ≡ other → ⊥) → unreaped_with id (without other us) ≡ unreaped_with id us
found_without id other [] ne = refl
found_without id other (x ∷ us) ne =
    elim (cases_Bool (eqb x.id other)) [
      | inl t ↦ ap (unreaped_with id) (cond-true (eqb x.id other) us (x ∷ without other us) t) ∙ sym (cond-false (eqb x.id id) (Some x) (unreaped_with id us) (other_id x.id id other ne t))
      | inr f ↦
          ap (unreaped_with id) (cond-false (eqb x.id other) us (x ∷ without other us) f)
          ∙ elim (cases_Bool (eqb x.id id)) [
            | inl t ↦ cond-true (eqb x.id id) (Some x) (unreaped_with id (without other us)) t ∙ sym (cond-true (eqb x.id id) (Some x) (unreaped_with id us) t)
            | inr g ↦ cond-false (eqb x.id id) (Some x) (unreaped_with id (without other us)) g ∙ found_without id other us ne ∙ sym (cond-false (eqb x.id id) (Some x) (unreaped_with id us) g)
          ]
    ]

-- two leave in either order
without_twice : (id other : ℕ) (us : List Unreaped) → (id ≡ other → ⊥) → without id (without other us) ≡ without other (without id us)
without_twice id other [] ne = refl
without_twice id other (x ∷ us) ne =
    elim (cases_Bool (eqb x.id other)) [
      | inl t ↦
          let f : eqb x.id id ≡ false = other_id x.id id other ne t in
          ap (without id) (cond-true (eqb x.id other) us (x ∷ without other us) t)
          ∙ sym (ap (without other) (cond-false (eqb x.id id) us (x ∷ without id us) f) ∙ cond-true (eqb x.id other) (without id us) (x ∷ without other (without id us)) t)
      | inr f ↦
          ap (without id) (cond-false (eqb x.id other) us (x ∷ without other us) f)
          ∙ elim (cases_Bool (eqb x.id id)) [
            | inl t ↦ cond-true (eqb x.id id) (without other us) (x ∷ without id (without other us)) t ∙ sym (ap (without other) (cond-true (eqb x.id id) us (x ∷ without id us) t))
            | inr g ↦
                cond-false (eqb x.id id) (without other us) (x ∷ without id (without other us)) g
                ∙ ap (λ ys. x ∷ ys) (without_twice id other us ne)
                ∙ sym (ap (without other) (cond-false (eqb x.id id) us (x ∷ without id us) g) ∙ cond-false (eqb x.id other) (without id us) (x ∷ without other (without id us)) f)
          ]
    ]

-- the head of a buffer is in use
head_among : (xs : List Held) (h : Held) (ys : List Held) → is_in h.head (locations_of (xs ++ h ∷ ys)) ≡ true
head_among [] h ys = or_left (eqb h.head h.head) (is_in h.head (h.others ++ locations_of ys)) (eq-eqb h.head h.head refl)
head_among (x ∷ xs) h ys = is_in-append h.head (x.head ∷ x.others) (locations_of (xs ++ h ∷ ys)) ∙ or_right (is_in h.head (x.head ∷ x.others)) (is_in h.head (locations_of (xs ++ h ∷ ys))) (head_among xs h ys)

-- no two buffers have the same head
pub heads_differ : (x : Held) (xs : List Held) (h : Held) (ys : List Held) → IsTrue (is_distinct (locations_of (x ∷ xs ++ h ∷ ys))) → h.head ≡ x.head → ⊥
heads_differ x xs h ys distinct same =
    let (out, rest) = distinct_parts x.head (x.others ++ locations_of (xs ++ h ∷ ys)) distinct in
    let (a, b) = or_parts (is_in x.head x.others) (is_in x.head (locations_of (xs ++ h ∷ ys))) (sym (is_in-append x.head x.others (locations_of (xs ++ h ∷ ys))) ∙ out) in
    false≢true (sym b ∙ ap (λ k. is_in k (locations_of (xs ++ h ∷ ys))) (sym same) ∙ head_among xs h ys)

-- a buffer is named before those in front of it
pub named_first : (us : List Unreaped) (xs : List Held) (h : Held) (ys : List Held) → IsTrue (is_distinct (locations_of (xs ++ h ∷ ys))) → HasThese us (xs ++ h ∷ ys) → HasThese us (h ∷ (xs ++ ys))
named_first us [] h ys distinct has = has
named_first us (x ∷ xs) h ys distinct (found, has) =
    let ne : h.head ≡ x.head → ⊥ = heads_differ x xs h ys distinct in
    let (named, rest) = named_first (without x.head us) xs h ys (distinct_back (x.head ∷ x.others) (locations_of (xs ++ h ∷ ys)) distinct) has in (
      sym (found_without h.head x.head us ne) ∙ named,
      (found_without x.head h.head us (λ e. ne (sym e)) ∙ found, subst (λ vs. HasThese vs (xs ++ ys)) (without_twice h.head x.head us ne) rest),
    )

-- the same behind some that stay in front
pub named_first_behind : (us : List Unreaped) (zs xs : List Held) (h : Held) (ys : List Held) → IsTrue (is_distinct (locations_of (zs ++ (xs ++ h ∷ ys)))) → HasThese us (zs ++ (xs ++ h ∷ ys)) → HasThese us (zs ++ h ∷ (xs ++ ys))
named_first_behind us [] xs h ys distinct has = named_first us xs h ys distinct has
named_first_behind us (z ∷ zs) xs h ys distinct (found, has) =
    (found, named_first_behind (without z.head us) zs xs h ys (distinct_back (z.head ∷ z.others) (locations_of (zs ++ (xs ++ h ∷ ys))) distinct) has)
