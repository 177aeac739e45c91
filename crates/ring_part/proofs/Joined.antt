-- A buffer joins those of a list by rising id, and is the last of those that it has.
use Rattle.std.proofs.Common.{◌≡◌, ℕ, List, [], ◌∷◌, ◌++◌, true, false, eqb, Some, refl, sym, ◌∙◌, ap, subst, inl, inr}
use Rattle.std.specs.Prelude.{All}
use Rattle.std.proofs.lemmas.Bool.{cases_Bool, eq-eqb, ne_eqb, cond-true, cond-false}
use Rattle.std.proofs.lemmas.List.Elements.{All-head, All-tail}
use Rattle.vq_common.specs.Queue.{Unreaped, unreaped_with, with_buffer, without}
use Rattle.vq_posted.proofs.Buffers.{joins}
use Rattle.ring_part.specs.Held.{Held, HasThese, unreaped_of}

-- where a buffer stands once that with another id left
record StillIn (id : ℕ) (front : List Unreaped) (u : Unreaped) (back : List Unreaped) : Type 0 where
  pub front2 : List Unreaped
  pub back2 : List Unreaped
  pub others : without id (front ++ back) ≡ front2 ++ back2
  pub all : without id (front ++ u ∷ back) ≡ front2 ++ u ∷ back2
  pub found : unreaped_with id (front ++ u ∷ back) ≡ unreaped_with id (front ++ back)

still_in : (id : ℕ) (front : List Unreaped) (u : Unreaped) (back : List Unreaped) → (u.id ≡ id → ⊥) → StillIn id front u back
still_in id [] u back other =
    let f : eqb u.id id ≡ false = ne_eqb u.id id other in
    record { front2 = []; back2 = without id back; others = refl; all = cond-false (eqb u.id id) back (u ∷ without id back) f; found = cond-false (eqb u.id id) (Some u) (unreaped_with id back) f }
still_in id (x ∷ front) u back other =
    elim (cases_Bool (eqb x.id id)) [
      | inl t ↦ record {
        front2 = front;
        back2 = back;
        others = cond-true (eqb x.id id) (front ++ back) (x ∷ without id (front ++ back)) t;
        all = cond-true (eqb x.id id) (front ++ u ∷ back) (x ∷ without id (front ++ u ∷ back)) t;
        found = cond-true (eqb x.id id) (Some x) (unreaped_with id (front ++ u ∷ back)) t ∙ sym (cond-true (eqb x.id id) (Some x) (unreaped_with id (front ++ back)) t);
      }
      | inr f ↦
          let i : StillIn id front u back = still_in id front u back other in
          record {
            front2 = x ∷ i.front2;
            back2 = i.back2;
            others = cond-false (eqb x.id id) (front ++ back) (x ∷ without id (front ++ back)) f ∙ ap (λ (ys : List Unreaped). x ∷ ys) i.others;
            all = cond-false (eqb x.id id) (front ++ u ∷ back) (x ∷ without id (front ++ u ∷ back)) f ∙ ap (λ (ys : List Unreaped). x ∷ ys) i.all;
            found = cond-false (eqb x.id id) (Some x) (unreaped_with id (front ++ u ∷ back)) f ∙ i.found ∙ sym (cond-false (eqb x.id id) (Some x) (unreaped_with id (front ++ back)) f);
          }
    ]

-- one alone
has_one : (h : Held) → HasThese (unreaped_of h ∷ []) (h ∷ [])
has_one h =
    let same : eqb h.head h.head ≡ true = eq-eqb h.head h.head refl in
    (cond-true (eqb h.head h.head) (Some (unreaped_of h)) (unreaped_with h.head []) same, cond-true (eqb h.head h.head) [] (unreaped_of h ∷ []) same)

none_around : (front back : List Unreaped) (u : Unreaped) → front ++ back ≡ [] → front ++ u ∷ back ≡ u ∷ []
none_around [] [] u none = refl
none_around [] (x ∷ back) u none = absurd (cc)
none_around (x ∷ front) back u none = absurd (cc)

has_inserted : (front back : List Unreaped) (hs : List Held) (h : Held) → All (λ (k : Held). h.head ≡ k.head → ⊥) hs → HasThese (front ++ back) hs
    → HasThese (front ++ unreaped_of h ∷ back) (hs ++ h ∷ [])
has_inserted front back [] h new none = subst (λ (us : List Unreaped). HasThese us (h ∷ [])) (sym (none_around front back (unreaped_of h) none)) (has_one h)
has_inserted front back (k ∷ hs) h new (found, has) =
    let i : StillIn k.head front (unreaped_of h) back = still_in k.head front (unreaped_of h) back (All-head (λ (k : Held). h.head ≡ k.head → ⊥) k hs new) in (
      i.found ∙ found,
      subst (λ (us : List Unreaped). HasThese us (hs ++ h ∷ [])) (sym i.all)
          (has_inserted i.front2 i.back2 hs h (All-tail (λ (k : Held). h.head ≡ k.head → ⊥) k hs new) (subst (λ (us : List Unreaped). HasThese us hs) i.others has)),
    )

pub has_joined : (us : List Unreaped) (hs : List Held) (h : Held) → All (λ (k : Held). h.head ≡ k.head → ⊥) hs → HasThese us hs → HasThese (with_buffer (unreaped_of h) us) (hs ++ h ∷ [])
has_joined us hs h new has =
    let (front, back, j) = joins (unreaped_of h) us in
    subst (λ (vs : List Unreaped). HasThese vs (hs ++ h ∷ [])) (sym j.all) (has_inserted front back hs h new (subst (λ (vs : List Unreaped). HasThese vs hs) j.others has))
