-- What holds of each posted buffer, and the one that is found.
use Rattle.std.proofs.Common.{◌≡◌, ℕ, List, [], ◌∷◌, Some, eqb, ltb, refl, sym, ap, inl, inr}
use Rattle.std.specs.Prelude.{All}
use Rattle.std.proofs.lemmas.Bool.{cases_Bool, eqb-true}
use Rattle.std.proofs.lemmas.List.Elements.{All-cons, All-head, All-tail}
use Rattle.vq_common.specs.Queue.{Unreaped, unreaped_with, with_buffer, without}
use Rattle.vq_posted.specs.declared.entry.Found.{Found}
use Rattle.vq_posted.specs.Table.{found_of}

-- what is told of a buffer with this id
pub record IsFound (id : ℕ) (us : List Unreaped) (found : Found) (u : Unreaped) : Type 0 where
  pub named : unreaped_with id us ≡ Some u
  pub is : u.id ≡ id
  pub tag : u.tag ≡ found.tag
  pub slots : u.slots ≡ found.slots
  pub readable : u.readable ≡ found.readable

module _ (P : Unreaped → Type 0) where
  -- one more buffer
  pub each-with_buffer : (u : Unreaped) (us : List Unreaped) → P u → All P us → All P (with_buffer u us)
  each-with_buffer u [] this each = All-cons P u [] this each
  each-with_buffer u (v ∷ vs) this each =
      let rest : All P (with_buffer u vs) = each-with_buffer u vs this (All-tail P v vs each) in
      elim (cases_Bool (ltb u.id v.id)) [
        | inl t ↦ rw t (All-cons P u (v ∷ vs) this each)
        | inr f ↦ rw f (All-cons P v (with_buffer u vs) (All-head P v vs each) rest)
      ]

  -- one buffer less
  pub each-without : (id : ℕ) (us : List Unreaped) → All P us → All P (without id us)
  each-without id [] each = each
  each-without id (u ∷ us) each =
      let rest : All P us = All-tail P u us each in
      elim (cases_Bool (eqb u.id id)) [
        | inl t ↦ rw t rest
        | inr f ↦ rw f (All-cons P u (without id us) (All-head P u us each) (each-without id us rest))
      ]

  -- a buffer of which something is told
  pub found_at : (id : ℕ) (us : List Unreaped) (found : Found) → All P us → Some found ≡ found_of (unreaped_with id us) → (u : Unreaped) × IsFound id us found u × P u
  found_at id [] found each e = absurd (cc)
  found_at id (u ∷ us) found each e =
      elim (cases_Bool (eqb u.id id)) [
        | inl t ↦
            let is : found ≡ record { tag = u.tag; slots = u.slots; readable = u.readable } = let same : Some found ≡ Some (record { tag = u.tag; slots = u.slots; readable = u.readable }) = rw t at e in cc in
            let told : IsFound id (u ∷ us) found u
            = record {
              named = rw t refl;
              is = eqb-true u.id id t;
              tag = sym (ap (λ (f : Found). f.tag) is);
              slots = sym (ap (λ (f : Found). f.slots) is);
              readable = sym (ap (λ (f : Found). f.readable) is);
            }
            in
            (u, told, All-head P u us each)
        | inr f ↦
            let (v, k, h) = found_at id us found (All-tail P u us each) (rw f at e) in
            let told : IsFound id (u ∷ us) found v = record { named = rw f k.named; is = k.is; tag = k.tag; slots = k.slots; readable = k.readable } in
            (v, told, h)
      ]
