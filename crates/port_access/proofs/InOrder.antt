-- Accesses one after the other.
use Rattle.std.proofs.Common.{◌≡◌, ℕ, List, [], ◌∷◌, ◌++◌, Bool, true, false, not, cond, refl, subst}
use Rattle.vt_types.specs.declared.access.Answer.{Answer}
use Rattle.vt_types.specs.Access.{AccessValue, Get, Put}
use Rattle.vt_types.specs.Program.{Program, Do, End, Gives, Does, do_all}
use Rattle.vt_types.proofs.Programs.{gives_then, gives_do_all, do_all-append}
use Rattle.port_access.specs.Accesses.{bytes_or_zeros, get_bytes, mark_unless, mark_alone}

-- a test turned round, as a choice
pub not_by_cases : (b : Bool) → not b ≡ cond b false true
not_by_cases true = refl
not_by_cases false = refl

module _ {P : Type 0} (step : P → AccessValue → Answer → List ℕ → List ℕ → P → Type 0) (marking : P → P → Type 0) where
  -- accesses, and then more
  pub does_then : (first second : List AccessValue) (p mid p2 : P) → Does step marking first p mid → Does step marking second mid p2 → Does step marking (first ++ second) p p2
  does_then first second p mid p2 done more =
      rw do_all-append (gives_do_all step marking {Y = Unit {0}} first (do_all second (End tt)) p mid p2 tt done more)

  -- a put, with its location and bytes under other names
  pub does_put_at : (a b : ℕ) (xs ys : List ℕ) (p p2 : P) → a ≡ b → xs ≡ ys → Does step marking (Put a xs ∷ []) p p2 → Does step marking (Put b ys ∷ []) p p2
  does_put_at a b xs ys p p2 e f done =
      subst (λ (zs : List ℕ). Does step marking (Put b zs ∷ []) p p2) f (subst (λ (n : ℕ). Does step marking (Put n xs ∷ []) p p2) e done)

  -- a mark where it is due, and then a program
  pub mark_then : {X : Type 0} (marked : Bool) (next : Program X) (p mid p2 : P) (x : X) → Gives step marking (mark_alone marked) p tt mid → Gives step marking next mid x p2 → Gives step marking (mark_unless marked next) p x p2
  mark_then true next p mid p2 x (e, stays) after = subst (λ (m : P). Gives step marking next m x p2) stays after
  mark_then false next p mid p2 x (between, m, (e, stays)) after = (between, m, subst (λ (m : P). Gives step marking next m x p2) stays after)

  -- bytes are got, and then a program
  pub get_then : {X : Type 0} (addr count : ℕ) (next : List ℕ → Program X) (p mid p2 : P) (bytes : List ℕ) (x : X) → Gives step marking (get_bytes addr count) p bytes mid → Gives step marking (next bytes) mid x p2
      → Gives step marking (Do (Get addr count) (λ _ more. next (bytes_or_zeros count more))) p x p2
  get_then addr count next p mid p2 bytes x done after = gives_then step marking (get_bytes addr count) next p mid p2 bytes x done after
