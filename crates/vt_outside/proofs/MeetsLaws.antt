use Rattle.std.proofs.Common.{◌≡◌, ℕ, List, [], ◌∷◌, ◌++◌, Bool, Option, Some, None, Result, Ok, Err, refl, sym, ◌∙◌, ap, arith, append_assoc, append-nil}
use Rattle.std.specs.Prelude.{is_ok, is_some}
use Rattle.std.proofs.lemmas.List.{append_cancel_left}
use Rattle.vt_outside.specs.declared.failed.Failed.{Failed}
use Rattle.vt_outside.specs.Disk.{DiskView, Called, AddsOutcome}
use Rattle.vt_outside.specs.DiskCall.{DiskState, next_outcome, outcomes_after}
use Rattle.vt_outside.specs.Tripped.{TrippedView}
use Rattle.vt_outside.specs.Meets.{Extends, Goes, Takes, Told, Quiet, state_of, Meets}
use Rattle.vt_outside.proofs.FaultsLaws.{rose_first, rose_last}

-- what calls of a disk leave

extends_still : (a : Option (List Bool)) → Extends a a
extends_still None = tt
extends_still (Some x) = ([], sym (append-nil x))

extends_then : (a b c : Option (List Bool)) → Extends a b → Extends b c → Extends a c
extends_then a b None h k = tt
extends_then a None (Some c) h k = absurd k
extends_then None (Some b) (Some c) h k = absurd h
extends_then (Some a) (Some b) (Some c) (x, h) (y, k) = (x ++ y, k ∙ ap (λ z. z ++ y) h ∙ append_assoc a x y)

extends_one : (a b : Option (List Bool)) (ok : Bool) → AddsOutcome a b ok → Extends a b
extends_one a None ok h = tt
extends_one None (Some y) ok h = absurd h
extends_one (Some x) (Some y) ok h = (ok ∷ [], h)

-- nothing was asked
pub goes_still : (d : DiskView) → Goes d d
goes_still d = record { count = refl; read_only = refl; later = omega arith; tells = refl; outcomes = extends_still d.outcomes }

-- one call after another
pub goes_then : (a b c : DiskView) → Goes a b → Goes b c → Goes a c
goes_then a b c g h = record {
  count = h.count ∙ g.count;
  read_only = h.read_only ∙ g.read_only;
  later = omega arith;
  tells = h.tells ∙ g.tells;
  outcomes = extends_then a.outcomes b.outcomes c.outcomes g.outcomes h.outcomes;
}

-- one call
pub goes_called : (a b : DiskView) (result : Result Unit Failed) → Called a b result → is_some b.image ≡ is_some a.image → Goes a b
goes_called a b result called tells = record {
  count = called.count;
  read_only = called.read_only;
  later = called.later;
  tells = tells;
  outcomes = extends_one a.outcomes b.outcomes (is_ok result) called.outcomes;
}

-- the outcomes that calls take

more_of : (a : Option (List Bool)) (x y added : List Bool) → a ≡ Some x → a ≡ Some y → y ≡ x ++ added → added ≡ []
more_of a x y added e f g = let k : x ++ added ≡ x ++ [] = rw append-nil cc in append_cancel_left x _ _ k

one_of : (a b : Option (List Bool)) (ok : Bool) (x y added : List Bool) → AddsOutcome a b ok → a ≡ Some x → b ≡ Some y → y ≡ x ++ added → added ≡ ok ∷ []
one_of (Some a) (Some b) ok x y added h e f g = let k : x ++ added ≡ x ++ ok ∷ [] = cc in append_cancel_left x _ _ k
one_of None (Some b) ok x y added h e f g = absurd h
one_of a None ok x y added h e f g = cc

-- where nothing was asked, none is taken
pub takes_none : (d : DiskView) (before after : List Bool) → Takes d d before after → before ≡ after
takes_none d before after (Told x y added e f g h) = let k : added ≡ [] = more_of d.outcomes x y added e f g in rw k at h
takes_none d before after (Quiet calm e f) = e ∙ sym f

-- one call takes the front
pub takes_one : (old new : DiskView) (result : Result Unit Failed) (before after : List Bool) → Called old new result → Takes old new before after
    → (next_outcome before ≡ is_ok result) × (outcomes_after before ≡ after)
takes_one old new result before after called (Told x y added e f g h) =
    let one : added ≡ is_ok result ∷ [] = one_of old.outcomes new.outcomes (is_ok result) x y added called.outcomes e f g in
    let all : before ≡ is_ok result ∷ after = rw one at h in
    (ap next_outcome all, ap outcomes_after all)
takes_one old new (Ok x) before after called (Quiet calm e f) = (ap next_outcome e, ap outcomes_after e ∙ sym f)
takes_one old new (Err x) before after called (Quiet calm e f) = absurd (calm called.cause)

extended : (a b : Option (List Bool)) (y : List Bool) → Extends a b → b ≡ Some y → (x : List Bool) × (added : List Bool) × (a ≡ Some x) × (y ≡ x ++ added)
extended (Some a) (Some b) y h e = let k : b ≡ y = cc in (a, h.0, refl, sym k ∙ h.1)
extended None (Some b) y h e = absurd h
extended a None y h e = cc

same_told : (a : Option (List Bool)) (x y : List Bool) → a ≡ Some x → a ≡ Some y → x ≡ y
same_told a x y e f = cc

-- the outcomes of calls are those of the first, followed by those of the others
pub takes_split : (old mid new : DiskView) (before after : List Bool) → Goes old mid → Goes mid new → Takes old new before after
    → (between : List Bool) × Takes old mid before between × Takes mid new between after
takes_split old mid new before after g h (Told x y added e f s all) =
    let (z, more, ez, es) = extended mid.outcomes new.outcomes y h.outcomes f in
    let (x2, some, ex, et) = extended old.outcomes mid.outcomes z g.outcomes ez in
    let same : x2 ≡ x = same_told old.outcomes x2 x ex e in
    let first : z ≡ x ++ some = et ∙ ap (λ w. w ++ some) same in
    let whole : x ++ added ≡ x ++ (some ++ more) = sym s ∙ es ∙ ap (λ w. w ++ more) first ∙ append_assoc x some more in
    let parts : added ≡ some ++ more = append_cancel_left x _ _ whole in (
      more ++ after,
      Told x z some e ez first (all ∙ ap (λ w. w ++ after) parts ∙ append_assoc some more after),
      Told z y more ez f es refl,
    )
takes_split old mid new before after g h (Quiet calm e f) =
    ([], Quiet (λ r. calm (rose_first _ _ _ h.later r)) e refl, Quiet (λ r. calm (rose_last _ _ _ g.later r)) refl f)

-- what calls compute

-- nothing was asked
pub meets_still : {R : Type 0} (f : DiskState → R × DiskState) (old new : TrippedView) (r : R) → new.disk ≡ old.disk
    → ((image : List (List ℕ)) (outcomes : List Bool) → f (state_of old image outcomes) ≡ (r, state_of new image outcomes)) → Meets f old r new
meets_still f old new r same h = record {
  goes = rw same (goes_still old.disk);
  does = λ image before after told takes.
      let t : Takes old.disk old.disk before after = rw same at takes in
      (image, rw same told, rw (← takes_none old.disk before after t) (h image before));
}

-- another function that does the same
pub meets_to : {R S : Type 0} (f : DiskState → R × DiskState) (g : DiskState → S × DiskState) (old new : TrippedView) (r : R) (s : S)
    → ((before after : DiskState) → f before ≡ (r, after) → g before ≡ (s, after)) → Meets f old r new → Meets g old s new
meets_to f g old new r s h m = record {
  goes = m.goes;
  does = λ image before after told takes.
      let (image2, told2, e) = m.does image before after told takes in
      (image2, told2, h _ _ e);
}

-- some calls, and then others, whose function may rest on the answer of the first
pub meets_then : {R S T : Type 0} (f : DiskState → R × DiskState) (g : DiskState → S × DiskState) (k : DiskState → T × DiskState) (old mid new : TrippedView) (r : R) (s : S) (t : T)
    → ((before between after : DiskState) → f before ≡ (r, between) → g between ≡ (s, after) → k before ≡ (t, after))
    → Meets f old r mid → Meets g mid s new → Meets k old t new
meets_then f g k old mid new r s t h m n = record {
  goes = goes_then old.disk mid.disk new.disk m.goes n.goes;
  does = λ image before after told takes.
      let (between, take1, take2) = takes_split old.disk mid.disk new.disk before after m.goes n.goes takes in
      let (image1, told1, e1) = m.does image before between told take1 in
      let (image2, told2, e2) = n.does image1 between after told1 take2 in
      (image2, told2, h _ _ _ e1 e2);
}
