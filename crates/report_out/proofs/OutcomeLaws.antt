use Rattle.std.proofs.Common.{◌≡◌, ℕ, ◌≤◌, List, [], ◌∷◌, ◌++◌, length, drop, Bool, Option, Some, None, refl, sym, ◌∙◌, ap, append_assoc, append-nil}
use Rattle.std.proofs.lemmas.List.{append_cancel_left}
use Rattle.std.proofs.Math.Seq.{drop-append_seam, drop-nil}
use Rattle.std.specs.Prelude.{Result, Ok, Err, is_ok}
use Rattle.vt_outside.specs.declared.failed.Failed.{Failed}
use Rattle.vt_outside.specs.Disk.{DiskView, AddsOutcome, Called}
use Rattle.vt_outside.proofs.FaultsLaws.{rose_first, rose_last}
use Rattle.report_out.specs.DiskCalls.{AddsOutcomes, AreOutcomes, Told, Calm, TakesOutcomes, TakesTold, TakesNone}
use Rattle.report_out.specs.EndText.{first_outcome}

-- a disk that was not asked has no outcome added
pub outcomes_none : (a : Option (List Bool)) → AddsOutcomes a a []
outcomes_none None = tt
outcomes_none (Some x) = sym (append-nil x)

-- one call adds its outcome
pub outcomes_one : (a b : Option (List Bool)) (x : Bool) → AddsOutcome a b x → AddsOutcomes a b (x ∷ [])
outcomes_one a None x h = tt
outcomes_one None (Some b) x h = h
outcomes_one (Some a) (Some b) x h = h

-- some calls after others
pub outcomes_then : (a b c : Option (List Bool)) (x y : List Bool) → AddsOutcomes a b x → AddsOutcomes b c y → AddsOutcomes a c (x ++ y)
outcomes_then a b None x y h g = tt
outcomes_then a None (Some c) x y h g = absurd g
outcomes_then None (Some b) (Some c) x y h g = absurd h
outcomes_then (Some a) (Some b) (Some c) x y h g = g ∙ ap (λ (z : List Bool). z ++ y) h ∙ append_assoc a x y

-- where all outcomes were told, those of the first calls and those of the later ones were
told_then : (a b c : Option (List Bool)) (x y before taken : List Bool) → AddsOutcomes a b x → AddsOutcomes b c y → a ≡ Some before → c ≡ Some (before ++ taken)
    → (b ≡ Some (before ++ x)) × (c ≡ Some ((before ++ x) ++ y)) × (taken ≡ x ++ y)
told_then a b None x y before taken h g ea ec = absurd cc
told_then a None (Some c) x y before taken h g ea ec = absurd g
told_then None (Some b) (Some c) x y before taken h g ea ec = absurd h
told_then (Some a) (Some b) (Some c) x y before taken h g ea ec =
    let same : a ≡ before = cc in
    let mid : b ≡ before ++ x = h ∙ ap (λ (z : List Bool). z ++ x) same in
    let end : c ≡ (before ++ x) ++ y = g ∙ ap (λ (z : List Bool). z ++ y) mid in
    let all : c ≡ before ++ taken = cc in
    (ap (λ (z : List Bool). Some z) mid, ap (λ (z : List Bool). Some z) end, append_cancel_left before taken (x ++ y) (sym all ∙ end ∙ append_assoc before x y))

-- n calls and then others take the first n outcomes and then the next
pub takes_then : (d d1 d2 : DiskView) (x y before after : List Bool) (n : ℕ) → AddsOutcomes d.outcomes d1.outcomes x → length x ≡ n → AddsOutcomes d1.outcomes d2.outcomes y
    → d.faults ≤ d1.faults → d1.faults ≤ d2.faults → TakesOutcomes d d2 before after → TakesOutcomes d d1 before (drop n before) × TakesOutcomes d1 d2 (drop n before) after
takes_then d d1 d2 x y before after n h many g later later2 (TakesTold told taken ea ec e) =
    let (eb, ec2, t) = told_then d.outcomes d1.outcomes d2.outcomes x y told taken h g ea ec in
    let all : before ≡ x ++ (y ++ after) = e ∙ ap (λ (z : List Bool). z ++ after) t ∙ append_assoc x y after in
    let rest : drop n before ≡ y ++ after = rw (← many, all) (drop-append_seam x (y ++ after)) in
    (TakesTold told x ea eb (all ∙ ap (λ (z : List Bool). x ++ z) (sym rest)), TakesTold (told ++ x) y eb ec2 rest)
takes_then d d1 d2 x y before after n h many g later later2 (TakesNone calm e f) =
    let rest : drop n before ≡ [] = rw e (drop-nil n) in (
      TakesNone (λ rose. calm (rose_first d.faults d1.faults d2.faults later2 rose)) e rest,
      TakesNone (λ rose. calm (rose_last d.faults d1.faults d2.faults later rose)) rest f,
    )

-- one call takes the first outcome
told_one : (a b : Option (List Bool)) (x : Bool) (before taken : List Bool) → AddsOutcome a b x → a ≡ Some before → b ≡ Some (before ++ taken) → taken ≡ x ∷ []
told_one a None x before taken h ea eb = absurd cc
told_one None (Some b) x before taken h ea eb = absurd h
told_one (Some a) (Some b) x before taken h ea eb =
    let same : a ≡ before = cc in
    let all : b ≡ before ++ taken = cc in
    append_cancel_left before taken (x ∷ []) (sym all ∙ h ∙ ap (λ (z : List Bool). z ++ x ∷ []) same)

pub first_taken : (d d2 : DiskView) (read : Result Unit Failed) (before after : List Bool) → Called d d2 read → TakesOutcomes d d2 before after → first_outcome before ≡ is_ok read
first_taken d d2 read before after called (TakesTold told taken ea eb e) =
    let one : taken ≡ is_ok read ∷ [] = told_one d.outcomes d2.outcomes (is_ok read) told taken called.outcomes ea eb in
    rw (e, one) refl
first_taken d d2 (Ok x) before after called (TakesNone calm e f) = rw e refl
first_taken d d2 (Err x) before after called (TakesNone calm e f) = absurd (calm called.cause)

-- the outcomes of calls are those that the calls take
pub are_taken : (d d2 : DiskView) (outcomes : List Bool) → AreOutcomes d d2 outcomes → TakesOutcomes d d2 outcomes []
are_taken d d2 outcomes (Told before e f) = TakesTold before outcomes e f (sym (append-nil outcomes))
are_taken d d2 outcomes (Calm calm e) = TakesNone calm e refl
