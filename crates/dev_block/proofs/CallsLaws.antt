-- How calls of a disk compose.
use Rattle.std.proofs.Common.{◌≡◌, Bool, true, false, Result, Ok, Err, refl, arith}
use Rattle.std.specs.Prelude.{is_ok, OnErr}
use Rattle.vt_outside.specs.declared.failed.Failed.{Failed}
use Rattle.vt_outside.specs.DiskCall.{DiskState}
use Rattle.vt_outside.specs.Tripped.{TrippedView, TripCalled, FailCause}
use Rattle.vt_outside.specs.Meets.{Meets, state_of}
use Rattle.vt_outside.proofs.MeetsLaws.{meets_still, meets_to, meets_then}
use Rattle.vt_outside.proofs.TrippedLaws.{cause_last}
use Rattle.dev_block.specs.Calls.{Calls}

-- a call of the disk that failed has a cause
failed_cause : (result : Result Unit Failed) (old new : TrippedView) → OnErr result (FailCause old new) → is_ok result ≡ false → FailCause old new
failed_cause (Ok x) old new cause failed = absurd (cc)
failed_cause (Err e) old new cause failed = cause

-- one call of the disk
pub calls_one : {R : Type 0} (f : DiskState → R × DiskState) (old new : TrippedView) (r : R) (result : Result Unit Failed) → Meets f old r new → TripCalled old new result
    → OnErr result (FailCause old new) → Calls f old r new (is_ok result)
calls_one f old new r result meets called cause =
    record { meets = meets; falls = omega (arith, called.trip); cause = failed_cause result old new cause }

-- no call
pub calls_none : {R : Type 0} (f : DiskState → R × DiskState) (old : TrippedView) (r : R) → ((d : DiskState) → f d ≡ (r, d)) → Calls f old r old true
calls_none f old r still =
    record {
      meets = meets_still f old old r refl (λ image outcomes. still (state_of old image outcomes));
      falls = omega arith;
      cause = λ e. absurd (cc);
    }

-- another function that does the same
pub calls_to : {R S : Type 0} (f : DiskState → R × DiskState) (g : DiskState → S × DiskState) (old new : TrippedView) (r : R) (s : S) (ok : Bool)
    → ((before after : DiskState) → f before ≡ (r, after) → g before ≡ (s, after)) → Calls f old r new ok → Calls g old s new ok
calls_to f g old new r s ok same calls = record { meets = meets_to f g old new r s same calls.meets; falls = calls.falls; cause = calls.cause }

-- some calls, and then others
pub calls_then : {R S T : Type 0} (f : DiskState → R × DiskState) (g : DiskState → S × DiskState) (k : DiskState → T × DiskState) (old mid new : TrippedView) (r : R) (s : S) (t : T) (ok : Bool)
    → ((before between after : DiskState) → f before ≡ (r, between) → g between ≡ (s, after) → k before ≡ (t, after))
    → Calls f old r mid true → Calls g mid s new ok → Calls k old t new ok
calls_then f g k old mid new r s t ok both first second =
    record {
      meets = meets_then f g k old mid new r s t both first.meets second.meets;
      falls = omega (arith, first.falls, second.falls);
      cause = λ e. cause_last old mid new first.meets.goes.later first.falls (second.cause e);
    }
