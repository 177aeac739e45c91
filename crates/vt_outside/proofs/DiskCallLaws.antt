use Rattle.std.proofs.Common.{◌≡◌, ◌≢◌, ℕ, zero, suc, ◌⊎◌, List, length, Bool, true, false, Option, Some, None, Result, Ok, Err, refl, sym, ◌∙◌, ap, arith, inl, inr}
use Rattle.std.specs.Prelude.{OnOk, OnErr, is_ok, is_some, slice_get, slice_set, if◌then◌else◌, ◌==◌}
use Rattle.std.proofs.lemmas.Bool.Decides.{nat_tests}
use Rattle.std.proofs.lemmas.List.{length-set}
use Rattle.vt_outside.specs.declared.failed.Failed.{Failed}
use Rattle.vt_outside.specs.Disk.{Called, Reads, Writes}
use Rattle.vt_outside.specs.DiskCall.{ask, disk_call, read_call, write_call, flush_call, peek_call, sector_of}
use Rattle.vt_outside.specs.Tripped.{TrippedView, TripCalled}
use Rattle.vt_outside.specs.Meets.{Goes, Takes, state_of, Meets, bytes_read}
use Rattle.vt_outside.proofs.MeetsLaws.{goes_still, goes_called, takes_none, takes_one}

is_one : (n : ℕ) → (n ≡ 1) ⊎ (n ≢ 1)
is_one zero = inr (λ e. omega (arith, e))
is_one (suc zero) = inl refl
is_one (suc (suc n)) = inr (λ e. omega (arith, e))

-- the disk was asked
asked_state : (old new : TrippedView) (result : Result Unit Failed) (image : List (List ℕ)) (before after : List Bool) → Called old.disk new.disk result → new.trip ≡ old.trip
    → Takes old.disk new.disk before after → ask (state_of old image before) ≡ (is_ok result, state_of new image after)
asked_state old new result image before after called trip takes =
    let taken = takes_one old.disk new.disk result before after called takes in
    rw (taken.0, taken.1, called.read_only, trip) refl

-- a call with a trip
called_state : (old new : TrippedView) (result : Result Unit Failed) (image : List (List ℕ)) (before after : List Bool) → TripCalled old new result
    → Takes old.disk new.disk before after → disk_call (state_of old image before) ≡ (is_ok result, state_of new image after)
called_state old new result image before after called takes =
    elim (is_one old.trip) [
      | inl one ↦
          let test : (old.trip == 1) ≡ true = grind (arith, nat_tests) in
          let none : new.trip ≡ 0 = omega (arith, called.trip) in
          let unasked = called.unasked one in
          let t : Takes old.disk old.disk before after = rw unasked.1 at takes in
          rw (test, unasked.0, unasked.1, none, takes_none old.disk before after t) refl
      | inr other ↦
          let test : (old.trip == 1) ≡ false = grind (arith, nat_tests) in
          let asked = called.asked other in
          let taken = takes_one old.disk new.disk result before after asked takes in
          rw (test, taken.0, taken.1, asked.read_only, called.trip) refl
    ]

-- what a call with a trip leaves
goes_tripped : (old new : TrippedView) (result : Result Unit Failed) → TripCalled old new result → is_some new.disk.image ≡ is_some old.disk.image → Goes old.disk new.disk
goes_tripped old new result called tells =
    elim (is_one old.trip) [
      | inl one ↦ rw (called.unasked one).1 (goes_still old.disk)
      | inr other ↦ goes_called old.disk new.disk result (called.asked other) tells
    ]

-- the bytes that were read are those of the sector
bytes_of : (result : Result Unit Failed) (n : ℕ) (bytes : List ℕ) (told : Option (List (List ℕ))) (image : List (List ℕ)) → told ≡ Some image → OnOk result (Reads n bytes told)
    → (if is_ok result then slice_get image n else None) ≡ bytes_read result bytes
bytes_of (Ok x) n bytes (Some held) image e reads = let same : held ≡ image = cc in rw same at reads.0
bytes_of (Ok x) n bytes None image e reads = absurd cc
bytes_of (Err x) n bytes told image e reads = refl

-- a sector was read through the trip
pub meets_read : (old new : TrippedView) (result : Result Unit Failed) (n : ℕ) (bytes : List ℕ) → TripCalled old new result → new.disk.image ≡ old.disk.image
    → OnOk result (Reads n bytes old.disk.image) → Meets (read_call n) old (bytes_read result bytes) new
meets_read old new result n bytes called same reads =
    let goes = goes_tripped old new result called (ap is_some same) in
    record {
      goes = goes;
      does = λ image before after (told, len) takes. (
        image,
        (same ∙ told, len ∙ sym goes.count),
        rw (called_state old new result image before after called takes, bytes_of result n bytes old.disk.image image told reads) refl,
      );
    }

-- a sector was read whatever the trip is
pub meets_peek : (old new : TrippedView) (result : Result Unit Failed) (n : ℕ) (bytes : List ℕ) → Called old.disk new.disk result → new.trip ≡ old.trip → new.disk.image ≡ old.disk.image
    → OnOk result (Reads n bytes old.disk.image) → Meets (peek_call n) old (bytes_read result bytes) new
meets_peek old new result n bytes called trip same reads = record {
  goes = goes_called old.disk new.disk result called (ap is_some same);
  does = λ image before after (told, len) takes. (
    image,
    (same ∙ told, len ∙ sym called.count),
    ap (sector_of n) (asked_state old new result image before after called trip takes)
        ∙ ap (λ (z : Option (List ℕ)). (z, state_of new image after)) (bytes_of result n bytes old.disk.image image told reads),
  );
}

-- the disk was flushed
pub meets_flush : (old new : TrippedView) (result : Result Unit Failed) → TripCalled old new result → new.disk.image ≡ old.disk.image → Meets flush_call old (is_ok result) new
meets_flush old new result called same =
    let goes = goes_tripped old new result called (ap is_some same) in
    record {
      goes = goes;
      does = λ image before after (told, len) takes. (image, (same ∙ told, len ∙ sym goes.count), called_state old new result image before after called takes);
    }

-- the image after a write
abbrev image_after : Result Unit Failed → ℕ → List ℕ → List (List ℕ) → List (List ℕ)
image_after (Ok x) n bytes image = slice_set image n bytes
image_after (Err x) n bytes image = image

written_length : (result : Result Unit Failed) (n : ℕ) (bytes : List ℕ) (image : List (List ℕ)) → length (image_after result n bytes image) ≡ length image
written_length (Ok x) n bytes image = length-set image n bytes
written_length (Err x) n bytes image = refl

written_image : (result : Result Unit Failed) (n : ℕ) (bytes : List ℕ) (a b : Option (List (List ℕ))) (image : List (List ℕ)) → OnOk result (Writes n bytes a b) → OnErr result (b ≡ a)
    → a ≡ Some image → b ≡ Some (image_after result n bytes image)
written_image (Ok x) n bytes (Some held) b image ok err e = let same : held ≡ image = cc in rw same at ok
written_image (Ok x) n bytes None b image ok err e = absurd cc
written_image (Err x) n bytes a b image ok err e = err ∙ e

written_tells : (result : Result Unit Failed) (n : ℕ) (bytes : List ℕ) (a b : Option (List (List ℕ))) → OnOk result (Writes n bytes a b) → OnErr result (b ≡ a) → is_some b ≡ is_some a
written_tells (Ok x) n bytes (Some held) b ok err = ap is_some ok
written_tells (Ok x) n bytes None b ok err = ap is_some ok
written_tells (Err x) n bytes a b ok err = ap is_some err

written_state : (result : Result Unit Failed) (n : ℕ) (bytes : List ℕ) (image : List (List ℕ)) (new : TrippedView) (after : List Bool)
    → (if is_ok result then record (state_of new image after) { sectors = slice_set image n bytes } else state_of new image after) ≡ state_of new (image_after result n bytes image) after
written_state (Ok x) n bytes image new after = refl
written_state (Err x) n bytes image new after = refl

-- a sector was written
pub meets_write : (old new : TrippedView) (result : Result Unit Failed) (n : ℕ) (bytes : List ℕ) → TripCalled old new result → OnOk result (Writes n bytes old.disk.image new.disk.image)
    → OnErr result (new.disk.image ≡ old.disk.image) → Meets (write_call n bytes) old (is_ok result) new
meets_write old new result n bytes called ok err =
    let goes = goes_tripped old new result called (written_tells result n bytes old.disk.image new.disk.image ok err) in
    record {
      goes = goes;
      does = λ image before after (told, len) takes. (
        image_after result n bytes image,
        (written_image result n bytes old.disk.image new.disk.image image ok err told, written_length result n bytes image ∙ len ∙ sym goes.count),
        rw (called_state old new result image before after called takes, written_state result n bytes image new after) refl,
      );
    }
