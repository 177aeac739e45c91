-- The pages of an arena, out of their frames.
use Rattle.std.proofs.Common.{◌≡◌, ℕ, ◌<◌, List, [], length, slice_index_or, slice_set, sym, ◌∙◌, ap}
use Rattle.std.specs.Prelude.{map}
use Rattle.std.proofs.lemmas.List.{map-set, get_or-map}
use Rattle.guest_mem.specs.Memory.{put_at}
use Rattle.guest_mem.specs.Arena.{page, pages_with}
use Rattle.guest_mem.specs.declared.arena.Frame.{Frame}

-- where bytes were put into the page of one frame, they were put into one page of all
pub pages_with-put : (frames : List Frame) (n from : ℕ) (xs : List ℕ) (old new : Frame) → n < length frames → old ≡ slice_index_or frames n old → new.bytes ≡ put_at old.bytes from xs
    → map (λ frame. frame.bytes) (slice_set frames n new) ≡ pages_with (map (λ frame. frame.bytes) frames) n from xs
pages_with-put frames n from xs old new row read put =
    let pages : List (List ℕ) = map (λ (frame : Frame). frame.bytes) frames in
    let before : old.bytes ≡ page pages n = ap (λ (frame : Frame). frame.bytes) read ∙ sym (get_or-map (λ (frame : Frame). frame.bytes) frames n old [] row) in
    map-set (λ (frame : Frame). frame.bytes) frames n new
    ∙ ap (slice_set pages n) (put ∙ ap (λ (bytes : List ℕ). put_at bytes from xs) before)
