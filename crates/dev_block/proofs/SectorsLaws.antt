-- Calls of a disk, sector by sector.
use Rattle.std.proofs.Common.{◌≡◌, ℕ, zero, suc, ◌+◌, ◌-◌, ◌*◌, ◌≤◌, ◌<◌, List, [], ◌∷◌, length, take, drop, Bool, true, false, Result, Ok, Err, refl, sym, ◌∙◌, ap, arith, add-one, get_or, subst}
use Rattle.std.proofs.lemmas.Grind.{common_steps}
use Rattle.std.proofs.lemmas.List.{drop-drop}
use Rattle.vt_outside.specs.declared.failed.Failed.{Failed}
use Rattle.vt_outside.specs.Meets.{Meets}
use Rattle.guest_mem.specs.Memory.{part}
use Rattle.vt_outside.specs.DiskCall.{DiskState, write_call}
use Rattle.vt_outside.specs.Tripped.{TrippedView, TripCalled, FailCause}
use Rattle.vq_common.proofs.PartialLaws.{items_from}
use Rattle.dev_block.specs.declared.request.Segment.{Segment}
use Rattle.dev_block.specs.Calls.{Calls}
use Rattle.dev_block.specs.Sectors.{and_call, write_sectors, clear_sectors, clear_segments, zero_sector, flush_by}
use Rattle.dev_block.proofs.CallsLaws.{calls_one, calls_none, calls_to, calls_then}

-- a call after calls that did not fail
then_call : (x : Bool × DiskState) (call : DiskState → Bool × DiskState) (between after : DiskState) (ok : Bool) → x ≡ (true, between) → call between ≡ (ok, after) → and_call x call ≡ (ok, after)
then_call x call between after ok e h = rw e h

-- and none after one that failed
then_none : (x : Bool × DiskState) (call : DiskState → Bool × DiskState) (after : DiskState) → x ≡ (false, after) → and_call x call ≡ (false, after)
then_none x call after e = rw e refl

-- calls in a row, each by its number
abbrev InRow : (ℕ → DiskState → Bool × DiskState) → (ℕ → DiskState → Bool × DiskState) → Type 0
InRow all one = (k : ℕ) (d : DiskState) → all (suc k) d ≡ and_call (all k d) (one k)

row_fails : (all one : ℕ → DiskState → Bool × DiskState) → InRow all one → (k j : ℕ) (before after : DiskState) → all k before ≡ (false, after) → all (k + j) before ≡ (false, after)
row_fails all one row k zero before after e = let same : k + 0 ≡ k = omega arith in rw same e
row_fails all one row k (suc j) before after e =
    let next : k + suc j ≡ suc (k + j) = omega arith in
    rw next (row (k + j) before ∙ then_none (all (k + j) before) (one (k + j)) after (row_fails all one row k j before after e))

-- one more of them
row_more : (all one : ℕ → DiskState → Bool × DiskState) → InRow all one → (k : ℕ) (old mid new : TrippedView) (ok : Bool) → Calls (all k) old true mid true → Calls (one k) mid ok new ok → Calls (all (k + 1)) old ok new ok
row_more all one row k old mid new ok first second =
    let next : k + 1 ≡ suc k = add-one k in
    calls_then (all k) (one k) (all (k + 1)) old mid new true ok ok ok
    (λ before between after e h. rw next (row k before ∙ then_call (all k before) (one k) between after ok e h)) first second

-- one that failed is the last of all
row_stops : (all one : ℕ → DiskState → Bool × DiskState) → InRow all one → (k count : ℕ) (old mid new : TrippedView) → k < count → Calls (all k) old true mid true → Calls (one k) mid false new false
    → Calls (all count) old false new false
row_stops all one row k count old mid new within first second =
    let rest : k + 1 + (count - (k + 1)) ≡ count = omega arith in
    calls_to (all (k + 1)) (all count) old new false false false
    (λ before after e. rw (← rest) (row_fails all one row (k + 1) (count - (k + 1)) before after e))
    (row_more all one row k old mid new false first second)

-- sectors of zeros

pub clear_none : (sector : ℕ) (old : TrippedView) → Calls (clear_sectors 0 sector) old true old true
clear_none sector old = calls_none (clear_sectors 0 sector) old true (λ d. refl)

pub clear_more : (sector k : ℕ) (zeros : List ℕ) (old mid new : TrippedView) (x : Unit {0}) → zeros ≡ zero_sector → Calls (clear_sectors k sector) old true mid true
    → Meets (write_call (sector + k) zeros) mid true new → TripCalled mid new (Ok x) → Calls (clear_sectors (k + 1) sector) old true new true
clear_more sector k zeros old mid new x same first meets called =
    let ok : Result Unit Failed = Ok x in
    row_more (λ j. clear_sectors j sector) (λ j. write_call (sector + j) zero_sector) (λ j d. refl) k old mid new true first
    (calls_one (write_call (sector + k) zero_sector) mid new true ok (rw same at meets) called tt)

pub clear_stops : (sector k count : ℕ) (zeros : List ℕ) (old mid new : TrippedView) (e : Failed) → zeros ≡ zero_sector → k < count → Calls (clear_sectors k sector) old true mid true
    → Meets (write_call (sector + k) zeros) mid false new → TripCalled mid new (Err e) → FailCause mid new → Calls (clear_sectors count sector) old false new false
clear_stops sector k count zeros old mid new e same within first meets called cause =
    let failed : Result Unit Failed = Err e in
    row_stops (λ j. clear_sectors j sector) (λ j. write_call (sector + j) zero_sector) (λ j d. refl) k count old mid new within first
    (calls_one (write_call (sector + k) zero_sector) mid new false failed (rw same at meets) called cause)

-- sectors of bytes

pub write_none : (sector : ℕ) (bytes : List ℕ) (old : TrippedView) → Calls (write_sectors 0 sector bytes) old true old true
write_none sector bytes old = calls_none (write_sectors 0 sector bytes) old true (λ d. refl)

-- the bytes of a sector, behind the header
sector_bytes : (bytes : List ℕ) (k : ℕ) → part bytes (16 + 512 * k) 512 ≡ part (drop 16 bytes) (512 * k) 512
sector_bytes bytes k = ap (take 512) (sym (drop-drop (512 * k) 16 bytes))

pub write_more : (sector k n : ℕ) (bytes room : List ℕ) (old mid new : TrippedView) (x : Unit {0}) → n ≡ 512 → room ≡ part bytes (16 + 512 * k) n → Calls (write_sectors k sector (drop 16 bytes)) old true mid true
    → Meets (write_call (sector + k) room) mid true new → TripCalled mid new (Ok x) → Calls (write_sectors (k + 1) sector (drop 16 bytes)) old true new true
write_more sector k n bytes room old mid new x size fill first meets called =
    let ok : Result Unit Failed = Ok x in
    let same : room ≡ part (drop 16 bytes) (512 * k) 512 = fill ∙ ap (part bytes (16 + 512 * k)) size ∙ sector_bytes bytes k in
    row_more (λ j. write_sectors j sector (drop 16 bytes)) (λ j. write_call (sector + j) (part (drop 16 bytes) (512 * j) 512)) (λ j d. refl) k old mid new true first
    (calls_one (write_call (sector + k) (part (drop 16 bytes) (512 * k) 512)) mid new true ok (rw same at meets) called tt)

pub write_stops : (sector k count n : ℕ) (bytes room : List ℕ) (old mid new : TrippedView) (e : Failed) → n ≡ 512 → room ≡ part bytes (16 + 512 * k) n → k < count
    → Calls (write_sectors k sector (drop 16 bytes)) old true mid true
    → Meets (write_call (sector + k) room) mid false new → TripCalled mid new (Err e) → FailCause mid new → Calls (write_sectors count sector (drop 16 bytes)) old false new false
write_stops sector k count n bytes room old mid new e size fill within first meets called cause =
    let failed : Result Unit Failed = Err e in
    let same : room ≡ part (drop 16 bytes) (512 * k) 512 = fill ∙ ap (part bytes (16 + 512 * k)) size ∙ sector_bytes bytes k in
    row_stops (λ j. write_sectors j sector (drop 16 bytes)) (λ j. write_call (sector + j) (part (drop 16 bytes) (512 * j) 512)) (λ j d. refl) k count old mid new within first
    (calls_one (write_call (sector + k) (part (drop 16 bytes) (512 * k) 512)) mid new false failed (rw same at meets) called cause)

-- segments

segments_none : (old : TrippedView) → Calls (clear_segments []) old true old true
segments_none old = calls_none (clear_segments []) old true (λ d. refl)

-- the first segment, and then the others
segments_more : (s : Segment) (segments : List Segment) (old mid new : TrippedView) (ok : Bool) → Calls (clear_sectors s.count s.sector) old true mid true → Calls (clear_segments segments) mid ok new ok
    → Calls (clear_segments (s ∷ segments)) old ok new ok
segments_more s segments old mid new ok first others =
    calls_then (clear_sectors s.count s.sector) (clear_segments segments) (clear_segments (s ∷ segments)) old mid new true ok ok ok
    (λ before between after e h. then_call (clear_sectors s.count s.sector before) (clear_segments segments) between after ok e h) first others

-- where the first fails, the others are not done
segments_stop : (s : Segment) (segments : List Segment) (old new : TrippedView) → Calls (clear_sectors s.count s.sector) old false new false → Calls (clear_segments (s ∷ segments)) old false new false
segments_stop s segments old new first =
    calls_to (clear_sectors s.count s.sector) (clear_segments (s ∷ segments)) old new false false false
    (λ before after e. then_none (clear_sectors s.count s.sector before) (clear_segments segments) after e) first

-- the segments from an index on are done one by one

pub more_at_index : (segments : List Segment) (i : ℕ) (d : Segment) (old mid new : TrippedView) (ok : Bool) → i < length segments
    → Calls (clear_sectors (get_or segments i d).count (get_or segments i d).sector) old true mid true → Calls (clear_segments (drop (i + 1) segments)) mid ok new ok
    → Calls (clear_segments (drop i segments)) old ok new ok
more_at_index segments i d old mid new ok within first others =
    subst (λ (w : List Segment). Calls (clear_segments w) old ok new ok) (sym (items_from segments i d within))
    (segments_more (get_or segments i d) (drop (i + 1) segments) old mid new ok first others)

pub stop_at_index : (segments : List Segment) (i : ℕ) (d : Segment) (old new : TrippedView) → i < length segments
    → Calls (clear_sectors (get_or segments i d).count (get_or segments i d).sector) old false new false → Calls (clear_segments (drop i segments)) old false new false
stop_at_index segments i d old new within first =
    subst (λ (w : List Segment). Calls (clear_segments w) old false new false) (sym (items_from segments i d within))
    (segments_stop (get_or segments i d) (drop (i + 1) segments) old new first)

pub none_at_index : (segments : List Segment) (i : ℕ) (old : TrippedView) → length segments ≤ i → Calls (clear_segments (drop i segments)) old true old true
none_at_index segments i old past =
    let none : drop i segments ≡ [] = grind (arith, common_steps) in
    subst (λ (w : List Segment). Calls (clear_segments w) old true old true) (sym none) (segments_none old)

-- calls that did not fail, and a flush after them
pub flush_after : (f : DiskState → Bool × DiskState) (mode : ℕ) (old mid new : TrippedView) (ok : Bool) → Calls f old true mid true → Calls (flush_by mode) mid ok new ok
    → Calls (λ d. and_call (f d) (flush_by mode)) old ok new ok
flush_after f mode old mid new ok first second =
    calls_then f (flush_by mode) (λ d. and_call (f d) (flush_by mode)) old mid new true ok ok ok
    (λ before between after e h. then_call (f before) (flush_by mode) between after ok e h) first second

-- and none after one that failed
pub flush_never : (f : DiskState → Bool × DiskState) (mode : ℕ) (old new : TrippedView) → Calls f old false new false → Calls (λ d. and_call (f d) (flush_by mode)) old false new false
flush_never f mode old new first =
    calls_to f (λ d. and_call (f d) (flush_by mode)) old new false false false (λ before after e. then_none (f before) (flush_by mode) after e) first
