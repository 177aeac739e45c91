use Rattle.std.specs.Prelude.{◌≡◌, ℕ, zero, suc, ◌+◌, ◌-◌, ◌==◌, ◌&&◌, ◌||◌, List, [], ◌∷◌, ◌++◌, length, take, drop, replicate, Bool, true, false, not, Option, Some, None, Result, is_err, IfOk, OnErr, slice_get, if◌then◌else◌, min, nat_le}
use Rattle.vt_types.specs.Limits.{LONGEST_BUFFER}
use Rattle.vt_outside.specs.declared.failed.Failed.{Failed}
use Rattle.vt_outside.specs.Faults.{last_count, count_up}
use Rattle.vt_outside.specs.Source.{SourceView}
use Rattle.vt_outside.specs.Sink.{SinkView}
use Rattle.vt_outside.specs.Disk.{DiskView}

-- the calls of a thing in memory: byte k of `fails` says whether call number k (from 0) fails, `count` calls were made
-- so far, and `faults` of them failed
pub record CallsView : Type 0 where
  pub fails : List ℕ
  pub count : ℕ
  pub faults : ℕ

-- no call was made yet
abbrev pub no_calls : List ℕ → CallsView
no_calls fails = record { fails = fails; count = 0; faults = 0 }

-- a byte that is there, and is 1
abbrev pub is_one : Option ℕ → Bool
is_one None = false
is_one (Some byte) = byte == 1

-- whether call number k fails: exactly where byte k is 1
abbrev pub fails_at : ℕ → List ℕ → Bool
fails_at k fails = is_one (slice_get fails k)

-- whether the next call fails
abbrev pub next_fails : CallsView → Bool
next_fails calls = fails_at calls.count calls.fails

-- the calls with one more, which failed or didn't
abbrev pub one_call : CallsView → Bool → CallsView
one_call calls failed =
    record { fails = calls.fails; count = count_up calls.count; faults = if failed then count_up calls.faults else calls.faults }

-- the outcomes of the first calls: true where a call doesn't fail
abbrev pub outcomes_of : ℕ → List ℕ → List Bool
outcomes_of zero fails = []
outcomes_of (suc k) fails = outcomes_of k fails ++ not (fails_at k fails) ∷ []

-- the outcomes of the calls so far, told until the count of them stands still
abbrev pub outcomes_told : CallsView → Option (List Bool)
outcomes_told calls = if calls.count == last_count then None else Some (outcomes_of calls.count calls.fails)

-- a source in memory: the bytes that are left, and its calls
pub record SourceMemory : Type 0 where
  pub left : List ℕ
  pub calls : CallsView

-- it tells what is left
abbrev pub source_view : SourceMemory → SourceView
source_view m = record { left = Some m.left; faults = m.calls.faults }

-- a read fails exactly where the next call fails, and leaves all then; else it moves as many bytes as there are and fit
pub record ReadsMemory (old new : SourceMemory) (room room2 : List ℕ) (result : Result ℕ Failed) : Type 0 where
  pub fails : is_err result ≡ next_fails old.calls
  pub calls : new.calls ≡ one_call old.calls (is_err result)
  pub count : IfOk result (λ n. n ≡ min (length room) (length old.left))
  pub moved : IfOk result (λ n. room2 ≡ take n old.left ++ drop n room)
  pub left : IfOk result (λ n. new.left ≡ drop n old.left)
  pub same : OnErr result ((new.left ≡ old.left) × (room2 ≡ room))

-- a sink in memory: the bytes that were written, how many it has room for, and its calls
pub record SinkMemory : Type 0 where
  pub written : List ℕ
  pub room : ℕ
  pub calls : CallsView

-- it tells what was written
abbrev pub sink_view : SinkMemory → SinkView
sink_view m = record { written = Some m.written; faults = m.calls.faults }

-- a full sink refuses a piece that isn't empty
abbrev pub refuses : SinkMemory → List ℕ → Bool
refuses m bytes = (length m.written == m.room) && not (length bytes == 0)

-- a write fails exactly where the next call fails or the sink refuses it, and adds nothing then; else it adds what fits
pub record WritesMemory (old new : SinkMemory) (bytes : List ℕ) (result : Result ℕ Failed) : Type 0 where
  pub fails : is_err result ≡ (next_fails old.calls || refuses old bytes)
  pub calls : new.calls ≡ one_call old.calls (is_err result)
  pub room : new.room ≡ old.room
  pub count : IfOk result (λ n. n ≡ min (length bytes) (old.room - length old.written))
  pub added : IfOk result (λ n. new.written ≡ old.written ++ take n bytes)
  pub same : OnErr result (new.written ≡ old.written)

-- a disk in memory: its sectors, whether it is read-only, and its calls
pub record DiskMemory : Type 0 where
  pub sectors : List (List ℕ)
  pub read_only : Bool
  pub calls : CallsView

-- a number of sectors of 512 zeros
abbrev pub zeros : ℕ → List (List ℕ)
zeros sectors = replicate sectors (replicate 512 0)

-- it tells its sectors, and the outcomes of its calls
abbrev pub disk_view : DiskMemory → DiskView
disk_view m =
    record {
      image = Some m.sectors;
      outcomes = outcomes_told m.calls;
      count = length m.sectors;
      read_only = m.read_only;
      faults = m.calls.faults;
    }

-- a call of a disk fails exactly where the next call fails
pub record CallsMemory (old new : DiskMemory) (result : Result Unit Failed) : Type 0 where
  pub fails : is_err result ≡ next_fails old.calls
  pub calls : new.calls ≡ one_call old.calls (is_err result)
  pub read_only : new.read_only ≡ old.read_only

-- a watch in memory: the bytes that it keeps, and whether they are all that was shown
pub record WatchMemory : Type 0 where
  pub bytes : List ℕ
  pub tells : Bool

-- what was shown, where the watch tells
abbrev pub shown_of : WatchMemory → Option (List ℕ)
shown_of w = if w.tells then Some w.bytes else None

-- a text is kept where the watch tells and has room for it (`LONGEST_BUFFER` bytes in all); else the watch tells no more
abbrev pub after_text : WatchMemory → List ℕ → WatchMemory
after_text w text =
    if w.tells && nat_le (length w.bytes + length text) LONGEST_BUFFER then record { bytes = w.bytes ++ text; tells = true }
    else record { bytes = w.bytes; tells = false }
