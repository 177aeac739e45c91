use Rattle.std.specs.Prelude.{ℕ, ◌+◌, ◌-◌, ◌/◌, ◌%◌, ◌==◌, ◌&&◌, ◌||◌, not, nat_le, nat_lt, List, length, Bool, Option, Some, None, Result, Ok, Err, if◌then◌else◌}
use Rattle.std.specs.List.{list_all, list_any}
use Rattle.dev_block.specs.declared.request.RequestType.{RequestType}
use Rattle.dev_block.specs.declared.request.RequestType.TheVariants.{In, Out, Flush, GetId, Discard, WriteZeroes}
use Rattle.dev_block.specs.declared.request.Segment.{Segment}
use Rattle.dev_block.specs.declared.request.Refusal.{Refusal}
use Rattle.dev_block.specs.declared.request.Refusal.TheVariants.{IoErr, Unsupp}
use Rattle.dev_block.specs.declared.check.Limits.{Limits}
use Rattle.dev_block.specs.declared.check.Task as code
use Rattle.dev_block.specs.declared.check.Task.TheVariants as code_task
use Rattle.dev_block.specs.Request.{VIRTIO_BLK_WRITE_ZEROES_FLAG_UNMAP, header_of, type_of, is_supported, is_change, segments_at}

-- what a request that passed all checks asks for: sectors to be read; sectors to be written with the bytes behind the
-- header; a flush; the id; or the sectors of segments to be filled with zeros
pub data Task : Type 0 where
  Read : (sector count : ℕ) → Task
  Write : (sector count : ℕ) → Task
  Sync : Task
  Identify : Task
  Clear : List Segment → Task

-- all of these sectors are below an end
abbrev pub is_below : ℕ → ℕ → ℕ → Bool
is_below sector count end = (count == 0) || nat_le (sector + count) end

-- they are below the capacity, and below the disk's own end
abbrev pub is_in_range : Limits → ℕ → ℕ → Bool
is_in_range limits sector count = is_below sector count limits.capacity && is_below sector count limits.sectors

-- those of all segments are
abbrev pub are_in_range : Limits → List Segment → Bool
are_in_range limits segments = list_all (λ (s : Segment). is_in_range limits s.sector s.count) segments

-- some segment has a flag above those that are allowed
abbrev pub has_flags : ℕ → List Segment → Bool
has_flags allowed segments = list_any (λ (s : Segment). nat_lt allowed s.flags) segments

-- the most sectors that a segment may have (two limits of the configuration, VIRTIO 1.2, 5.2.4; 2,048 is our own)
abbrev pub LONGEST_SEGMENT : ℕ
LONGEST_SEGMENT = 2048

-- some segment has more
abbrev pub is_long : List Segment → Bool
is_long segments = list_any (λ (s : Segment). nat_lt LONGEST_SEGMENT s.count) segments

-- the most segments of a request (our own)
abbrev pub MOST_SEGMENTS : ℕ
MOST_SEGMENTS = 8

-- so many bytes are some segments of 16 bytes, not too many
abbrev pub are_segments : ℕ → Bool
are_segments size = (size % 16 == 0) && nat_le 1 (size / 16) && nat_le (size / 16) MOST_SEGMENTS

-- a reading request has room for whole sectors, which are in range
abbrev pub checked_read : Limits → ℕ → ℕ → Result Task Refusal
checked_read limits sector space =
    if (space % 512 == 0) && is_in_range limits sector (space / 512) then Ok (Read sector (space / 512)) else Err IoErr

-- a writing request has the bytes of whole sectors, which are in range
abbrev pub checked_write : Limits → ℕ → ℕ → Result Task Refusal
checked_write limits sector size =
    if (size % 512 == 0) && is_in_range limits sector (size / 512) then Ok (Write sector (size / 512)) else Err IoErr

-- segments have no other flags than allowed, are not too long, and are in range: each on all of them before the next
abbrev pub checked_segments : Limits → ℕ → List Segment → Result Task Refusal
checked_segments limits allowed segments =
    if has_flags allowed segments then Err Unsupp else if is_long segments || not (are_in_range limits segments) then Err IoErr else Ok (Clear segments)

-- a request with segments has some of them, not too many, behind the header, and no other bytes
abbrev pub with_segments : Limits → ℕ → List ℕ → Result Task Refusal
with_segments limits allowed readable =
    if are_segments (length readable - 16) then checked_segments limits allowed (segments_at ((length readable - 16) / 16) readable 16)
    else Err IoErr

-- what is checked for each type: with the sector of the header, the readable bytes and how many data bytes there is room
-- for. The id has 20 bytes; a segment of discard has no flag, and one of write zeroes may have UNMAP
abbrev pub checked_type : RequestType → Limits → ℕ → List ℕ → ℕ → Result Task Refusal
checked_type In limits sector readable space = checked_read limits sector space
checked_type Out limits sector readable space = checked_write limits sector (length readable - 16)
checked_type Flush limits sector readable space = Ok Sync
checked_type GetId limits sector readable space = if nat_lt space 20 then Err IoErr else Ok Identify
checked_type Discard limits sector readable space = with_segments limits 0 readable
checked_type WriteZeroes limits sector readable space = with_segments limits VIRTIO_BLK_WRITE_ZEROES_FLAG_UNMAP readable

-- a type without its feature is refused as an unknown one is; then what changes the disk is refused where it is read-only
abbrev pub checked_known : Option RequestType → Limits → ℕ → List ℕ → ℕ → Result Task Refusal
checked_known None limits sector readable space = Err Unsupp
checked_known (Some kind) limits sector readable space =
    if not (is_supported kind limits.accepted.0) then Err Unsupp
    else if is_change kind && limits.read_only then Err IoErr
    else checked_type kind limits sector readable space

-- the checks on a request, in their order: on its readable bytes, and on how many data bytes there is room for before the
-- status (VIRTIO 1.2, 5.2.6; the order is our own)
abbrev pub checked : Limits → List ℕ → ℕ → Result Task Refusal
checked limits readable space =
    if nat_lt (length readable) 16 then Err IoErr
    else checked_known (type_of (header_of readable).kind) limits (header_of readable).sector readable space

-- the task that the code holds
abbrev pub task_of : code.Task → Task
task_of (code_task.Read sector count) = Read sector count
task_of (code_task.Write sector count) = Write sector count
task_of code_task.Flush = Sync
task_of code_task.Identify = Identify
task_of (code_task.Clear segments) = Clear segments.items

abbrev pub task_in : Result code.Task Refusal → Result Task Refusal
task_in (Ok task) = Ok (task_of task)
task_in (Err refusal) = Err refusal
