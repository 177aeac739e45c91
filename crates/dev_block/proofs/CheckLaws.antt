-- A request that passed the checks can be carried out.
use Rattle.std.proofs.Common.{◌≡◌, ℕ, ◌+◌, ◌-◌, ◌/◌, ◌%◌, ◌≤◌, ◌<◌, ◌==◌, ◌&&◌, ◌||◌, List, [], ◌∷◌, length, Bool, true, false, not, Option, Some, None, Result, Ok, Err, refl, arith, subst}
use Rattle.std.specs.Prelude.{if◌then◌else◌, nat_lt, All}
use Rattle.std.proofs.lemmas.Bool.Decides.{nat_tests}
use Rattle.std.proofs.lemmas.List.Elements.{All-nil, All-cons}
use Rattle.dev_block.specs.declared.request.RequestType.{RequestType}
use Rattle.dev_block.specs.declared.request.RequestType.TheVariants.{In, Out, Flush, GetId, Discard, WriteZeroes}
use Rattle.dev_block.specs.declared.request.Segment.{Segment}
use Rattle.dev_block.specs.declared.request.Refusal.{Refusal}
use Rattle.dev_block.specs.declared.request.Refusal.TheVariants.{IoErr, Unsupp}
use Rattle.dev_block.specs.declared.check.Limits.{Limits}
use Rattle.dev_block.specs.Request.{header_of, type_of, is_supported, is_change, segments_at}
use Rattle.dev_block.specs.Check.{Task, Read, Write, Sync, Identify, Clear, is_below, is_in_range, are_in_range, has_flags, is_long, are_segments, checked_read, checked_write, checked_segments, with_segments, checked_type, checked_known, checked}
use Rattle.dev_block.specs.Sectors.{AreThere}
use Rattle.dev_block.specs.Serve.{Fits}

-- what follows from a choice
by_choice : (P : Type 0) (b : Bool) (x y z : Result Task Refusal) → (b ≡ true → x ≡ z → P) → (b ≡ false → y ≡ z → P) → (if b then x else y) ≡ z → P
by_choice P true x y z first second e = first refl e
by_choice P false x y z first second e = second refl e

-- a task that was found is the one that was made
passed : (P : Task → Type 0) (made task : Task) → P made → ◌≡◌ {A = Result Task Refusal} (Ok made) (Ok task) → P task
passed P made task h e = let same : made ≡ task = cc in subst P same h

refused : (P : Type 0) (refusal : Refusal) (task : Task) → ◌≡◌ {A = Result Task Refusal} (Err refusal) (Ok task) → P
refused P refusal task e = absurd (cc)

both : (a b : Bool) → (a && b) ≡ true → (a ≡ true) × (b ≡ true)
both true true e = (refl, refl)
both true false e = absurd (cc)
both false b e = absurd (cc)

below_there : (sector count end : ℕ) → is_below sector count end ≡ true → 0 < count → sector + count ≤ end
below_there sector count end e some = grind (arith, nat_tests)

-- sectors in range are on the disk
range_there : (limits : Limits) (sector count : ℕ) → is_in_range limits sector count ≡ true → AreThere limits.sectors sector count
range_there limits sector count e some =
    let two = both (is_below sector count limits.capacity) (is_below sector count limits.sectors) e in
    below_there sector count limits.sectors two.1 some

-- those of all segments are
segments_there : (limits : Limits) (segments : List Segment) → are_in_range limits segments ≡ true → All (λ (s : Segment). AreThere limits.sectors s.sector s.count) segments
segments_there limits [] e = All-nil (λ (s : Segment). AreThere limits.sectors s.sector s.count)
segments_there limits (s ∷ segments) e =
    let two = both (is_in_range limits s.sector s.count) (are_in_range limits segments) e in
    All-cons (λ (s : Segment). AreThere limits.sectors s.sector s.count) s segments (range_there limits s.sector s.count two.0) (segments_there limits segments two.1)

read_fits : (limits : Limits) (sector space readable : ℕ) (task : Task) → checked_read limits sector space ≡ Ok task → Fits task readable space limits.sectors
read_fits limits sector space readable task =
    by_choice (Fits task readable space limits.sectors) ((space % 512 == 0) && is_in_range limits sector (space / 512)) (Ok (Read sector (space / 512))) (Err IoErr) (Ok task)
    (λ test e. passed (λ t. Fits t readable space limits.sectors) (Read sector (space / 512)) task
    (omega arith, range_there limits sector (space / 512) (both (space % 512 == 0) (is_in_range limits sector (space / 512)) test).1) e)
    (λ test e. refused (Fits task readable space limits.sectors) IoErr task e)

write_fits : (limits : Limits) (sector size space : ℕ) (task : Task) → checked_write limits sector size ≡ Ok task → Fits task (16 + size) space limits.sectors
write_fits limits sector size space task =
    by_choice (Fits task (16 + size) space limits.sectors) ((size % 512 == 0) && is_in_range limits sector (size / 512)) (Ok (Write sector (size / 512))) (Err IoErr) (Ok task)
    (λ test e. passed (λ t. Fits t (16 + size) space limits.sectors) (Write sector (size / 512)) task
    (omega arith, range_there limits sector (size / 512) (both (size % 512 == 0) (is_in_range limits sector (size / 512)) test).1) e)
    (λ test e. refused (Fits task (16 + size) space limits.sectors) IoErr task e)

not_false : (a b : Bool) → (a || not b) ≡ false → b ≡ true
not_false true b e = absurd (cc)
not_false false true e = refl
not_false false false e = absurd (cc)

segments_fit : (limits : Limits) (allowed : ℕ) (segments : List Segment) (readable space : ℕ) (task : Task) → checked_segments limits allowed segments ≡ Ok task → Fits task readable space limits.sectors
segments_fit limits allowed segments readable space task =
    by_choice (Fits task readable space limits.sectors) (has_flags allowed segments) (Err Unsupp) (if is_long segments || not (are_in_range limits segments) then Err IoErr else Ok (Clear segments)) (Ok task)
    (λ test e. refused (Fits task readable space limits.sectors) Unsupp task e)
    (λ test. by_choice (Fits task readable space limits.sectors) (is_long segments || not (are_in_range limits segments)) (Err IoErr) (Ok (Clear segments)) (Ok task)
    (λ long e. refused (Fits task readable space limits.sectors) IoErr task e)
    (λ short e. passed (λ t. Fits t readable space limits.sectors) (Clear segments) task (segments_there limits segments (not_false (is_long segments) (are_in_range limits segments) short)) e))

with_segments_fit : (limits : Limits) (allowed : ℕ) (bytes : List ℕ) (space : ℕ) (task : Task) → with_segments limits allowed bytes ≡ Ok task → Fits task (length bytes) space limits.sectors
with_segments_fit limits allowed bytes space task =
    by_choice (Fits task (length bytes) space limits.sectors) (are_segments (length bytes - 16)) (checked_segments limits allowed (segments_at ((length bytes - 16) / 16) bytes 16)) (Err IoErr) (Ok task)
    (λ test e. segments_fit limits allowed (segments_at ((length bytes - 16) / 16) bytes 16) (length bytes) space task e)
    (λ test e. refused (Fits task (length bytes) space limits.sectors) IoErr task e)

id_fits : (readable space sectors : ℕ) (task : Task) → ◌≡◌ {A = Result Task Refusal} (if nat_lt space 20 then Err IoErr else Ok Identify) (Ok task) → Fits task readable space sectors
id_fits readable space sectors task =
    by_choice (Fits task readable space sectors) (nat_lt space 20) (Err IoErr) (Ok Identify) (Ok task)
    (λ test e. refused (Fits task readable space sectors) IoErr task e)
    (λ test e. passed (λ t. Fits t readable space sectors) Identify task (grind (arith, nat_tests)) e)

type_fits : (kind : RequestType) (limits : Limits) (sector : ℕ) (bytes : List ℕ) (space : ℕ) (task : Task) → 16 ≤ length bytes → checked_type kind limits sector bytes space ≡ Ok task
    → Fits task (length bytes) space limits.sectors
type_fits In limits sector bytes space task long e = read_fits limits sector space (length bytes) task e
type_fits Out limits sector bytes space task long e =
    let size : 16 + (length bytes - 16) ≡ length bytes = omega arith in
    subst (λ n. Fits task n space limits.sectors) size (write_fits limits sector (length bytes - 16) space task e)
type_fits Flush limits sector bytes space task long e = passed (λ t. Fits t (length bytes) space limits.sectors) Sync task tt e
type_fits GetId limits sector bytes space task long e = id_fits (length bytes) space limits.sectors task e
type_fits Discard limits sector bytes space task long e = with_segments_fit limits 0 bytes space task e
type_fits WriteZeroes limits sector bytes space task long e = with_segments_fit limits 1 bytes space task e

supported_fits : (kind : RequestType) (limits : Limits) (sector : ℕ) (bytes : List ℕ) (space : ℕ) (task : Task) → 16 ≤ length bytes → checked_known (Some kind) limits sector bytes space ≡ Ok task
    → Fits task (length bytes) space limits.sectors
supported_fits kind limits sector bytes space task long =
    by_choice (Fits task (length bytes) space limits.sectors) (not (is_supported kind limits.accepted.0)) (Err Unsupp)
    (if is_change kind && limits.read_only then Err IoErr else checked_type kind limits sector bytes space) (Ok task)
    (λ test e. refused (Fits task (length bytes) space limits.sectors) Unsupp task e)
    (λ test. by_choice (Fits task (length bytes) space limits.sectors) (is_change kind && limits.read_only) (Err IoErr) (checked_type kind limits sector bytes space) (Ok task)
    (λ read_only e. refused (Fits task (length bytes) space limits.sectors) IoErr task e)
    (λ open_disk e. type_fits kind limits sector bytes space task long e))

known_fits : (kind : Option RequestType) (limits : Limits) (sector : ℕ) (bytes : List ℕ) (space : ℕ) (task : Task) → 16 ≤ length bytes → checked_known kind limits sector bytes space ≡ Ok task
    → Fits task (length bytes) space limits.sectors
known_fits None limits sector bytes space task long e = refused (Fits task (length bytes) space limits.sectors) Unsupp task e
known_fits (Some kind) limits sector bytes space task long e = supported_fits kind limits sector bytes space task long e

-- a task that passed the checks fits what there is
pub checked_fits : (limits : Limits) (bytes : List ℕ) (space : ℕ) (task : Task) → checked limits bytes space ≡ Ok task → Fits task (length bytes) space limits.sectors
checked_fits limits bytes space task =
    by_choice (Fits task (length bytes) space limits.sectors) (nat_lt (length bytes) 16) (Err IoErr) (checked_known (type_of (header_of bytes).kind) limits (header_of bytes).sector bytes space) (Ok task)
    (λ test e. refused (Fits task (length bytes) space limits.sectors) IoErr task e)
    (λ test e. known_fits (type_of (header_of bytes).kind) limits (header_of bytes).sector bytes space task (grind (arith, nat_tests)) e)
