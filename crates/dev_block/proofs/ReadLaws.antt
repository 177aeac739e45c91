-- Sectors that are read into the writable bytes of a chain.
use Rattle.std.proofs.Common.{◌≡◌, ℕ, zero, suc, ◌+◌, ◌-◌, ◌*◌, ◌<◌, List, [], ◌++◌, length, true, false, IsTrue, Option, Some, None, Result, Ok, Err, refl, sym, ◌∙◌, ap, arith, add-one, length-append}
use Rattle.vt_outside.specs.declared.failed.Failed.{Failed}
use Rattle.vt_outside.specs.DiskCall.{DiskState, read_call}
use Rattle.vt_outside.specs.Tripped.{TrippedView, TripCalled, FailCause}
use Rattle.vt_outside.specs.Meets.{Meets}
use Rattle.vq_common.specs.declared.chain.Piece.{Piece}
use Rattle.vq_common.specs.Piece.{keeps_rules, scatter}
use Rattle.vq_common.specs.Partial.{scatter_from}
use Rattle.vq_common.proofs.RuleFacts.{rules_inside}
use Rattle.vq_common.proofs.PieceLaws.{scatter-nil}
use Rattle.vq_common.proofs.PartialLaws.{scatter_from-zero, scatter_from-append}
use Rattle.dev_block.specs.Calls.{Calls, ReadsOver}
use Rattle.dev_block.specs.Sectors.{and_read, read_sectors}
use Rattle.dev_block.proofs.CallsLaws.{calls_one, calls_none, calls_to, calls_then}

-- bytes over a chain, and then others behind them
pub scatter_behind : (mem : List ℕ) (ps : List Piece) (xs ys : List ℕ) (n : ℕ) → IsTrue (keeps_rules (length mem) ps) → length xs ≡ n
    → scatter_from n (scatter mem ps xs) ps ys ≡ scatter mem ps (xs ++ ys)
scatter_behind mem ps xs ys n rules size =
    let location : n ≡ 0 + length xs = omega arith in
    ap (λ (k : ℕ). scatter_from k (scatter mem ps xs) ps ys) location
    ∙ ap (λ (m : List ℕ). scatter_from (0 + length xs) m ps ys) (sym (scatter_from-zero mem ps xs))
    ∙ scatter_from-append 0 mem ps xs ys (rules_inside (length mem) ps rules)
    ∙ scatter_from-zero mem ps (xs ++ ys)

-- a reading after readings that did not fail, and none after one that failed
then_read : (x : Option (List ℕ) × DiskState) (n : ℕ) (bytes more : List ℕ) (between after : DiskState) → x ≡ (Some bytes, between) → read_call n between ≡ (Some more, after) → and_read n x ≡ (Some (bytes ++ more), after)
then_read x n bytes more between after e h = rw (e, h) refl

then_fails : (x : Option (List ℕ) × DiskState) (n : ℕ) (bytes : List ℕ) (between after : DiskState) → x ≡ (Some bytes, between) → read_call n between ≡ (None, after) → and_read n x ≡ (None, after)
then_fails x n bytes between after e h = rw (e, h) refl

then_none : (x : Option (List ℕ) × DiskState) (n : ℕ) (after : DiskState) → x ≡ (None, after) → and_read n x ≡ (None, after)
then_none x n after e = rw e refl

read_fails : (sector k j : ℕ) (before after : DiskState) → read_sectors k sector before ≡ (None, after) → read_sectors (k + j) sector before ≡ (None, after)
read_fails sector k zero before after e = let same : k + 0 ≡ k = omega arith in rw same e
read_fails sector k (suc j) before after e =
    let next : k + suc j ≡ suc (k + j) = omega arith in
    rw next (then_none (read_sectors (k + j) sector before) (sector + (k + j)) after (read_fails sector k j before after e))

pub reads_none : (sector : ℕ) (ps : List Piece) (mem : List ℕ) (old : TrippedView) → ReadsOver sector 0 ps mem mem old old (Ok tt)
reads_none sector ps mem old =
    record {
      bytes = [];
      most = omega arith;
      whole = refl;
      memory = sym (scatter-nil mem ps);
      calls = calls_none (read_sectors 0 sector) old (Some []) (λ d. refl);
    }

-- one sector more is read, and written behind the others
pub reads_more : (sector k : ℕ) (ps : List Piece) (mem mem1 mem2 room : List ℕ) (old mid new : TrippedView) (x : Unit {0}) → IsTrue (keeps_rules (length mem) ps) → length room ≡ 512
    → Meets (read_call (sector + k)) mid (Some room) new → TripCalled mid new (Ok x) → mem2 ≡ scatter_from (512 * k) mem1 ps room
    → ReadsOver sector k ps mem mem1 old mid (Ok tt) → ReadsOver sector (k + 1) ps mem mem2 old new (Ok tt)
reads_more sector k ps mem mem1 mem2 room old mid new x rules size meets called put so =
    let ok : Result Unit Failed = Ok x in
    let next : k + 1 ≡ suc k = add-one k in
    let one : Calls (read_call (sector + k)) mid (Some room) new true = calls_one (read_call (sector + k)) mid new (Some room) ok meets called tt in
    let long : length so.bytes ≡ 512 * k = so.whole in
    let all : length (so.bytes ++ room) ≡ 512 * (k + 1) = omega (arith, length-append so.bytes room) in
    record {
      bytes = so.bytes ++ room;
      most = omega arith;
      whole = all;
      memory = put ∙ ap (λ (m : List ℕ). scatter_from (512 * k) m ps room) so.memory ∙ scatter_behind mem ps so.bytes room (512 * k) rules long;
      calls = calls_then (read_sectors k sector) (read_call (sector + k)) (read_sectors (k + 1) sector) old mid new (Some so.bytes) (Some room) (Some (so.bytes ++ room)) true
          (λ before between after e h. rw next (then_read (read_sectors k sector before) (sector + k) so.bytes room between after e h)) so.calls one;
    }

-- a reading that failed is the last
pub reads_stop : (sector k count : ℕ) (ps : List Piece) (mem mem1 : List ℕ) (old mid new : TrippedView) (e f : Failed) → k < count
    → Meets (read_call (sector + k)) mid None new → TripCalled mid new (Err e) → FailCause mid new
    → ReadsOver sector k ps mem mem1 old mid (Ok tt) → ReadsOver sector count ps mem mem1 old new (Err f)
reads_stop sector k count ps mem mem1 old mid new e f within meets called cause so =
    let failed : Result Unit Failed = Err e in
    let next : k + 1 ≡ suc k = add-one k in
    let rest : k + 1 + (count - (k + 1)) ≡ count = omega arith in
    let one : Calls (read_call (sector + k)) mid None new false = calls_one (read_call (sector + k)) mid new None failed meets called cause in
    let first : Calls (read_sectors (k + 1) sector) old None new false =
    calls_then (read_sectors k sector) (read_call (sector + k)) (read_sectors (k + 1) sector) old mid new (Some so.bytes) None None false
    (λ before between after h i. rw next (then_fails (read_sectors k sector before) (sector + k) so.bytes between after h i)) so.calls one in
    let long : length so.bytes ≡ 512 * k = so.whole in
    record {
      bytes = so.bytes;
      most = omega arith;
      whole = tt;
      memory = so.memory;
      calls = calls_to (read_sectors (k + 1) sector) (read_sectors count sector) old new None None false
          (λ before after h. rw (← rest) (read_fails sector (k + 1) (count - (k + 1)) before after h)) first;
    }
