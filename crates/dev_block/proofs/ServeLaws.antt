-- How a request ends, and what is written of it.
use Rattle.std.proofs.Common.{◌≡◌, ℕ, ◌-◌, ◌≤◌, ◌<◌, ◌==◌, List, [], ◌∷◌, ◌++◌, length, replicate, Bool, false, IsTrue, Option, Some, None, Result, Ok, Err, refl, sym, ◌∙◌, ap, arith, length-append, ne_eqb}
use Rattle.std.proofs.lemmas.List.{length-replicate}
use Rattle.vt_outside.specs.declared.failed.Failed.{Failed}
use Rattle.vt_outside.specs.DiskCall.{DiskState}
use Rattle.vt_outside.specs.Tripped.{TrippedView, FailCause}
use Rattle.vt_outside.specs.Meets.{Meets, state_of}
use Rattle.vt_outside.proofs.MeetsLaws.{goes_still, meets_still, meets_to, takes_none}
use Rattle.vq_common.specs.declared.chain.Piece.{Piece}
use Rattle.vq_common.specs.Piece.{keeps_rules, readable, room, scatter}
use Rattle.vq_common.specs.Partial.{scatter_from}
use Rattle.vq_common.proofs.RuleFacts.{rules_inside}
use Rattle.vq_common.proofs.PieceLaws.{scatter-nil}
use Rattle.vq_common.proofs.PartialLaws.{scatter_from-zero}
use Rattle.vq_common.proofs.OverLaws.{scatter_over}
use Rattle.dev_block.specs.declared.state.BlkState.{BlkState}
use Rattle.dev_block.specs.declared.request.Refusal.{Refusal}
use Rattle.dev_block.specs.declared.request.Refusal.TheVariants.{IoErr}
use Rattle.dev_block.specs.Request.{cache_mode}
use Rattle.dev_block.specs.Check.{Task, checked}
use Rattle.dev_block.specs.Answer.{carried_out, ended, ended_by, limits_of, request_end, written, written_bytes, data_of, status_of, refusal_status}
use Rattle.dev_block.specs.Serve.{limits, Cause, CarriesOut, Ends, Serves, answer}
use Rattle.dev_block.proofs.ReadLaws.{scatter_behind}

-- the request of a state and readable bytes, as a function of the disk
abbrev request : BlkState → List ℕ → ℕ → DiskState → Result (List ℕ) Refusal × DiskState
request state bytes n d = request_end bytes n state.capacity (cache_mode state.writeback state.accepted.0) state.accepted.0 d

-- what is checked of a disk that tells its sectors is what is checked of its view
limits_told : (state : BlkState) (old : TrippedView) (image : List (List ℕ)) (outcomes : List Bool) → length image ≡ old.disk.count
    → limits_of state.capacity state.accepted.0 (state_of old image outcomes) ≡ limits state old
limits_told state old image outcomes size = ap (λ n. record { capacity = state.capacity; accepted = state.accepted; sectors = n; read_only = old.disk.read_only }) size

-- a request that is refused
request_refused : (state : BlkState) (bytes : List ℕ) (n : ℕ) (old : TrippedView) (image : List (List ℕ)) (outcomes : List Bool) (refusal : Refusal) → length image ≡ old.disk.count
    → checked (limits state old) bytes (n - 1) ≡ Err refusal → request state bytes n (state_of old image outcomes) ≡ (Err refusal, state_of old image outcomes)
request_refused state bytes n old image outcomes refusal size test =
    let mode : ℕ = cache_mode state.writeback state.accepted.0 in
    let d : DiskState = state_of old image outcomes in
    ap (λ l. ended_by (checked l bytes (n - 1)) bytes mode d) (limits_told state old image outcomes size)
    ∙ ap (λ t. ended_by t bytes mode d) test

meets_refused : (state : BlkState) (bytes : List ℕ) (n : ℕ) (old : TrippedView) (refusal : Refusal) → checked (limits state old) bytes (n - 1) ≡ Err refusal
    → Meets (request state bytes n) old (Err refusal) old
meets_refused state bytes n old refusal test =
    record {
      goes = goes_still old.disk;
      does = λ image before after told takes. (
        image,
        told,
        request_refused state bytes n old image before refusal told.1 test ∙ ap (λ o. (Err refusal, state_of old image o)) (takes_none old.disk before after takes),
      );
    }

-- a request that is carried out
meets_carried : (state : BlkState) (bytes : List ℕ) (n : ℕ) (old new : TrippedView) (task : Task) (got : Option (List ℕ)) (end : Result (List ℕ) Refusal)
    → checked (limits state old) bytes (n - 1) ≡ Ok task
    → ((d : DiskState) → ended (got, d) ≡ (end, d))
    → Meets (carried_out task bytes (cache_mode state.writeback state.accepted.0)) old got new
    → Meets (request state bytes n) old end new
meets_carried state bytes n old new task got end test ends meets =
    let mode : ℕ = cache_mode state.writeback state.accepted.0 in
    record {
      goes = meets.goes;
      does = λ image before after told takes.
          let (image2, told2, e) = meets.does image before after told takes in (
            image2,
            told2,
            ap (λ l. ended_by (checked l bytes (n - 1)) bytes mode (state_of old image before)) (limits_told state old image before told.1)
                ∙ ap (λ t. ended_by t bytes mode (state_of old image before)) test
                ∙ ap ended e
                ∙ ends (state_of new image2 after),
          );
    }

-- the cause of an end

cause_refused : (test : Result Task Refusal) (refusal : Refusal) (old : TrippedView) → test ≡ Err refusal → Cause test (Err refusal) old old
cause_refused (Ok task) refusal old e = absurd (cc)
cause_refused (Err other) refusal old e = (let same : other ≡ refusal = cc in ap (λ (r : Refusal). let end : Result (List ℕ) Refusal = Err r in end) (sym same), refl)

cause_done : (test : Result Task Refusal) (task : Task) (bytes : List ℕ) (old new : TrippedView) → test ≡ Ok task → Cause test (Ok bytes) old new
cause_done (Ok other) task bytes old new e = tt
cause_done (Err refusal) task bytes old new e = absurd (cc)

cause_failed : (test : Result Task Refusal) (task : Task) (old new : TrippedView) → test ≡ Ok task → FailCause old new → Cause test (Err IoErr) old new
cause_failed (Ok other) task old new e cause = (refl, cause)
cause_failed (Err refusal) task old new e cause = absurd (cc)

-- a request that a check refuses
pub ends_refused : (state : BlkState) (ps : List Piece) (mem : List ℕ) (old : TrippedView) (refusal : Refusal) → checked (limits state old) (readable mem ps) (room ps - 1) ≡ Err refusal
    → Ends state ps mem mem old old (Err refusal)
ends_refused state ps mem old refusal test =
    record {
      bytes = [];
      most = omega arith;
      size = tt;
      memory = sym (scatter-nil mem ps);
      disk = meets_refused state (readable mem ps) (room ps) old refusal test;
      cause = cause_refused (checked (limits state old) (readable mem ps) (room ps - 1)) refusal old test;
    }

-- one that is carried out
pub ends_done : (state : BlkState) (ps : List Piece) (mem mem2 : List ℕ) (old new : TrippedView) (task : Task) (size : ℕ) → checked (limits state old) (readable mem ps) (room ps - 1) ≡ Ok task
    → CarriesOut task (cache_mode state.writeback state.accepted.0) ps mem mem2 old new (Ok size) → Ends state ps mem mem2 old new (Ok size)
ends_done state ps mem mem2 old new task size test so =
    record {
      bytes = so.bytes;
      most = so.most;
      size = so.size;
      memory = so.memory;
      disk = meets_carried state (readable mem ps) (room ps) old new task (Some so.bytes) (Ok so.bytes) test (λ d. refl) so.calls.meets;
      cause = cause_done (checked (limits state old) (readable mem ps) (room ps - 1)) task so.bytes old new test;
    }

-- one that a call of the disk fails
pub ends_failed : (state : BlkState) (ps : List Piece) (mem mem2 : List ℕ) (old new : TrippedView) (task : Task) (failed : Failed) → checked (limits state old) (readable mem ps) (room ps - 1) ≡ Ok task
    → CarriesOut task (cache_mode state.writeback state.accepted.0) ps mem mem2 old new (Err failed) → Ends state ps mem mem2 old new (Err IoErr)
ends_failed state ps mem mem2 old new task failed test so =
    record {
      bytes = so.bytes;
      most = so.most;
      size = tt;
      memory = so.memory;
      disk = meets_carried state (readable mem ps) (room ps) old new task None (Err IoErr) test (λ d. refl) so.calls.meets;
      cause = cause_failed (checked (limits state old) (readable mem ps) (room ps - 1)) task old new test (so.calls.cause refl);
    }

-- a chain without room
pub serves_none : (state : BlkState) (ps : List Piece) (mem : List ℕ) (old : TrippedView) → room ps ≡ 0 → Serves state ps mem mem old old 0
serves_none state ps mem old none =
    let end : Result (List ℕ) Refusal = Err IoErr in
    let nothing : written_bytes (room ps) end ≡ [] = rw none refl in
    record {
      end = end;
      memory = rw nothing (sym (scatter-nil mem ps));
      number = rw nothing refl;
      whole = sym none;
      disk = meets_still (answer state (readable mem ps) (room ps)) old old (written_bytes (room ps) end) refl (λ image outcomes. rw none refl);
      none = λ e. refl;
      cause = λ some. absurd (omega arith);
    }

-- the bytes that are written of an end
bytes_of_end : (n : ℕ) (end : Result (List ℕ) Refusal) → 0 < n → written_bytes n end ≡ data_of end ++ (replicate (n - 1 - length (data_of end)) 0 ++ status_of end ∷ [])
bytes_of_end n end some = let test : (n == 0) ≡ false = ne_eqb n 0 (λ e. omega (arith, e)) in rw test refl

end_length : (n : ℕ) (end : Result (List ℕ) Refusal) → 0 < n → length (data_of end) ≤ n - 1 → length (written_bytes n end) ≡ n
end_length n end some few =
    let zeros : List ℕ = replicate (n - 1 - length (data_of end)) 0 in
    let size : length zeros ≡ n - 1 - length (data_of end) = length-replicate {A = ℕ} (n - 1 - length (data_of end)) 0 in
    ap length (bytes_of_end n end some) ∙ omega (arith, length-append (data_of end) (zeros ++ status_of end ∷ []), length-append zeros (status_of end ∷ []))

-- the disk's part of an answer with room
answer_is : (state : BlkState) (bytes : List ℕ) (n : ℕ) (d : DiskState) → 0 < n → answer state bytes n d ≡ written n (request state bytes n d)
answer_is state bytes n d some = let test : (n == 0) ≡ false = ne_eqb n 0 (λ e. omega (arith, e)) in rw test refl

meets_answer : (state : BlkState) (bytes : List ℕ) (n : ℕ) (old new : TrippedView) (end : Result (List ℕ) Refusal) → 0 < n → Meets (request state bytes n) old end new
    → Meets (answer state bytes n) old (written_bytes n end) new
meets_answer state bytes n old new end some meets =
    meets_to (request state bytes n) (answer state bytes n) old new end (written_bytes n end) (λ before after e. answer_is state bytes n before some ∙ ap (written n) e) meets

-- a chain that got the end of its request, whose memory is that of its bytes
serves_by : (state : BlkState) (ps : List Piece) (mem mem1 mem2 : List ℕ) (old new : TrippedView) (count : ℕ) (end : Result (List ℕ) Refusal) → count ≡ room ps → 0 < count
    → length (data_of end) ≤ room ps - 1
    → Meets (request state (readable mem ps) (room ps)) old end new
    → Cause (checked (limits state old) (readable mem ps) (room ps - 1)) end old new
    → mem2 ≡ scatter mem ps (data_of end ++ (replicate (room ps - 1 - length (data_of end)) 0 ++ status_of end ∷ []))
    → Serves state ps mem mem2 old new count
serves_by state ps mem mem1 mem2 old new count end all some few meets cause put =
    let room_some : 0 < room ps = omega arith in
    record {
      end = end;
      memory = put ∙ ap (scatter mem ps) (sym (bytes_of_end (room ps) end room_some));
      number = all ∙ sym (end_length (room ps) end room_some few);
      whole = all;
      disk = meets_answer state (readable mem ps) (room ps) old new end room_some meets;
      none = λ e. absurd (omega (arith, e));
      cause = λ e. cause;
    }

-- a request that ended well: zeros behind its data, and the status
pub serves_done : (state : BlkState) (ps : List Piece) (mem mem1 mem2 : List ℕ) (old new : TrippedView) (count size : ℕ) → IsTrue (keeps_rules (length mem) ps) → count ≡ room ps → 0 < count
    → Ends state ps mem mem1 old new (Ok size) → mem2 ≡ scatter_from size mem1 ps (replicate (count - 1 - size) 0 ++ 0 ∷ [])
    → Serves state ps mem mem2 old new count
serves_done state ps mem mem1 mem2 old new count size rules all some so put =
    let end : Result (List ℕ) Refusal = Ok so.bytes in
    let long : length so.bytes ≡ size = sym so.size in
    serves_by state ps mem mem1 mem2 old new count end all some so.most so.disk so.cause
    (put
    ∙ ap (λ (n : ℕ). scatter_from size mem1 ps (replicate (n - 1 - size) 0 ++ 0 ∷ [])) all
    ∙ ap (λ (m : List ℕ). scatter_from size m ps (replicate (room ps - 1 - size) 0 ++ 0 ∷ [])) so.memory
    ∙ scatter_behind mem ps so.bytes (replicate (room ps - 1 - size) 0 ++ 0 ∷ []) size rules long
    ∙ ap (λ (n : ℕ). scatter mem ps (so.bytes ++ (replicate (room ps - 1 - n) 0 ++ 0 ∷ []))) (sym long))

-- a request that is refused or failed: zeros over whatever was written of its data, and the status
pub serves_refused : (state : BlkState) (ps : List Piece) (mem mem1 mem2 : List ℕ) (old new : TrippedView) (count status : ℕ) (refusal : Refusal) → IsTrue (keeps_rules (length mem) ps) → count ≡ room ps
    → 0 < count → status ≡ refusal_status refusal
    → Ends state ps mem mem1 old new (Err refusal) → mem2 ≡ scatter_from 0 mem1 ps (replicate (count - 1 - 0) 0 ++ status ∷ [])
    → Serves state ps mem mem2 old new count
serves_refused state ps mem mem1 mem2 old new count status refusal rules all some is so put =
    let end : Result (List ℕ) Refusal = Err refusal in
    let zeros : List ℕ = replicate (room ps - 1 - 0) 0 in
    let size : length zeros ≡ room ps - 1 - 0 = length-replicate {A = ℕ} (room ps - 1 - 0) 0 in
    let most : length so.bytes ≤ room ps - 1 = so.most in
    let fewer : length so.bytes ≤ length (zeros ++ refusal_status refusal ∷ []) = omega (arith, length-append zeros (refusal_status refusal ∷ [])) in
    serves_by state ps mem mem1 mem2 old new count end all some (omega arith) so.disk so.cause
    (put
    ∙ ap (λ (n : ℕ). scatter_from 0 mem1 ps (replicate (n - 1 - 0) 0 ++ status ∷ [])) all
    ∙ ap (λ (s : ℕ). scatter_from 0 mem1 ps (zeros ++ s ∷ [])) is
    ∙ ap (λ (m : List ℕ). scatter_from 0 m ps (zeros ++ refusal_status refusal ∷ [])) so.memory
    ∙ scatter_from-zero (scatter mem ps so.bytes) ps (zeros ++ refusal_status refusal ∷ [])
    ∙ scatter_over mem ps so.bytes (zeros ++ refusal_status refusal ∷ []) (rules_inside (length mem) ps rules) fewer)
