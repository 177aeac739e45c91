-- A post that did not answer Full shows its buffer.
use Rattle.std.proofs.Common.{◌≡◌, ℕ, ◌≤◌, List, length, Bool, Result, Ok, Err, IsTrue, inl, inr, sym, ◌∙◌, ap, subst}
use Rattle.std.specs.Prelude.{OnOk, is_ok}
use Rattle.std.proofs.lemmas.Bool.{cases_lt, false≢true}
use Rattle.vt_types.specs.Operation.{PostedBuffer}
use Rattle.vt_types.specs.Program.{run}
use Rattle.vq_common.specs.Buffer.{IsPostable}
use Rattle.vq_common.specs.Queue.{DeviceQueue, DriverQueue, free_slots, post_program, slots_of}
use Rattle.vq_split_drv.specs.Driver.{IsSplitQueue}
use Rattle.vq_split_drv.specs.Post.{split_post_accesses, split_posted}
use Rattle.vq_split_drv.proofs.Posts.{run-full, run-post}
use Rattle.memory_port.specs.MemoryTable.{memory_table}
use Rattle.vq_split_pair.specs.Pair.{HasTakenAll, IsInMemory, ShowsBuffer}
use Rattle.vq_split_pair.proofs.Meeting.{posted_is_shown}
use Rattle.vq_split_pair.proofs.Written.{written}

-- a post over guest memory that did not answer Full leaves a ring that shows the buffer next
pub post_shows : {E : Type 0} (r : Result (Unit {0}) E) (q q2 : DriverQueue) (b : PostedBuffer) (mem mem2 : List ℕ)
    → run memory_table (λ mem. mem) (post_program split_post_accesses split_posted q b) mem ≡ ((is_ok r, q2), mem2)
    → IsInMemory (length mem) q.cfg q.base → IsSplitQueue q → IsPostable b → (IsTrue b.indirect → length b.lengths ≤ q.cfg.size) → (IsTrue b.indirect → IsTrue q.cfg.indirect)
    → OnOk r ((d : DeviceQueue) → HasTakenAll q d → ShowsBuffer mem2 d b)
post_shows (Err e) q q2 b mem mem2 ran ring is postable table feature = tt
post_shows (Ok x) q q2 b mem mem2 ran ring is postable table feature = λ d taken.
    elim (cases_lt (free_slots q) (slots_of b)) [
      | inl full ↦ absurd (false≢true (ap (λ (p : (Bool × DriverQueue) × List ℕ). p.0.0) (sym (run-full memory_table (λ mem. mem) q b mem full) ∙ ran)))
      | inr room ↦
          let after : List ℕ = written (split_post_accesses q b) mem in
          let left : after ≡ mem2 = ap (λ (p : (Bool × DriverQueue) × List ℕ). p.1) (sym (run-post memory_table (λ mem. mem) q b mem room) ∙ ran) in
          subst (λ (m : List ℕ). ShowsBuffer m d b) left (posted_is_shown mem q b d ring is postable room table feature taken)
    ]
