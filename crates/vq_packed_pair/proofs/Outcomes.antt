-- What a post over guest memory left, for both kinds of ring.
use Rattle.std.proofs.Common.{◌≡◌, ℕ, ◌<◌, ◌≤◌, List, Bool, true, false, Result, Ok, Err, inl, inr, sym, refl, ◌∙◌, ap, subst}
use Rattle.std.specs.Prelude.{OnOk, is_ok}
use Rattle.std.proofs.lemmas.Bool.{cases_lt, false≢true, le-ltb, lt-ltb}
use Rattle.vt_types.specs.Access.{AccessValue}
use Rattle.vt_types.specs.Operation.{PostedBuffer}
use Rattle.vt_types.specs.Program.{Mark, End, run}
use Rattle.vt_types.proofs.Programs.{run-do_all}
use Rattle.vq_common.specs.Queue.{DriverQueue, free_slots, post_program, slots_of}
use Rattle.memory_port.specs.MemoryTable.{memory_table}
use Rattle.vq_split_pair.proofs.Written.{written}

module _ (accesses : DriverQueue → PostedBuffer → List AccessValue) (posted : DriverQueue → PostedBuffer → DriverQueue) where
  -- where the ring has room, memory after a post is as its accesses leave it
  post_with_room : (q : DriverQueue) (b : PostedBuffer) (mem : List ℕ) → slots_of b ≤ free_slots q
      → run memory_table (λ mem. mem) (post_program accesses posted q b) mem ≡ ((true, posted q b), written (accesses q b) mem)
  post_with_room q b mem room = rw (le-ltb (free_slots q) (slots_of b) room) (run-do_all memory_table (λ mem. mem) (accesses q b) (Mark (End (true, posted q b))) mem)

  -- and else as it was
  post_when_full : (q : DriverQueue) (b : PostedBuffer) (mem : List ℕ) → free_slots q < slots_of b → run memory_table (λ mem. mem) (post_program accesses posted q b) mem ≡ ((false, q), mem)
  post_when_full q b mem full = rw (lt-ltb (free_slots q) (slots_of b) full) refl

  -- what holds of memory as the accesses leave it holds after a post that did not answer Full
  pub post_leaves : {E : Type 0} (r : Result (Unit {0}) E) (q q2 : DriverQueue) (b : PostedBuffer) (mem mem2 : List ℕ) (P : List ℕ → Type 0)
      → run memory_table (λ mem. mem) (post_program accesses posted q b) mem ≡ ((is_ok r, q2), mem2) → (slots_of b ≤ free_slots q → P (written (accesses q b) mem)) → OnOk r (P mem2)
  post_leaves (Err e) q q2 b mem mem2 P ran holds = tt
  post_leaves (Ok x) q q2 b mem mem2 P ran holds =
      elim (cases_lt (free_slots q) (slots_of b)) [
        | inl full ↦ absurd (false≢true (ap (λ (p : (Bool × DriverQueue) × List ℕ). p.0.0) (sym (post_when_full q b mem full) ∙ ran)))
        | inr room ↦ subst P (ap (λ (p : (Bool × DriverQueue) × List ℕ). p.1) (sym (post_with_room q b mem room) ∙ ran)) (holds room)
      ]
