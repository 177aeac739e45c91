-- Posting, for both kinds of ring.
use Rattle.std.proofs.Common.{ℕ, ◌≡◌, ◌<◌, ◌≤◌, List, Bool, true, false, cond, ltb, length, take, refl, inl, inr, arith}
use Rattle.std.specs.Prelude.{sum}
use Rattle.std.proofs.lemmas.Bool.{cases_Bool, le-ltb, lt-ltb}
use Rattle.std.proofs.lemmas.Grind.{common_steps}
use Rattle.vt_types.specs.declared.access.Answer.{Answer}
use Rattle.vt_types.specs.Access.{AccessValue}
use Rattle.vt_types.specs.Operation.{PostedBuffer}
use Rattle.vt_types.specs.Program.{Mark, End, Gives, Does, cost_of_all, run}
use Rattle.vt_types.specs.Tables.{after_all}
use Rattle.vt_types.proofs.Programs.{gives_do_all, run-do_all}
use Rattle.vq_common.specs.Buffer.{IsPostable}
use Rattle.vq_common.specs.Queue.{DriverQueue, cost_of_post, free_slots, post_program, slots_of}

-- a buffer has at most 8,192 readable bytes
pub readable-le : (b : PostedBuffer) → IsPostable b → length b.readable ≤ 8192
readable-le b h =
    let readable : length b.readable ≡ sum (take b.readable_pieces b.lengths) = h.readable in
    let total : sum b.lengths ≤ 8192 = h.total in
    grind (arith, common_steps)

-- a buffer takes 1 to 8 slots
pub slots_of-some : (b : PostedBuffer) → IsPostable b → (1 ≤ slots_of b) × (slots_of b ≤ 8)
slots_of-some b h =
    let some : 1 ≤ length b.lengths = h.some in
    let few : length b.lengths ≤ 8 = h.few in
    elim (cases_Bool b.indirect) [ inl t ↦ rw t (omega arith, omega arith) | inr f ↦ rw f (some, few) ]

-- what posting costs where the ring has room
pub cost_with_room : (accesses : DriverQueue → PostedBuffer → List AccessValue) (q : DriverQueue) (b : PostedBuffer) → slots_of b ≤ free_slots q → cost_of_post accesses q b ≡ cost_of_all (accesses q b)
cost_with_room accesses q b room = rw (le-ltb (free_slots q) (slots_of b) room) refl

no_more : (c : Bool) (n : ℕ) → cond c 0 n ≤ n
no_more true n = omega arith
no_more false n = omega arith

-- no more than the accesses cost, also where the ring may be full
pub cost_or_nothing : (accesses : DriverQueue → PostedBuffer → List AccessValue) (q : DriverQueue) (b : PostedBuffer) → cost_of_post accesses q b ≤ cost_of_all (accesses q b)
cost_or_nothing accesses q b = no_more (ltb (free_slots q) (slots_of b)) (cost_of_all (accesses q b))

module _ {P : Type 0} (step : P → AccessValue → Answer → List ℕ → List ℕ → P → Type 0) (marking : P → P → Type 0) (accesses : DriverQueue → PostedBuffer → List AccessValue) (posted : DriverQueue → PostedBuffer → DriverQueue) where
  -- a buffer is posted
  pub post_gives : (q : DriverQueue) (b : PostedBuffer) (p mid p2 : P) → slots_of b ≤ free_slots q → Does step marking (accesses q b) p mid → marking mid p2
      → Gives step marking (post_program accesses posted q b) p (true, posted q b) p2
  post_gives q b p mid p2 room done mark =
      rw (le-ltb (free_slots q) (slots_of b) room)
      (gives_do_all step marking (accesses q b) (Mark (End (true, posted q b))) p mid p2 (true, posted q b) done (p2, mark, (refl, refl)))

  -- the ring is full
  pub full_gives : (q : DriverQueue) (b : PostedBuffer) (p : P) → free_slots q < slots_of b → Gives step marking (post_program accesses posted q b) p (false, q) p
  full_gives q b p full = rw (lt-ltb (free_slots q) (slots_of b) full) (refl, refl)

module _ {R : Type 0} (table : AccessValue → R → Answer × List ℕ × R) (mark : R → R) (accesses : DriverQueue → PostedBuffer → List AccessValue) (posted : DriverQueue → PostedBuffer → DriverQueue) where
  -- what a post over a table leaves
  pub run-post : (q : DriverQueue) (b : PostedBuffer) (r : R) → slots_of b ≤ free_slots q
      → run table mark (post_program accesses posted q b) r ≡ ((true, posted q b), mark (after_all table (accesses q b) r))
  run-post q b r room = rw (le-ltb (free_slots q) (slots_of b) room) (run-do_all table mark (accesses q b) (Mark (End (true, posted q b))) r)

  pub run-full : (q : DriverQueue) (b : PostedBuffer) (r : R) → free_slots q < slots_of b → run table mark (post_program accesses posted q b) r ≡ ((false, q), r)
  run-full q b r full = rw (lt-ltb (free_slots q) (slots_of b) full) refl
