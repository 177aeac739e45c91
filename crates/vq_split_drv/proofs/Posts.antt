-- The accesses of a post.
use Rattle.std.proofs.Common.{◌≡◌, ℕ, ◌<◌, ◌≤◌, List, ◌++◌, true, false}
use Rattle.vt_types.specs.declared.access.Answer.{Answer}
use Rattle.vt_types.specs.Access.{AccessValue}
use Rattle.vt_types.specs.Operation.{PostedBuffer}
use Rattle.vt_types.specs.Program.{Does, run}
use Rattle.vt_types.specs.Tables.{after_all}
use Rattle.port_access.proofs.InOrder.{does_then}
use Rattle.vt_layout.specs.QueueBlock.{data_address}
use Rattle.vq_common.specs.Queue.{DriverQueue, free_slots, slots_of, post_program}
use Rattle.vq_common.proofs.PostLaws as posts
use Rattle.vq_posted.specs.Free.{head_of}
use Rattle.port_access.specs.Accesses.{data_puts}
use Rattle.vq_split_drv.specs.Post.{available_puts, chain_puts, post_puts, split_post_accesses, split_posted}

module _ {P : Type 0} (step : P → AccessValue → Answer → List ℕ → List ℕ → P → Type 0) (marking : P → P → Type 0) where
  -- the parts of a post, one after the other
  pub post_does : (q : DriverQueue) (b : PostedBuffer) (locations : List ℕ) (p p2 p3 p4 : P)
      → Does step marking (data_puts (data_address q.base (head_of locations)) b.readable) p p2 → Does step marking (chain_puts q b locations) p2 p3 → Does step marking (available_puts q (head_of locations)) p3 p4
      → Does step marking (post_puts q b locations) p p4
  post_does q b locations p p2 p3 p4 first second third =
      let data1 : List AccessValue = data_puts (data_address q.base (head_of locations)) b.readable in
      does_then step marking (data1 ++ chain_puts q b locations) (available_puts q (head_of locations)) p p3 p4 (does_then step marking data1 (chain_puts q b locations) p p2 p3 first second) third

module _ {R : Type 0} (table : AccessValue → R → Answer × List ℕ × R) (mark : R → R) where
  -- what a post over a table leaves
  pub run-post : (q : DriverQueue) (b : PostedBuffer) (r : R) → slots_of b ≤ free_slots q
      → run table mark (post_program split_post_accesses split_posted q b) r ≡ ((true, split_posted q b), mark (after_all table (split_post_accesses q b) r))
  run-post q b r room = posts.run-post table mark split_post_accesses split_posted q b r room

  pub run-full : (q : DriverQueue) (b : PostedBuffer) (r : R) → free_slots q < slots_of b → run table mark (post_program split_post_accesses split_posted q b) r ≡ ((false, q), r)
  run-full q b r full = posts.run-full table mark split_post_accesses split_posted q b r full
