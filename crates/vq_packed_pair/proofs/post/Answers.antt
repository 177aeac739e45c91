use Rattle.std.proofs.Common.{◌≡◌, ℕ, List, Bool, length, is_ok, sym, ◌∙◌, ap}
use Rattle.vt_types.specs.Operation.{posted_buffer}
use Rattle.vt_types.proofs.Programs.{gives_runs}
use Rattle.guest_mem.specs.Pages.{MemoryView}
use Rattle.vq_common.specs.Queue.{DeviceQueue, DriverQueue, post_program}
use Rattle.vq_packed_drv.specs.Post.{packed_post_accesses, packed_posted}
use Rattle.memory_port.specs.declared.port.MemoryPort.{MemoryPort}
use Rattle.memory_port.specs.MemoryTable.{MemoryStep, memory_table}
use Rattle.memory_port.proofs.MemoryLaws.{length-run}
use Rattle.vq_packed_pair.specs.Pair.{HasTakenAll, ShowsNext}
use Rattle.vq_packed_pair.proofs.Meeting.{posted_is_shown}
use Rattle.vq_packed_pair.proofs.Outcomes.{post_leaves}
use Rattle.vq_packed_pair.proofs.post.Goals as goal

pub returns-clause-posts : goal.returns-clause-posts
returns-clause-posts c =
    gives_runs (λ (p : MemoryPort) a answer room room2 (p2 : MemoryPort). MemoryStep p.memory.bytes a answer room room2 p2.memory.bytes) (λ (p p2 : MemoryPort). p2.memory ≡ p.memory) (λ (p : MemoryPort). p.memory.bytes) memory_table (λ mem. mem)
    (record { steps = λ p p2 a answer room room2 s. s.table; marks = λ p p2 m. ap (λ (view : MemoryView). view.bytes) m })
    (post_program packed_post_accesses packed_posted c.args.driver.now.queue (posted_buffer c.args.buf.now)) c.args.port.now c.post.new.port (is_ok c.post.result, c.post.new.self.queue) c.post.ensures.gives

pub returns-clause-memory : goal.returns-clause-memory
returns-clause-memory c =
    ap (λ (r : (Bool × DriverQueue) × List ℕ). length r.1) (sym (returns-clause-posts c))
    ∙ length-run (post_program packed_post_accesses packed_posted c.args.driver.now.queue (posted_buffer c.args.buf.now)) c.args.port.now.memory.bytes

pub returns-clause-shows : goal.returns-clause-shows
returns-clause-shows c =
    let q : DriverQueue = c.args.driver.now.queue in
    let b = posted_buffer c.args.buf.now in
    post_leaves packed_post_accesses packed_posted c.post.result q c.post.new.self.queue b c.args.port.now.memory.bytes c.post.new.port.memory.bytes (λ mem. (d : DeviceQueue) → HasTakenAll q d → ShowsNext mem d b) (returns-clause-posts c)
    (λ room d taken. posted_is_shown c.args.port.now.memory.bytes q b d c.requires.ring c.post.ensures.order c.requires.postable room c.requires.table c.requires.feature taken)
