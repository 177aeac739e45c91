-- The unreaped buffers of a split ring.
use Rattle.std.proofs.Common.{◌≡◌, ℕ, ◌<◌, ◌≤◌, ◌^◌, List, [], ◌∷◌, length, take, ◌∙◌, ap, arith}
use Rattle.std.specs.Prelude.{All, IsTrue}
use Rattle.std.proofs.lemmas.List.Elements.{All-head}
use Rattle.vt_types.specs.Operation.{PostedBuffer}
use Rattle.vq_common.specs.Queue.{DriverQueue, Unreaped, free_slots, slots_of, with_buffer}
pub use Rattle.vq_common.proofs.PostLaws.{slots_of-some}
use Rattle.vq_posted.specs.Free.{free_descriptors, head_of, is_distinct}
use Rattle.vq_posted.proofs.Buffers.{free_distinct, lowest_free-below, lowest_free-length}
use Rattle.vq_posted.proofs.Kept.{all_raised}
use Rattle.vq_posted.proofs.Members.{distinct_take}
use Rattle.vq_split_drv.specs.Driver.{IsSplitQueue}
use Rattle.vq_split_drv.specs.Post.{descriptors_for, split_posted}

head_below : (limit : ℕ) (ns : List ℕ) → 0 < limit → All (λ n. n < limit) ns → head_of ns < limit
head_below limit [] some below = some
head_below limit (n ∷ ns) some below = All-head (λ m. m < limit) n ns below

-- the first of some free descriptors has 16 bits
pub head_of_free : (size count : ℕ) (us : List Unreaped) → size ≤ 1024 → head_of (take count (free_descriptors size us)) < 2 ^ 16
head_of_free size count us few =
    head_below (2 ^ 16) (take count (free_descriptors size us)) (omega arith) (all_raised size (2 ^ 16) (take count (free_descriptors size us)) (omega arith) (lowest_free-below size count us))

-- the descriptors that a buffer gets are below the size, all different, and as many as its slots
pub descriptors_for-below : (q : DriverQueue) (b : PostedBuffer) → All (λ n. n < q.cfg.size) (descriptors_for q b)
descriptors_for-below q b = lowest_free-below q.cfg.size (slots_of b) q.unreaped

pub descriptors_for-distinct : (q : DriverQueue) (b : PostedBuffer) → IsTrue (is_distinct (descriptors_for q b))
descriptors_for-distinct q b = distinct_take (slots_of b) (free_descriptors q.cfg.size q.unreaped) (free_distinct q.cfg.size q.unreaped)

pub length-descriptors_for : (q : DriverQueue) (b : PostedBuffer) → IsSplitQueue q → slots_of b ≤ free_slots q → length (descriptors_for q b) ≡ slots_of b
length-descriptors_for q b h room = lowest_free-length q.cfg.size (slots_of b) q.unreaped h.order room

-- the buffers once one more is posted
pub posted_are : (q : DriverQueue) (b : PostedBuffer) (locations : List ℕ) (slots readable : ℕ) → locations ≡ descriptors_for q b → slots ≡ slots_of b → readable ≡ length b.readable
    → with_buffer (record { tag = b.tag; id = head_of locations; descriptors = locations; slots = slots; readable = readable }) q.unreaped ≡ (split_posted q b).unreaped
posted_are q b locations slots readable e f h = ap (λ (u : Unreaped). with_buffer u q.unreaped)
    (ap (λ (ns : List ℕ). record { tag = b.tag; id = head_of ns; descriptors = ns; slots = slots; readable = readable }) e
    ∙ ap (λ (n : ℕ). record { tag = b.tag; id = head_of (descriptors_for q b); descriptors = descriptors_for q b; slots = n; readable = readable }) f
    ∙ ap (λ (n : ℕ). record { tag = b.tag; id = head_of (descriptors_for q b); descriptors = descriptors_for q b; slots = slots_of b; readable = n }) h)
