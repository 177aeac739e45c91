-- The id and the record of a buffer that is posted.
use Rattle.std.proofs.Common.{◌≡◌, ℕ, ◌∙◌, List, [], ◌∷◌, length, take, refl, ap, arith}
use Rattle.vt_types.specs.Operation.{PostedBuffer}
use Rattle.vq_common.specs.declared.position.Position.{Position}
use Rattle.vq_common.specs.Position.{position_after}
use Rattle.vq_common.specs.Queue.{DriverQueue, Unreaped, slots_of, with_buffer}
use Rattle.vq_posted.specs.Free.{free_descriptors, head_of}
use Rattle.vq_packed_drv.specs.Post.{available_position, id_for, packed_posted}

head_of-take : (xs : List ℕ) → head_of (take 1 xs) ≡ head_of xs
head_of-take [] = refl
head_of-take (x ∷ xs) = refl

-- the id that was found is the lowest free one
pub id_is : (size size2 id : ℕ) (us : List Unreaped) (now items : List ℕ) → id ≡ head_of now → now ≡ items → items ≡ take 1 (free_descriptors size us) → size ≡ size2 → id ≡ head_of (free_descriptors size2 us)
id_is size size2 id us now items e f h k =
    e ∙ ap head_of (f ∙ h) ∙ head_of-take (free_descriptors size us) ∙ ap (λ (n : ℕ). head_of (free_descriptors n us)) k

-- one descriptor
pub only_one : (ns : List ℕ) → length ns ≡ 1 → ns ≡ head_of ns ∷ []
only_one [] e = absurd (omega (arith, e))
only_one (n ∷ []) e = refl
only_one (n ∷ m ∷ ns) e = absurd (omega (arith, e))

-- the record once a buffer is posted, from its parts
pub posted_is : (q : DriverQueue) (b : PostedBuffer) (after : Position) (items : List ℕ) (slots readable : ℕ) → length items ≡ 1 → head_of items ≡ id_for q → slots ≡ slots_of b → readable ≡ length b.readable
    → after ≡ position_after q.cfg.size (available_position q) slots
    → record q { available = after.location; available_wrap = after.wrap; unreaped = with_buffer (record { tag = b.tag; id = head_of items; descriptors = items; slots = slots; readable = readable }) q.unreaped }
    ≡ packed_posted q b
posted_is q b after items slots readable one e f h k =
    let next : after ≡ position_after q.cfg.size (available_position q) (slots_of b) = k ∙ ap (position_after q.cfg.size (available_position q)) f in
    let with : Position → Unreaped → DriverQueue = λ p u. record q { available = p.location; available_wrap = p.wrap; unreaped = with_buffer u q.unreaped } in
    ap (λ (p : Position). with p (record { tag = b.tag; id = head_of items; descriptors = items; slots = slots; readable = readable })) next
    ∙ ap (λ (ns : List ℕ). with (position_after q.cfg.size (available_position q) (slots_of b)) (record { tag = b.tag; id = head_of items; descriptors = ns; slots = slots; readable = readable })) (only_one items one)
    ∙ ap (λ (n : ℕ). with (position_after q.cfg.size (available_position q) (slots_of b)) (record { tag = b.tag; id = n; descriptors = n ∷ []; slots = slots; readable = readable })) e
    ∙ ap (λ (n : ℕ). with (position_after q.cfg.size (available_position q) (slots_of b)) (record { tag = b.tag; id = id_for q; descriptors = id_for q ∷ []; slots = n; readable = readable })) f
    ∙ ap (λ (n : ℕ). with (position_after q.cfg.size (available_position q) (slots_of b)) (record { tag = b.tag; id = id_for q; descriptors = id_for q ∷ []; slots = slots_of b; readable = n })) h
