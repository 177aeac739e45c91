-- What the calls of both ends make of the relation, from what their contracts say.
use Rattle.std.proofs.Common.{◌≡◌, ℕ, ◌+◌, ◌≤◌, List, [], ◌∷◌, ◌++◌, length, map, Bool, true, false, Option, Some, None, Result, Ok, Err, IsTrue, refl, sym, ◌∙◌, ap, subst, inl, inr}
use Rattle.std.specs.Prelude.{OnOk, IsOk, is_ok, ◌↔◌}
use Rattle.std.proofs.lemmas.Bool.{cases_lt, false≢true}
use Rattle.guest_mem.specs.Memory.{put_at}
use Rattle.guest_mem.specs.Pages.{MemoryView, written}
use Rattle.guest_mem.proofs.Parts.{length-put_at, part-put_at_apart}
use Rattle.vt_types.specs.Operation.{PostedBuffer}
use Rattle.vt_types.specs.Program.{run}
use Rattle.vt_types.specs.Tables.{after_all}
use Rattle.vq_common.specs.Buffer.{IsPostable}
use Rattle.vq_common.specs.Chain.{ChainValue, Walked, Empty, Front, TakesBy, after_take}
use Rattle.vt_types.specs.Device.{BLOCK_LEN}
use Rattle.vq_common.specs.Piece.{scatter}
use Rattle.vq_common.specs.Queue.{DeviceQueue, DriverQueue, Given, ReapedValue, free_slots, holds_tag, post_program, slots_of}
use Rattle.vq_split_dev.specs.Give.{split_given}
use Rattle.vq_split_dev.specs.Walk.{split_taken, split_walk}
use Rattle.vq_split_drv.specs.Post.{split_post_accesses, split_posted}
use Rattle.vq_split_drv.specs.Reap.{split_reap_program, split_reaped}
use Rattle.vq_split_drv.proofs.Posts.{run-full, run-post}
use Rattle.memory_port.specs.MemoryTable.{memory_table}
use Rattle.abstract_devices.specs.World.{AbstractQueue}
use Rattle.abstract_devices.specs.Operate.{buffer_of}
use Rattle.ring_part.specs.Held.{Held, UsedHeld, available_of, chain_of_held, unreaped_of, used_of}
use Rattle.ring_part.specs.Laws.{ChangedBy, GiveKeeps, PostKeeps, ReapKeeps, ReapsFirst, TakeKeeps, TakesFirst, WriteKeeps, give_puts, reap_puts}
use Rattle.ring_part.specs.RingPart.{RingPart}
use Rattle.ring_part.proofs.Frame.{frame}
use Rattle.ring_part.proofs.Given as give
use Rattle.ring_part.proofs.Posted.{held_for}
use Rattle.ring_part.proofs.PostWhole.{post_changes, posted_all}
use Rattle.ring_part.proofs.ReapRun.{reap_changes, reaped_of, reaped_all, run-reap, run-reap_none, asked_memory}
use Rattle.ring_part.proofs.Shown as walk
use Rattle.ring_part.proofs.Taken.{taken_part}

takes_first : {mem : List ℕ} {a : AbstractQueue} {d : DeviceQueue} {q : DriverQueue} {used : List UsedHeld} {taken : List Held} (waiting : List Held) (shown : Walked) (d2 : DeviceQueue) → RingPart mem a d q used taken waiting
    → TakesBy split_walk split_taken mem d shown d2 → TakesFirst mem a d q used taken waiting shown d2
takes_first {d = d} [] shown d2 part takes =
    let empty : shown ≡ Empty = takes.shows ∙ walk.shown_empty part in
    (empty, takes.record_after ∙ ap (after_take split_taken d) empty)
takes_first {mem} {a} {d} {q} {used} {taken} (h ∷ rest) shown d2 part takes =
    let c : ChainValue = chain_of_held q.base h in
    let front : shown ≡ Front c = takes.shows ∙ (walk.shown part).front in
    let after : d2 ≡ split_taken d c = takes.record_after ∙ ap (after_take split_taken d) front in
    (front, subst (λ (e : DeviceQueue). RingPart mem (record a { available = map available_of rest }) e q used (taken ++ h ∷ []) rest) (sym after) (taken_part c part))

pub take_keeps : (mem : List ℕ) (d : DeviceQueue) (shown : Walked) (d2 : DeviceQueue) → TakesBy split_walk split_taken mem d shown d2 → TakeKeeps mem d shown d2
take_keeps mem d shown d2 takes = λ a q used taken waiting part. takes_first waiting shown d2 part takes

pub give_keeps : (mem : List ℕ) (d : DeviceQueue) (c : ChainValue) (written : List ℕ) (signalled : Bool) (d2 : DeviceQueue) (mem2 : List ℕ)
    → split_given (scatter mem c.pieces written) d c (length written) ≡ record { memory = mem2; queue = d2; signals = signalled } → GiveKeeps mem d c written signalled d2 mem2
give_keeps mem d c written signalled d2 mem2 gives = λ a q used before h after waiting part is few.
    let left : Given = record { memory = mem2; queue = d2; signals = signalled } in
    let u : UsedHeld = record { held = h; written = written } in
    let same : split_given (scatter mem (chain_of_held q.base h).pieces written) d (chain_of_held q.base h) (length written) ≡ left
    = ap (λ (x : ChainValue). split_given (scatter mem x.pieces written) d x (length written)) (sym is) ∙ gives
    in (
      subst (λ (g : Given). RingPart g.memory (record a { used = a.used ++ used_of u ∷ [] }) g.queue q (used ++ u ∷ []) (before ++ after) waiting) same (give.given before h after waiting written part few),
      sym (ap (λ (g : Given). g.signals) same) ∙ give.signalled before h after waiting written part few,
      subst (λ (g : Given). ChangedBy (give_puts q.base q.cfg.size d.used u) mem g.memory) same (give.given_changes before h after waiting written part few),
    )

pub post_keeps : {E : Type 0} (r : Result (Unit {0}) E) (q q2 : DriverQueue) (b : PostedBuffer) (mem mem2 : List ℕ)
    → run memory_table (λ mem. mem) (post_program split_post_accesses split_posted q b) mem ≡ ((is_ok r, q2), mem2)
    → IsPostable b → holds_tag b.tag q.unreaped ≡ false → (IsTrue b.indirect → length b.lengths ≤ q.cfg.size) → (IsTrue b.indirect → IsTrue q.cfg.indirect) → OnOk r (PostKeeps mem q b q2 mem2)
post_keeps (Err e) q q2 b mem mem2 ran postable new_tag table feature = tt
post_keeps (Ok x) q q2 b mem mem2 ran postable new_tag table feature = λ a d used taken waiting part.
    elim (cases_lt (free_slots q) (slots_of b)) [
      | inl full ↦ absurd (false≢true (ap (λ (p : (Bool × DriverQueue) × List ℕ). p.0.0) (sym (run-full memory_table (λ mem. mem) q b mem full) ∙ ran)))
      | inr room ↦
          let left : ((true, split_posted q b), after_all memory_table (split_post_accesses q b) mem) ≡ ((true, q2), mem2) = sym (run-post memory_table (λ mem. mem) q b mem room) ∙ ran in
          let P : (Bool × DriverQueue) × List ℕ → Type 0 = λ p. RingPart p.1 (record a { available = a.available ++ buffer_of b ∷ [] }) d p.0.1 used taken (waiting ++ held_for q b ∷ []) in
          let changes : ChangedBy (split_post_accesses q b) mem mem2
          = subst (λ (p : (Bool × DriverQueue) × List ℕ). ChangedBy (split_post_accesses q b) mem p.1) left (post_changes part b postable room new_tag table feature)
          in
          (held_for q b, refl, subst P left (posted_all part b postable room new_tag table feature), changes)
    ]

reaps_first : {mem : List ℕ} {a : AbstractQueue} {d : DeviceQueue} {q : DriverQueue} (used : List UsedHeld) {taken waiting : List Held} (r : Option ReapedValue) (q2 : DriverQueue) (mem2 : List ℕ) → RingPart mem a d q used taken waiting
    → run memory_table (λ m. m) (split_reap_program q) mem ≡ ((r, q2), mem2) → ReapsFirst mem a d q used taken waiting r q2 mem2
reaps_first {mem} {a} {d} {q} [] {taken} {waiting} r q2 mem2 part ran =
    let left : ((r, q2), mem2) ≡ ((None, q), mem) = sym ran ∙ run-reap_none part in
    (ap (λ (p : (Option ReapedValue × DriverQueue) × List ℕ). p.0.0) left, ap (λ (p : (Option ReapedValue × DriverQueue) × List ℕ). p.0.1) left, ap (λ (p : (Option ReapedValue × DriverQueue) × List ℕ). p.1) left)
reaps_first {mem} {a} {d} {q} (u ∷ used) {taken} {waiting} r q2 mem2 part ran =
    let left : ((Some (reaped_of u), split_reaped q (unreaped_of u.held)), asked_memory mem q) ≡ ((r, q2), mem2) = sym (run-reap part) ∙ ran in
    let P : (Option ReapedValue × DriverQueue) × List ℕ → Type 0 = λ p. (p.0.0 ≡ Some (reaped_of u)) × RingPart p.1 (record a { used = map used_of used }) d p.0.1 used taken waiting × ChangedBy (reap_puts p.0.1) mem p.1 in
    subst P left (refl, reaped_all part, reap_changes part)

pub reap_keeps : (mem : List ℕ) (q : DriverQueue) (r : Option ReapedValue) (q2 : DriverQueue) (mem2 : List ℕ) → run memory_table (λ m. m) (split_reap_program q) mem ≡ ((r, q2), mem2) → ReapKeeps mem q r q2 mem2
reap_keeps mem q r q2 mem2 ran = λ a d used taken waiting part. reaps_first used r q2 mem2 part ran

pub write_keeps : (mem : List ℕ) (addr : ℕ) (bytes : List ℕ) → addr + length bytes ≤ length mem → WriteKeeps mem addr (length bytes) (put_at mem addr bytes)
write_keeps mem addr bytes inside = λ a d q used taken waiting part apart.
    frame part (put_at mem addr bytes) (length-put_at mem addr bytes inside) (part-put_at_apart mem addr bytes q.base BLOCK_LEN inside apart)

pub written_keeps : {E : Type 0} (r : Result (Unit {0}) E) (m m2 : MemoryView) (addr : ℕ) (bytes : List ℕ) → (IsOk r ↔ (addr + length bytes ≤ length m.bytes)) → OnOk r (m2 ≡ written m addr bytes)
    → OnOk r (WriteKeeps m.bytes addr (length bytes) m2.bytes)
written_keeps (Err e) m m2 addr bytes cause after = tt
written_keeps (Ok x) m m2 addr bytes cause after =
    subst (λ (n : MemoryView). WriteKeeps m.bytes addr (length bytes) n.bytes) (sym after) (write_keeps m.bytes addr bytes (cause.0 refl))
