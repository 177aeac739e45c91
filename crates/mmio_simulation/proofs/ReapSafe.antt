-- A reap is safe to run. A used front stays the front, whatever events come; without EVENT_IDX the mark comes at the index, and its
-- element and bytes are those of the world without the operation.
use Rattle.std.proofs.Common.{◌≡◌, ℕ, ◌+◌, ◌%◌, ◌<◌, ◌≤◌, List, [], ◌∷◌, ◌++◌, length, drop, map, true, false, Option, Some, None, refl, sym, ◌∙◌, ap, subst, arith, inl, inr}
use Rattle.std.specs.Prelude.{◌==◌, nat_le, replicate, slice_get, if◌then◌else◌}
use Rattle.std.specs.Option.{option_flatten}
use Rattle.std.proofs.Math.Nat.{mod-lt}
use Rattle.std.proofs.lemmas.Bool.{cases_Bool, cond-true, eq-eqb, ne_eqb, eqb-true, le-leb}
use Rattle.byteorder.specs.Endian.{little_bytes, little_number}
use Rattle.guest_mem.specs.Memory.{part as bytes_at, le16_at}
use Rattle.guest_mem.proofs.Parts.{length-part}
use Rattle.vt_types.specs.declared.device.Dev.TheVariants.{Con}
use Rattle.vt_types.specs.declared.device.BusKind.TheVariants.{Mmio}
use Rattle.vt_types.specs.Access.{Get}
use Rattle.vt_types.specs.Operation.{Operation, Reap}
use Rattle.vt_types.specs.Program.{Program, Do, Mark, End, and_then}
use Rattle.vt_types.specs.Reply.{ReplyValue}
use Rattle.vt_types.specs.Reply as reply
use Rattle.vt_layout.specs.QueueBlock.{device_area}
use Rattle.port_access.specs.Accesses.{bytes_or_zeros, mark_unless}
use Rattle.vq_common.specs.Queue.{DriverQueue, ReapedValue, unreaped_with}
use Rattle.vq_posted.specs.Reap.{reap_bytes, reap_end, reap_nothing}
use Rattle.vq_split_drv.specs.Reap.{reap_element, split_reap_program, split_reaped, used_event_put}
use Rattle.abstract_devices.specs.World.{World, AbstractQueue, with_queue}
use Rattle.abstract_devices.specs.Operate.{Outcome, operate, reap_front, reap_queue}
use Rattle.dev_core.specs.Bus.{Raw}
use Rattle.drv_core.specs.Driver.{DriverRecord, driver_queue, ends, with_driver_queue}
use Rattle.drv_core.specs.Lowering.{reap_lowering, reap_reply}
use Rattle.mmio_regs.specs.Page.{MmioRegisters}
use Rattle.interleaving.specs.FreeLocations.{with_put}
use Rattle.interleaving.specs.Kept.{Kept, KeptWhole}
use Rattle.interleaving.specs.Safe.{Safe, Ends}
use Rattle.interleaving.proofs.MarkRules.{safe_mark_as}
use Rattle.interleaving.proofs.MemoryRules.{safe_get, safe_get_in, safe_put}
use Rattle.interleaving.proofs.ProgramRules.{safe_as, safe_end, safe_ended, safe_false, safe_then, safe_true}
use Rattle.interleaving.proofs.QueueRules.{safe_on_queue}
use Rattle.interleaving.proofs.RefusalRules.{refusal_by}
use Rattle.ring_part.specs.Held.{UsedHeld, unreaped_of, used_of}
use Rattle.ring_part.specs.RingPart.{RingPart, RingRests}
use Rattle.ring_part.specs.RingPuts.{element_at, event_at, next, written_at}
use Rattle.ring_part.proofs.Facts as facts
use Rattle.ring_part.proofs.Reaped.{Finds, finds, reap_none, reaped, reaped_asking}
use Rattle.mmio_simulation.specs.Bus.{mmio}
use Rattle.mmio_simulation.specs.Related.{UsedFacts, no_facts, RelatedWith, Related}
use Rattle.mmio_simulation.proofs.Allowed.{reap_allowed}
use Rattle.mmio_simulation.proofs.Blocks.{ChangesBlock, put_changes, stays_whole}
use Rattle.mmio_simulation.proofs.EventsKeep.{AllClosed, related_kept, related_with_kept}
use Rattle.mmio_simulation.proofs.PartChanges.{changed_part}
use Rattle.mmio_simulation.proofs.QueueChanges.{changed_queue, same_known, same_queue, without_facts}
use Rattle.mmio_simulation.proofs.Queues.{SetIn, set_in}
use Rattle.mmio_simulation.proofs.RefusedAlike.{allowed_at}

-- the first of the used buffers
abbrev pub IsFirst : UsedHeld → List UsedHeld → Type 0
IsFirst u us = (rest : List UsedHeld) × (us ≡ u ∷ rest)

-- of one queue
abbrev pub first_at : ℕ → UsedHeld → UsedFacts
first_at n u j us = j ≡ n → IsFirst u us

first_closed : (n : ℕ) (u : UsedHeld) → AllClosed (first_at n u)
first_closed n u j us vs first = λ here. let (rest, is) = first here in (rest ++ vs, ap (λ (ys : List UsedHeld). ys ++ vs) is)

whole : (count : ℕ) (bytes : List ℕ) → length bytes ≡ count → bytes_or_zeros count bytes ≡ bytes
whole count bytes long = cond-true (length bytes == count) bytes (replicate count 0) (eq-eqb (length bytes) count long)

none_of : (bytes : List ℕ) → length bytes ≡ 0 → bytes ≡ []
none_of [] none = refl
none_of (b ∷ bytes) none = absurd (omega arith)

module _ (known : DriverRecord) (n : ℕ) (allowed : refusal_by known (Reap Con n) ≡ None) where
  abbrev op : Operation
  op = Reap Con n

  reap_is : (w : World) (raw : Raw MmioRegisters) (a : AbstractQueue) → Related w raw known → slice_get w.devices.con.queues n ≡ Some (Some a) → operate Mmio w op ≡ reap_front w Con n a a.used
  reap_is w raw a r is = allowed_at op refl r allowed ∙ ap (λ (o : Option (Option AbstractQueue)). reap_queue w Con n (option_flatten o)) is

  module _ (q : DriverQueue) (found : driver_queue known.con n ≡ Some q) where
    -- the first used buffer is known
    abbrev Before : UsedHeld → World → Raw MmioRegisters → Type 0
    Before u w raw = RelatedWith (first_at n u) w raw known

    before_kept : (u : UsedHeld) → Kept mmio (Before u)
    before_kept u = related_with_kept (first_at n u) (first_closed n u) known

    -- the queue, with it
    record Fronted (u : UsedHeld) (w : World) (raw : Raw MmioRegisters) : Type 0 where
      pub at : SetIn (first_at n u) w raw known n q
      pub rest : List UsedHeld
      pub part : RingPart raw.memory at.a at.at.here.ring q (u ∷ rest) [] at.at.here.rests.waiting

    fronted : (u : UsedHeld) (w : World) (raw : Raw MmioRegisters) → Before u w raw → Fronted u w raw
    fronted u w raw r =
        let at = set_in r n q found in
        let (rest, is) = at.at.here.rests.known refl in
        record { at = at; rest = rest; part = subst (λ (us : List UsedHeld). RingPart raw.memory at.a at.at.here.ring q us [] at.at.here.rests.waiting) is at.at.here.rests.part }

    abbrev after : UsedHeld → DriverQueue
    after u = split_reaped q (unreaped_of u.held)

    abbrev known_after : UsedHeld → DriverRecord
    known_after u = with_driver_queue known Con n (after u)

    abbrev told : UsedHeld → ReplyValue
    told u = reply.Used u.held.buffer.tag (length u.written) u.written

    -- the abstract devices reap it
    reaps : (u : UsedHeld) (w : World) (raw : Raw MmioRegisters) (r : Before u w raw) (f : Fronted u w raw)
        → operate Mmio w op ≡ record { world = record w { devices = record w.devices { con = with_queue w.devices.con n (record (f.at.a) { used = map used_of f.rest }) } }; reply = told u }
    reaps u w raw r f = reap_is w raw f.at.a (without_facts (first_at n u) w raw known r) f.at.at.in_world ∙ ap (reap_front w Con n f.at.a) f.part.lists.finished

    -- what both halves are then
    reaped_related : (u : UsedHeld) (w : World) (raw : Raw MmioRegisters) (mem2 : List ℕ) (r : Before u w raw) (f : Fronted u w raw) → ChangesBlock n raw.memory mem2
        → RingPart mem2 (record (f.at.a) { used = map used_of f.rest }) f.at.at.here.ring (after u) f.rest [] f.at.at.here.rests.waiting → Related (operate Mmio w op).world (record raw { memory = mem2 }) (known_after u)
    reaped_related u w raw mem2 r f changes part =
        let raw2 : Raw MmioRegisters = record raw { memory = mem2 } in
        let a2 : AbstractQueue = record (f.at.a) { used = map used_of f.rest } in
        let rests : RingRests (no_facts n) mem2 a2 f.at.at.here.ring (after u) = record { used = f.rest; waiting = f.at.at.here.rests.waiting; part = part; known = tt } in
        let set = changed_part (first_at n u n) (no_facts n) raw.memory mem2 w.devices.con.status w.devices.con.accepted n f.at.a a2 f.at.s q (after u) f.at.at.here refl refl refl rests in
        let left : Related (record w { devices = record w.devices { con = with_queue w.devices.con n a2 } }) raw2 (known_after u) = changed_queue (first_at n u) no_facts w raw known mem2 n q f.at r changes (λ j other used h. tt) a2 (after u) set in
        subst (λ (o : Outcome). Related o.world raw2 (known_after u)) (sym (reaps u w raw r f)) left

    -- where the operation goes on to its end
    abbrev Then : Option ReapedValue × DriverQueue → ℕ → World → World → ReplyValue → Raw MmioRegisters → Type 0
    Then x left w v answer raw = Safe mmio op (Ends mmio Related) (ends (reap_reply x.0) (with_driver_queue known Con n x.1)) left w v answer raw

    abbrev Goes : Program (Option ReapedValue × DriverQueue) → ℕ → World → World → ReplyValue → Raw MmioRegisters → Type 0
    Goes p left w v answer raw = Safe mmio op Then p left w v answer raw

    finish : {x : Option ReapedValue × DriverQueue} {left : ℕ} {w v : World} {answer : ReplyValue} {raw : Raw MmioRegisters} → answer ≡ reap_reply x.0
        → Related v raw (with_driver_queue known Con n x.1) → Goes (End x) left w v answer raw
    finish {x} same h = safe_end (safe_ended (related_kept (with_driver_queue known Con n x.1)) same h)

    abbrev slot : ℕ
    slot = element_at q.base q.cfg.size q.used

    -- what is got lies inside memory
    block_inside : (u : UsedHeld) (w : World) (raw : Raw MmioRegisters) → Before u w raw → q.base + 0x1000000 ≤ length raw.memory
    block_inside u w raw r = (fronted u w raw r).part.block.inside

    slot_inside : (u : UsedHeld) (w : World) (raw : Raw MmioRegisters) → Before u w raw → slot + 8 ≤ length raw.memory
    slot_inside u w raw r =
        let f = fronted u w raw r in
        let low : q.used % q.cfg.size < q.cfg.size = mod-lt q.used (facts.size_some f.part) in
        omega (arith, block_inside u w raw r, facts.size_low f.part)

    bytes_inside : (u : UsedHeld) (w : World) (raw : Raw MmioRegisters) → Before u w raw → written_at q.base u.held + length u.written ≤ length raw.memory
    bytes_inside u w raw r = (finds (fronted u w raw r).part).inside

    -- the element names the buffer
    abbrev named : List ℕ → Program (Option ReapedValue × DriverQueue)
    named element = reap_element q (little_number 4 (drop 4 element)) (unreaped_with (little_number 4 element) q.unreaped)

    abbrev bytes_got : UsedHeld → Program (Option ReapedValue × DriverQueue)
    bytes_got u = reap_bytes split_reaped used_event_put q (unreaped_of u.held) (length u.written)

    element_is : (u : UsedHeld) (w : World) (raw : Raw MmioRegisters) → Before u w raw → named (bytes_or_zeros 8 (bytes_at raw.memory slot 8)) ≡ bytes_got u
    element_is u w raw r =
        let f = fronted u w raw r in
        let s : Finds raw.memory f.at.at.here.ring q u = finds f.part in
        let element : List ℕ = bytes_at raw.memory slot 8 in
        ap named (whole 8 element (length-part raw.memory slot 8 (slot_inside u w raw r)))
        ∙ ap (λ (len : ℕ). reap_element q len (unreaped_with (little_number 4 element) q.unreaped)) s.len
        ∙ ap (λ (id : ℕ). reap_element q (length u.written) (unreaped_with id q.unreaped)) s.id
        ∙ ap (reap_element q (length u.written)) s.found
        ∙ cond-true (nat_le (length u.written) 8192) (bytes_got u) (reap_nothing q) (le-leb (length u.written) 8192 s.few)

    -- the bytes are those that were written
    bytes_are : (u : UsedHeld) (w : World) (raw : Raw MmioRegisters) → Before u w raw → bytes_or_zeros (length u.written) (bytes_at raw.memory (written_at q.base u.held) (length u.written)) ≡ u.written
    bytes_are u w raw r =
        whole (length u.written) (bytes_at raw.memory (written_at q.base u.held) (length u.written)) (length-part raw.memory (written_at q.base u.held) (length u.written) (bytes_inside u w raw r))
        ∙ (finds (fronted u w raw r).part).bytes

    told_none : (u : UsedHeld) → length u.written ≡ 0 → told u ≡ reply.Used u.held.buffer.tag 0 []
    told_none u none = ap (λ (len : ℕ). reply.Used u.held.buffer.tag len u.written) none ∙ ap (reply.Used u.held.buffer.tag 0) (none_of u.written none)

    told_bytes : (u : UsedHeld) (w : World) (raw : Raw MmioRegisters) → Before u w raw
        → told u ≡ reply.Used u.held.buffer.tag (length u.written) (bytes_or_zeros (length u.written) (bytes_at raw.memory (written_at q.base u.held) (length u.written)))
    told_bytes u w raw r = ap (reply.Used u.held.buffer.tag (length u.written)) (sym (bytes_are u w raw r))

    -- Without EVENT_IDX the mark was the get of the index: the buffer is the first one of the world without the operation, and the
    -- one with it is related already.
    abbrev Both : UsedHeld → ℕ → World → World → Raw MmioRegisters → Type 0
    Both u left w v raw = Before u w raw × Related v raw (known_after u)

    both_kept : (u : UsedHeld) → KeptWhole mmio (Both u)
    both_kept u left w v raw e (r, h) = (before_kept u w raw e r, related_kept (known_after u) v raw e h)

    plain_bytes : (off : q.cfg.event_idx ≡ false) (u : UsedHeld) {left : ℕ} {w v : World} {raw : Raw MmioRegisters} → Both u left w v raw → Goes (bytes_got u) left w v (told u) raw
    plain_bytes off u {left} {w} {v} {raw} h =
        elim (cases_Bool (length u.written == 0)) [
          | inl none ↦ safe_true _ none (safe_false _ off (finish (told_none u (eqb-true (length u.written) 0 none)) h.1))
          | inr some ↦ safe_false _ some (safe_get_in (Both u) (both_kept u) h (λ left w v raw h. bytes_inside u w raw h.0) (λ left w v raw h. safe_false _ off (finish (told_bytes u w raw h.0) h.1)))
        ]

    plain_element : (off : q.cfg.event_idx ≡ false) (u : UsedHeld) {left : ℕ} {w v : World} {raw : Raw MmioRegisters} → Both u left w v raw
        → Goes (Do (Get slot 8) (λ _ element. named (bytes_or_zeros 8 element))) left w v (told u) raw
    plain_element off u h = safe_get_in (Both u) (both_kept u) h (λ left w v raw h. slot_inside u w raw h.0) (λ left w v raw h. safe_as (element_is u w raw h.0) (plain_bytes off u h))

    -- with it the last put is the mark
    abbrev event_location : ℕ
    event_location = event_at q.base q.cfg.size

    abbrev event_bytes : List ℕ
    event_bytes = little_bytes 2 (next q.used)

    event_inside : (u : UsedHeld) (w : World) (raw : Raw MmioRegisters) → Before u w raw → event_location + length event_bytes ≤ length raw.memory
    event_inside u w raw r = let f = fronted u w raw r in omega (arith, block_inside u w raw r, facts.size_low f.part)

    asked : (on : q.cfg.event_idx ≡ true) (u : UsedHeld) {left : ℕ} {w v : World} {answer : ReplyValue} {raw : Raw MmioRegisters} (len : ℕ) (bytes : List ℕ) → told u ≡ reply.Used u.held.buffer.tag len bytes → Before u w raw
        → Goes (reap_end split_reaped used_event_put q (unreaped_of u.held) (record { tag = u.held.buffer.tag; len = len; bytes = bytes })) left w v answer raw
    asked on u len bytes same r =
        safe_true _ on
        (safe_put (Before u) (before_kept u) r (event_inside u)
        (λ left w v raw r.
        let f = fronted u w raw r in
        let fits : event_location + length event_bytes ≤ length raw.memory = event_inside u w raw r in
        let changes = put_changes n raw.memory q.base event_location event_bytes f.at.at.here.block (record { starts = omega arith; ends = omega (arith, facts.size_low f.part) }) fits in
        safe_mark_as (ap (λ (o : Outcome). record { world = (operate Mmio w op).world; reply = o.reply }) (reaps u w raw r f))
        (finish same (reaped_related u w raw (with_put raw event_location event_bytes).memory r f changes (reaped_asking f.part on)))))

    asking_bytes : (on : q.cfg.event_idx ≡ true) (u : UsedHeld) {left : ℕ} {w v : World} {answer : ReplyValue} {raw : Raw MmioRegisters} → Before u w raw → Goes (bytes_got u) left w v answer raw
    asking_bytes on u {left} {w} {v} {answer} {raw} r =
        elim (cases_Bool (length u.written == 0)) [
          | inl none ↦ safe_true _ none (asked on u 0 [] (told_none u (eqb-true (length u.written) 0 none)) r)
          | inr some ↦ safe_false _ some (safe_get (Before u) (before_kept u) r (bytes_inside u) (λ left w v raw r. asked on u (length u.written) _ (told_bytes u w raw r) r))
        ]

    asking_element : (on : q.cfg.event_idx ≡ true) (u : UsedHeld) {left : ℕ} {w v : World} {answer : ReplyValue} {raw : Raw MmioRegisters} → Before u w raw
        → Goes (Do (Get slot 8) (λ _ element. named (bytes_or_zeros 8 element))) left w v answer raw
    asking_element on u r = safe_get (Before u) (before_kept u) r (slot_inside u) (λ left w v raw r. safe_as (element_is u w raw r) (asking_bytes on u r))

    -- what the index says
    abbrev index_at : ℕ
    index_at = device_area q.base + 2

    abbrev seen : List ℕ → Program (Option ReapedValue × DriverQueue)
    seen index =
        if little_number 2 index == q.used
        then Mark (End (None, q))
        else mark_unless q.cfg.event_idx (Do (Get slot 8) (λ _ element. named (bytes_or_zeros 8 element)))

    abbrev Seen : ℕ → World → World → ReplyValue → Raw MmioRegisters → Type 0
    Seen left w v answer raw = Goes (seen (bytes_or_zeros 2 (bytes_at raw.memory index_at 2))) left w v answer raw

    index_is : (raw : Raw MmioRegisters) → q.base + 0x1000000 ≤ length raw.memory → bytes_or_zeros 2 (bytes_at raw.memory index_at 2) ≡ bytes_at raw.memory index_at 2
    index_is raw inside = whole 2 (bytes_at raw.memory index_at 2) (length-part raw.memory index_at 2 (omega arith))

    seen_some : (u : UsedHeld) (left : ℕ) (w v : World) (answer : ReplyValue) (raw : Raw MmioRegisters) → Before u w raw → Seen left w v answer raw
    seen_some u left w v answer raw r =
        let f = fronted u w raw r in
        let ahead : (little_number 2 (bytes_or_zeros 2 (bytes_at raw.memory index_at 2)) == q.used) ≡ false
        = ap (λ (bytes : List ℕ). little_number 2 bytes == q.used) (index_is raw (block_inside u w raw r)) ∙ ne_eqb (le16_at raw.memory index_at) q.used (finds f.part).index
        in
        safe_false _ ahead
        (elim (cases_Bool q.cfg.event_idx) [
          | inl on ↦ safe_true _ on (asking_element on u r)
          | inr off ↦ safe_false _ off
              (safe_mark_as (ap (λ (o : Outcome). record { world = (operate Mmio w op).world; reply = o.reply }) (reaps u w raw r f))
              (plain_element off u (r, reaped_related u w raw raw.memory r f (stays_whole n raw.memory) (reaped f.part off))))
        ])

    -- nothing is used
    seen_none : (left : ℕ) (w v : World) (answer : ReplyValue) (raw : Raw MmioRegisters) → Related w raw known → (inside : q.base + 0x1000000 ≤ length raw.memory) → le16_at raw.memory index_at ≡ q.used
        → operate Mmio w op ≡ record { world = w; reply = reply.Nothing } → Seen left w v answer raw
    seen_none left w v answer raw r inside index does =
        let here : (little_number 2 (bytes_or_zeros 2 (bytes_at raw.memory index_at 2)) == q.used) ≡ true
        = ap (λ (bytes : List ℕ). little_number 2 bytes == q.used) (index_is raw inside) ∙ eq-eqb (le16_at raw.memory index_at) q.used index
        in
        safe_true _ here (safe_mark_as does (finish refl (subst (Related w raw) (sym (same_known known n q found)) r)))

    seen_by : (us : List UsedHeld) (left : ℕ) (w v : World) (answer : ReplyValue) (raw : Raw MmioRegisters) (r : Related w raw known) (at : SetIn no_facts w raw known n q) → at.at.here.rests.used ≡ us → Seen left w v answer raw
    seen_by [] left w v answer raw r at none =
        let part : RingPart raw.memory at.a at.at.here.ring q [] [] at.at.here.rests.waiting = subst (λ (us : List UsedHeld). RingPart raw.memory at.a at.at.here.ring q us [] at.at.here.rests.waiting) none at.at.here.rests.part in
        seen_none left w v answer raw r part.block.inside (reap_none part) (reap_is w raw at.a r at.at.in_world ∙ ap (reap_front w Con n at.a) part.lists.finished)
    seen_by (u ∷ rest) left w v answer raw r at some =
        let rests : RingRests (first_at n u n) raw.memory at.a at.at.here.ring q = record { used = at.at.here.rests.used; waiting = at.at.here.rests.waiting; part = at.at.here.rests.part; known = λ here. (rest, some) } in
        seen_some u left w v answer raw
        (same_queue no_facts (first_at n u) w raw known raw.memory n q found at r (stays_whole n raw.memory) (λ j other used h here. absurd (other here)) rests)

    begins : {left : ℕ} {w v : World} {answer : ReplyValue} {raw : Raw MmioRegisters} → Related w raw known
        → Safe mmio op (Ends mmio Related) (and_then (split_reap_program q) (λ p. ends (reap_reply p.0) (with_driver_queue known Con n p.1))) left w v answer raw
    begins r =
        safe_then (split_reap_program q) (λ p. ends (reap_reply p.0) (with_driver_queue known Con n p.1))
        (safe_get (λ w raw. Related w raw known) (related_kept known) r
        (λ w raw r. let inside : q.base + 0x1000000 ≤ length raw.memory = (set_in r n q found).at.here.rests.part.block.inside in omega (arith, inside))
        (λ left w v raw r. let at = set_in r n q found in seen_by at.at.here.rests.used left w v _ raw r at refl))

  -- a reap that is not refused
  pub reap_safe : {left : ℕ} {w v : World} {answer : ReplyValue} {raw : Raw MmioRegisters} → Related w raw known
      → Safe mmio op (Ends mmio Related) (reap_lowering known Con n) left w v answer raw
  reap_safe r = let set = reap_allowed known n allowed in safe_on_queue known Con n set.q _ set.found (begins set.q set.found r)
