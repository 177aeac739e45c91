-- A post is safe to run: by puts to free locations, and then the index.
use Rattle.std.proofs.Common.{◌≡◌, ℕ, ◌+◌, ◌≤◌, List, [], ◌∷◌, ◌++◌, length, Option, Some, None, IsTrue, refl, sym, ◌∙◌, ap, subst, arith, append_assoc}
use Rattle.std.specs.Prelude.{slice_get}
use Rattle.std.specs.Option.{option_flatten}
use Rattle.std.proofs.lemmas.Bool.{le-ltb}
use Rattle.byteorder.specs.Endian.{little_bytes}
use Rattle.vt_types.specs.declared.device.Dev.TheVariants.{Con}
use Rattle.vt_types.specs.declared.device.BusKind.TheVariants.{Mmio}
use Rattle.vt_types.specs.Access.{AccessValue, Put}
use Rattle.vt_types.specs.Features.{INDIRECT_DESC}
use Rattle.vt_types.specs.Operation.{Operation, PostedBuffer, Post}
use Rattle.vt_types.specs.Program.{and_then}
use Rattle.vt_types.specs.Reply.{ReplyValue}
use Rattle.vt_types.specs.Reply as reply
use Rattle.vt_types.specs.Within.{IsBufferWithin}
use Rattle.vt_layout.specs.QueueBlock.{data_address, driver_area}
use Rattle.port_access.specs.Accesses.{data_puts}
use Rattle.vq_common.specs.Buffer.{IsPostable}
use Rattle.vq_common.specs.Queue.{DriverQueue, free_slots, post_program, slots_of}
use Rattle.vq_posted.specs.Free.{head_of}
use Rattle.vq_split_drv.specs.Post.{chain_puts, descriptors_for, split_post_accesses, split_posted}
use Rattle.memory_port.specs.Puts.{Hold}
use Rattle.abstract_devices.specs.World.{World, AbstractQueue, with_queue}
use Rattle.abstract_devices.specs.Operate.{Outcome, buffer_of, change_queue, on_queue, operate}
use Rattle.dev_core.specs.Bus.{Raw}
use Rattle.dev_status.specs.Status.{has_bits}
use Rattle.drv_core.specs.Driver.{DriverRecord, driver_queue, ends, with_driver_queue}
use Rattle.drv_core.specs.Lowering.{post_lowering, post_reply}
use Rattle.mmio_regs.specs.Page.{MmioRegisters}
use Rattle.interleaving.specs.FreeLocations.{with_put}
use Rattle.interleaving.specs.Safe.{Safe, Ends}
use Rattle.interleaving.proofs.QueueRules.{safe_on_queue}
use Rattle.interleaving.proofs.QueueRules as rules
use Rattle.interleaving.proofs.RefusalRules.{refusal_by}
use Rattle.ring_part.specs.Locations.{IsFreeLocation}
use Rattle.ring_part.specs.RingPart.{RingRests}
use Rattle.ring_part.specs.RingPuts.{entry_at, next}
use Rattle.ring_part.proofs.Posted.{front_puts, held_for, posted_now}
use Rattle.ring_part.proofs.PostWhole.{front_free, front_lies_apart}
use Rattle.mmio_simulation.specs.Bus.{mmio}
use Rattle.mmio_simulation.specs.Related.{no_facts, Related}
use Rattle.mmio_simulation.proofs.Allowed.{Fits, post_fits, post_set, postable}
use Rattle.mmio_simulation.proofs.Blocks.{put_changes}
use Rattle.mmio_simulation.proofs.FreeLocations.{free_locations}
use Rattle.mmio_simulation.proofs.EventsKeep.{related_kept}
use Rattle.mmio_simulation.proofs.PartChanges.{changed_part}
use Rattle.mmio_simulation.proofs.QueueChanges.{changed_queue}
use Rattle.mmio_simulation.proofs.Queues.{set_in}
use Rattle.mmio_simulation.proofs.RefusedAlike.{allowed_at}

-- the abstract change of a queue that is set
pub on_queue_is : (w : World) (n : ℕ) (change : AbstractQueue → AbstractQueue) (a : AbstractQueue) → slice_get w.devices.con.queues n ≡ Some (Some a)
    → on_queue w Con n change ≡ record { world = record w { devices = record w.devices { con = with_queue w.devices.con n (change a) } }; reply = reply.Good }
on_queue_is w n change a is = ap (λ (o : Option (Option AbstractQueue)). record { world = record w { devices = record w.devices { con = change_queue w.devices.con n change (option_flatten o) } }; reply = reply.Good }) is

module _ (known : DriverRecord) (n : ℕ) (b : PostedBuffer) (within : IsBufferWithin b) (allowed : refusal_by known (Post Con n b) ≡ None) where
  abbrev op : Operation
  op = Post Con n b

  module _ (q : DriverQueue) (found : driver_queue known.con n ≡ Some q) where
    fits : Fits known.con q b
    fits = post_fits known n b q found allowed

    can : IsPostable b
    can = postable b within fits.total

    feature : (w : World) (raw : Raw MmioRegisters) → Related w raw known → IsTrue b.indirect → IsTrue q.cfg.indirect
    feature w raw r t = (set_in r n q found).at.here.indirect ∙ ap (λ (accepted : ℕ). has_bits accepted INDIRECT_DESC) (sym r.device.known_accepted) ∙ fits.feature t

    abbrev front : List AccessValue
    front = front_puts q b (descriptors_for q b)

    abbrev index_at : ℕ
    index_at = driver_area q.base + 2

    abbrev index : List ℕ
    index = little_bytes 2 (next q.available)

    -- the index is the last of the puts
    split : split_post_accesses q b ≡ front ++ Put index_at index ∷ []
    split =
        let locations : List ℕ = descriptors_for q b in
        sym (append_assoc (data_puts (data_address q.base (head_of locations)) b.readable ++ chain_puts q b locations) (Put (entry_at q.base q.cfg.size q.available) (little_bytes 2 (head_of locations)) ∷ []) (Put index_at index ∷ []))

    inside : (w : World) (raw : Raw MmioRegisters) → Related w raw known → index_at + length index ≤ length raw.memory
    inside w raw r = let block : q.base + 0x1000000 ≤ length raw.memory = (set_in r n q found).at.here.rests.part.block.inside in omega (arith, block)

    abbrev posted : AbstractQueue → AbstractQueue
    posted a = record a { available = a.available ++ buffer_of b ∷ [] }

    -- at the index everything joins
    joined : (w : World) (raw : Raw MmioRegisters) → Related w raw known → Hold front raw.memory
        → ((operate Mmio w op).reply ≡ reply.Good) × Related (operate Mmio w op).world (with_put raw index_at index) (with_driver_queue known Con n (split_posted q b))
    joined w raw r front_stands =
        let at = set_in r n q found in
        let part = at.at.here.rests.part in
        let fit : index_at + length index ≤ length raw.memory = inside w raw r in
        let raw2 : Raw MmioRegisters = with_put raw index_at index in
        let known2 : DriverRecord = with_driver_queue known Con n (split_posted q b) in
        let does : operate Mmio w op ≡ record { world = record w { devices = record w.devices { con = with_queue w.devices.con n (posted at.a) } }; reply = reply.Good }
        = allowed_at op refl r allowed ∙ on_queue_is w n posted at.a at.at.in_world
        in
        let rests : RingRests (no_facts n) raw2.memory (posted at.a) at.at.here.ring (split_posted q b)
        = record { used = at.at.here.rests.used; waiting = at.at.here.rests.waiting ++ held_for q b ∷ []; part = posted_now part b can fits.slots fits.tag fits.table (feature w raw r) front_stands; known = tt }
        in
        let set = changed_part (no_facts n) (no_facts n) raw.memory raw2.memory w.devices.con.status w.devices.con.accepted n at.a (posted at.a) at.s q (split_posted q b) at.at.here refl refl refl rests in
        let changes = put_changes n raw.memory q.base index_at index at.at.here.block (record { starts = omega arith; ends = omega arith }) fit in
        let after : Related (record w { devices = record w.devices { con = with_queue w.devices.con n (posted at.a) } }) raw2 known2 = changed_queue no_facts no_facts w raw known raw2.memory n q at r changes (λ j other used h. tt) (posted at.a) (split_posted q b) set in
        subst (λ (o : Outcome). (o.reply ≡ reply.Good) × Related o.world raw2 known2) (sym does) (refl, after)

    begins : {left : ℕ} {w v : World} {answer : ReplyValue} {raw : Raw MmioRegisters} → Related w raw known
        → Safe mmio op (Ends mmio Related) (and_then (post_program split_post_accesses split_posted q b) (λ p. ends (post_reply p.0) (with_driver_queue known Con n p.1))) left w v answer raw
    begins {w = w} {raw = raw} r =
        let part = (set_in r n q found).at.here.rests.part in
        let free = front_free part b can fits.slots fits.tag fits.table (feature w raw r) in
        let apart = front_lies_apart part b can fits.slots fits.tag fits.table (feature w raw r) in
        rules.safe_post mmio Related op known Con n q b split_post_accesses split_posted (IsFreeLocation q) (free_locations known n q found) front index_at index
        (related_kept (with_driver_queue known Con n (split_posted q b))) split (le-ltb (free_slots q) (slots_of b) fits.slots)
        free apart inside (λ w raw h. joined w raw h.0 h.1) r

  -- a post that is not refused
  pub post_safe : {left : ℕ} {w v : World} {answer : ReplyValue} {raw : Raw MmioRegisters} → Related w raw known
      → Safe mmio op (Ends mmio Related) (post_lowering known Con n b) left w v answer raw
  post_safe r = let set = post_set known n b allowed in safe_on_queue known Con n set.q _ set.found (begins set.q set.found r)
