-- Arming and disarming are safe to run: by one put of the flags.
use Rattle.std.proofs.Common.{◌≡◌, ℕ, ◌+◌, ◌≤◌, List, length, true, false, Some, None, refl, sym, ◌∙◌, ap, subst, arith}
use Rattle.byteorder.specs.Endian.{little_bytes}
use Rattle.vt_types.specs.declared.device.Dev.TheVariants.{Con}
use Rattle.vt_types.specs.declared.device.BusKind.TheVariants.{Mmio}
use Rattle.vt_types.specs.Access.{Put}
use Rattle.vt_types.specs.Features.{EVENT_IDX}
use Rattle.vt_types.specs.Operation.{Operation, Arm, Disarm, device_of}
use Rattle.vt_types.specs.Program.{Do, Mark}
use Rattle.vt_types.specs.Reply.{ReplyValue}
use Rattle.vt_types.specs.Reply as reply
use Rattle.vt_layout.specs.QueueBlock.{driver_area}
use Rattle.vq_common.specs.Queue.{DriverQueue}
use Rattle.abstract_devices.specs.World.{World, AbstractQueue, SignalMode, Always, Never, with_queue}
use Rattle.abstract_devices.specs.Operate.{Outcome, on_queue, operate, operate_allowed}
use Rattle.dev_core.specs.Bus.{Raw}
use Rattle.dev_status.specs.Status.{has_bits}
use Rattle.drv_core.specs.Driver.{DriverRecord, driver_queue, ends, with_driver_queue}
use Rattle.drv_core.specs.Lowering.{signals_lowering}
use Rattle.mmio_regs.specs.Page.{MmioRegisters}
use Rattle.interleaving.specs.FreeLocations.{with_put}
use Rattle.interleaving.specs.Safe.{Safe, Ends}
use Rattle.interleaving.proofs.MarkRules.{safe_mark}
use Rattle.interleaving.proofs.MemoryRules.{safe_put}
use Rattle.interleaving.proofs.ProgramRules.{safe_ended}
use Rattle.interleaving.proofs.QueueRules.{safe_on_queue}
use Rattle.interleaving.proofs.RefusalRules.{refusal_by}
use Rattle.ring_part.specs.RingPart.{RingRests}
use Rattle.ring_part.specs.RingPuts.{flag_of, is_first}
use Rattle.ring_part.proofs.Arm.{armed}
use Rattle.mmio_simulation.specs.Bus.{mmio}
use Rattle.mmio_simulation.specs.Related.{no_facts, Related}
use Rattle.mmio_simulation.proofs.Allowed.{signals_allowed}
use Rattle.mmio_simulation.proofs.Blocks.{put_changes}
use Rattle.mmio_simulation.proofs.EventsKeep.{related_kept}
use Rattle.mmio_simulation.proofs.PostSafe.{on_queue_is}
use Rattle.mmio_simulation.proofs.PartChanges.{changed_part}
use Rattle.mmio_simulation.proofs.QueueChanges.{changed_queue, same_known}
use Rattle.mmio_simulation.proofs.Queues.{set_in}
use Rattle.mmio_simulation.proofs.RefusedAlike.{allowed_at}

-- an operation that makes the mode of a queue this one
module _ (known : DriverRecord) (n : ℕ) (mode : SignalMode) (other : is_first mode ≡ false) (op : Operation) (on : device_of op ≡ Con) (op_is : (w : World) → operate_allowed Mmio w op ≡ on_queue w Con n (λ a. record a { mode = mode }))
    (allowed : refusal_by known op ≡ None) (q : DriverQueue) (found : driver_queue known.con n ≡ Some q) (off : has_bits known.con.accepted EVENT_IDX ≡ false) where
  abbrev flags : List ℕ
  flags = little_bytes 2 (flag_of mode)

  abbrev flags_at : ℕ
  flags_at = driver_area q.base

  abbrev with_mode : AbstractQueue → AbstractQueue
  with_mode a = record a { mode = mode }

  inside : (w : World) (raw : Raw MmioRegisters) → Related w raw known → flags_at + length flags ≤ length raw.memory
  inside w raw r = let block : q.base + 0x1000000 ≤ length raw.memory = (set_in r n q found).at.here.rests.part.block.inside in omega (arith, block)

  after : (w : World) (raw : Raw MmioRegisters) → Related w raw known → ((operate Mmio w op).reply ≡ reply.Good) × Related (operate Mmio w op).world (with_put raw flags_at flags) known
  after w raw r =
      let at = set_in r n q found in
      let a2 : AbstractQueue = with_mode at.a in
      let raw2 : Raw MmioRegisters = with_put raw flags_at flags in
      let plain : q.cfg.event_idx ≡ false = at.at.here.event_idx ∙ ap (λ (accepted : ℕ). has_bits accepted EVENT_IDX) (sym r.device.known_accepted) ∙ off in
      let rests : RingRests (no_facts n) raw2.memory a2 at.at.here.ring q = record { used = at.at.here.rests.used; waiting = at.at.here.rests.waiting; part = armed at.at.here.rests.part plain mode other; known = tt } in
      let set = changed_part (no_facts n) (no_facts n) raw.memory raw2.memory w.devices.con.status w.devices.con.accepted n at.a a2 at.s q q at.at.here refl refl refl rests in
      let changes = put_changes n raw.memory q.base flags_at flags at.at.here.block (record { starts = omega arith; ends = omega arith }) (inside w raw r) in
      let left : Related (record w { devices = record w.devices { con = with_queue w.devices.con n a2 } }) raw2 (with_driver_queue known Con n q) = changed_queue no_facts no_facts w raw known raw2.memory n q at r changes (λ j other used h. tt) a2 q set in
      let does : operate Mmio w op ≡ record { world = record w { devices = record w.devices { con = with_queue w.devices.con n a2 } }; reply = reply.Good } = allowed_at op on r allowed ∙ op_is w ∙ on_queue_is w n with_mode at.a at.at.in_world in
      subst (λ (o : Outcome). (o.reply ≡ reply.Good) × Related o.world raw2 known) (sym does) (refl, subst (Related (record w { devices = record w.devices { con = with_queue w.devices.con n a2 } }) raw2) (same_known known n q found) left)

  signals_safe : {left : ℕ} {w v : World} {answer : ReplyValue} {raw : Raw MmioRegisters} → Related w raw known
      → Safe mmio op (Ends mmio Related) (Do (Put flags_at flags) (λ _ _. Mark (ends reply.Good (with_driver_queue known Con n q)))) left w v answer raw
  signals_safe r =
      safe_put (λ w raw. Related w raw known) (related_kept known) r inside
      (λ left w v raw r.
      let (says, related) = after w raw r in
      safe_mark (safe_ended (related_kept (with_driver_queue known Con n q)) says
      (subst (Related (operate Mmio w op).world (with_put raw flags_at flags)) (sym (same_known known n q found)) related)))

module _ (known : DriverRecord) (n : ℕ) where
  pub arm_safe : refusal_by known (Arm Con n) ≡ None → {left : ℕ} {w v : World} {answer : ReplyValue} {raw : Raw MmioRegisters} → Related w raw known
      → Safe mmio (Arm Con n) (Ends mmio Related) (signals_lowering known Con n true) left w v answer raw
  arm_safe allowed r =
      let (set, off) = signals_allowed known n allowed in
      safe_on_queue known Con n set.q _ set.found (signals_safe known n Always refl (Arm Con n) refl (λ w. refl) allowed set.q set.found off r)

  pub disarm_safe : refusal_by known (Disarm Con n) ≡ None → {left : ℕ} {w v : World} {answer : ReplyValue} {raw : Raw MmioRegisters} → Related w raw known
      → Safe mmio (Disarm Con n) (Ends mmio Related) (signals_lowering known Con n false) left w v answer raw
  disarm_safe allowed r =
      let (set, off) = signals_allowed known n allowed in
      safe_on_queue known Con n set.q _ set.found (signals_safe known n Never refl (Disarm Con n) refl (λ w. refl) allowed set.q set.found off r)
