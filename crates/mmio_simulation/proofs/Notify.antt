-- Notifying a queue: one store, which is the mark.
use Rattle.std.proofs.Common.{◌≡◌, ℕ, ◌==◌, length-set, List, true, Option, Some, None, refl, sym, ◌∙◌, ap, subst}
use Rattle.std.specs.Prelude.{is_some, slice_set, if◌then◌else◌}
use Rattle.std.specs.Option.{option_flatten}
use Rattle.vt_types.specs.declared.device.BusKind.TheVariants.{Mmio}
use Rattle.vt_types.specs.declared.device.Dev.TheVariants.{Con}
use Rattle.vt_types.specs.Operation.{Notify}
use Rattle.vt_types.specs.Reply.{ReplyValue}
use Rattle.vt_types.specs.Reply as reply
use Rattle.vt_layout.specs.declared.register.MmioRegister.TheVariants.{QueueNotify}
use Rattle.vq_common.specs.Queue.{DriverQueue}
use Rattle.state_table.specs.Known.{Known}
use Rattle.state_table.specs.Refusal.{RUNNING, queue_tests}
use Rattle.abstract_devices.specs.World.{AbstractQueue, World, with_device, with_queue}
use Rattle.abstract_devices.specs.Operate.{change_queue, operate}
use Rattle.dev_core.specs.Bus.{Raw}
use Rattle.dev_core.specs.Device.{QueueState, kick_queue}
use Rattle.dev_core.specs.Device as device
use Rattle.dev_core.specs.Ring.{SetRing}
use Rattle.drv_core.specs.Driver.{DriverRecord, known_of}
use Rattle.drv_mmio.specs.Lowering.{notify_lowering}
use Rattle.mmio_regs.specs.MmioTable.{with_console_page}
use Rattle.mmio_regs.specs.Page.{MmioRegisters}
use Rattle.interleaving.specs.Safe.{Ends, Safe}
use Rattle.interleaving.proofs.MarkRules.{safe_mark_as}
use Rattle.interleaving.proofs.ProgramRules.{safe_ended}
use Rattle.interleaving.proofs.RefusalRules.{refusal_by}
use Rattle.mmio_simulation.specs.Bus.{mmio}
use Rattle.mmio_simulation.specs.Related.{EachQueue, Related, no_facts}
use Rattle.mmio_simulation.proofs.Allowed.{IsSet, is_set}
use Rattle.mmio_simulation.proofs.EventsKeep.{related_kept}
use Rattle.mmio_simulation.proofs.PartChanges.{device_kept, kicked_part}
use Rattle.mmio_simulation.proofs.QueueLocations.{queue_located}
use Rattle.mmio_simulation.proofs.Queues.{SetIn, set_in, slice_set-same}
use Rattle.mmio_simulation.proofs.RefusedAlike.{allowed_at}
use Rattle.mmio_simulation.proofs.Registers.{safe_store, stored}
use Rattle.mmio_simulation.proofs.NoneHolds.{none_holds}

-- a queue with a kick, in the world and in the device
abbrev kicked_queue : AbstractQueue → AbstractQueue
kicked_queue a = record a { kick = true }

abbrev kicked_state : QueueState → QueueState
kicked_state s = record s { kick = true }

module _ {w : World} {raw : Raw MmioRegisters} {known : DriverRecord} (h : Related w raw known) (n : ℕ) (q : DriverQueue) (at : SetIn no_facts w raw known n q) where
  abbrev kicked_world : World
  kicked_world = record w { devices = record w.devices { con = with_queue w.devices.con n (kicked_queue at.a) } }

  abbrev kicked_raw : Raw MmioRegisters
  kicked_raw = with_console_page raw (record { page = raw.registers.con; device = device.with_queue raw.devices.con n (kicked_state at.s) })

  -- what the store leaves
  kick_stored : stored QueueNotify n raw ≡ kicked_raw
  kick_stored =
      ap (λ (s : Option QueueState). with_console_page raw (record { page = raw.registers.con; device = kick_queue raw.devices.con n s })) at.at.in_raw
      ∙ ap (λ (ring : Option SetRing). with_console_page raw (record { page = raw.registers.con; device = device.with_queue raw.devices.con n (if is_some ring then kicked_state at.s else at.s) })) at.at.here.is_set

  kick_related : Related kicked_world kicked_raw known
  kick_related = record {
    device = device_kept h.device.generation h.device;
    queues =
        subst (λ (qs : List (Option DriverQueue)). EachQueue raw.memory w.devices.con.status w.devices.con.accepted 0 (slice_set w.devices.con.queues n (Some (kicked_queue at.a))) (slice_set raw.devices.con.queues n (kicked_state at.s)) qs)
        (slice_set-same known.con.queues n (Some q) at.at.in_record)
        (queue_located h n (Some (kicked_queue at.a)) (kicked_state at.s) (Some q) (kicked_part (no_facts n) raw.memory w.devices.con.status w.devices.con.accepted n at.a at.s q true at.at.here));
    count = length-set w.devices.con.queues n (Some (kicked_queue at.a)) ∙ h.count;
    contents = h.contents;
    signals = h.signals;
    memory = h.memory;
  }

  kick_outcome : refusal_by known (Notify Con n) ≡ None → operate Mmio w (Notify Con n) ≡ record { world = kicked_world; reply = reply.Good }
  kick_outcome allowed =
      allowed_at (Notify Con n) refl h allowed
      ∙ ap (λ (a : Option AbstractQueue). record { world = with_device w Con (change_queue w.devices.con n kicked_queue a); reply = reply.Good }) (ap option_flatten at.at.in_world)

-- a queue that may be notified is set
notified_is_set : (known : DriverRecord) (n : ℕ) → refusal_by known (Notify Con n) ≡ None → IsSet known.con n
notified_is_set known n allowed =
    let k : Known = known_of known.con in
    let (ready, (has, (set, end))) = none_holds (queue_tests k n (k.status == RUNNING)) allowed in
    is_set known.con n set

pub notify_safe : (known : DriverRecord) (queue : ℕ) → refusal_by known (Notify Con queue) ≡ None → {n : ℕ} {w v : World} {answer : ReplyValue} {raw : Raw MmioRegisters} → Related w raw known
    → Safe mmio (Notify Con queue) (Ends mmio Related) (notify_lowering known Con queue) n w v answer raw
notify_safe known queue allowed h =
    let set = notified_is_set known queue allowed in
    safe_store QueueNotify queue (λ w raw. Related w raw known) (related_kept known) h
    (λ n w v raw h.
    let at : SetIn no_facts w raw known queue set.q = set_in h queue set.q set.found in
    safe_mark_as (kick_outcome h queue set.q at allowed)
    (safe_ended (related_kept known) refl
    (subst (λ (raw : Raw MmioRegisters). Related (kicked_world h queue set.q at) raw known) (sym (kick_stored h queue set.q at)) (kick_related h queue set.q at))))
