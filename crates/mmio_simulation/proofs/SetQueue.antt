-- Setting a queue: its areas are cleared, it is selected and described, and the last store sets it in the device.
use Rattle.std.proofs.Common.{◌≡◌, ℕ, ◌+◌, ◌%◌, ◌^◌, ◌<◌, ◌≤◌, ◌==◌, ◌&&◌, not, length, length-set, List, [], ◌∷◌, replicate, true, false, Option, Some, None, refl, sym, ◌∙◌, ap, subst, inl, inr, arith}
use Rattle.std.specs.Prelude.{is_some, nat_le, slice_get, slice_set}
use Rattle.std.specs.Option.{option_flatten}
use Rattle.std.proofs.lemmas.Bool.{and_parts, cond-false, cond-true, eqb-true, leb-false, not-false}
use Rattle.std.proofs.lemmas.Bool.Decides.{nat_tests}
use Rattle.std.proofs.lemmas.List.{length-replicate}
use Rattle.guest_mem.specs.Memory.{put_at, Apart}
use Rattle.guest_mem.proofs.Parts.{length-put_at, part-put_at_apart}
use Rattle.vt_types.specs.declared.device.Dev.TheVariants.{Con}
use Rattle.vt_types.specs.declared.reply.Why.TheVariants as why
use Rattle.vt_types.specs.Device.{BLOCK_LEN, GREATEST_QUEUE, queue_block}
use Rattle.vt_types.specs.Features.{INDIRECT_DESC, EVENT_IDX}
use Rattle.vt_types.specs.Operation.{SetQueue}
use Rattle.vt_types.specs.Reply.{ReplyValue}
use Rattle.vt_layout.specs.QueueBlock.{QUEUE_AREAS, driver_area, device_area}
use Rattle.vt_layout.specs.declared.register.MmioRegister.TheVariants.{QueueSel, QueueNumMax, QueueNum, QueueReady, QueueDescLow, QueueDescHigh, QueueDriverLow, QueueDriverHigh, QueueDeviceLow, QueueDeviceHigh}
use Rattle.vq_common.specs.declared.chain.RingCfg.{RingCfg}
use Rattle.vq_common.specs.Queue.{DriverQueue, IsInBlock, is_queue_size, is_ring_size, new_device_queue, new_driver_queue}
use Rattle.vq_split_pair.specs.Pair.{IsInMemory}
use Rattle.dev_status.specs.Status.{has_bits}
use Rattle.state_table.specs.Known.{Known}
use Rattle.state_table.specs.Refusal.{AGREED, is_queue_set, lacks_queue}
use Rattle.abstract_devices.specs.World.{AbstractQueue, World, with_queue}
use Rattle.abstract_devices.specs.Operate.{new_queue}
use Rattle.dev_core.specs.Bus.{MEMORY_LENGTH, Raw}
use Rattle.dev_core.specs.Device.{QueueState, may_set, ring_for, set_device_queue}
use Rattle.dev_core.specs.Device as device
use Rattle.dev_core.specs.Ring.{SetRing}
use Rattle.drv_core.specs.Driver.{DriverRecord, known_of, with_driver_queue}
use Rattle.drv_mmio.specs.Lowering.{cfg_of, high_half, low_half, setq_lowering}
use Rattle.mmio_regs.specs.declared.page.QueueRegisters.{QueueRegisters}
use Rattle.mmio_regs.specs.MmioTable.{DevicePage, change_registers, change_selected, console_page, described, selected, store_ready, with_console_page}
use Rattle.mmio_regs.specs.Page.{MmioRegisters, Page, with_high, with_low}
use Rattle.mmio_regs.proofs.PageLaws.{at_below}
use Rattle.ring_part.specs.RingPart.{IsCleared}
use Rattle.ring_part.proofs.Begin.{begins as ring_begins, cleared}
use Rattle.interleaving.specs.FreeLocations.{with_put}
use Rattle.interleaving.specs.Kept.{Invariant, Kept}
use Rattle.interleaving.specs.Safe.{Ends, Safe}
use Rattle.interleaving.proofs.MarkRules.{safe_mark_as}
use Rattle.interleaving.proofs.MemoryRules.{safe_zero}
use Rattle.interleaving.proofs.ProgramRules.{safe_ended}
use Rattle.interleaving.proofs.RefusalRules.{refusal_by}
use Rattle.mmio_simulation.specs.Bus.{mmio}
use Rattle.mmio_simulation.specs.Related.{EachQueue, Related, SetPart, no_facts}
use Rattle.mmio_simulation.proofs.Blocks.{blocks_apart}
use Rattle.mmio_simulation.proofs.EventFacts.{IsStillLocation, OfUnset, event_memory}
use Rattle.mmio_simulation.proofs.EventRegisters.{event_page}
use Rattle.mmio_simulation.proofs.EventsKeep.{related_kept}
use Rattle.mmio_simulation.proofs.PageChanges.{page_changed}
use Rattle.mmio_simulation.proofs.PartChanges.{device_kept}
use Rattle.mmio_simulation.proofs.QueueLocations.{UnsetAt, queue_located, read_set, unset_at, unset_below, unset_in_record}
use Rattle.mmio_simulation.proofs.Queues.{each_replaced, queue_framed, slice_set-same}
use Rattle.mmio_simulation.proofs.RefusedAlike.{allowed_at}
use Rattle.mmio_simulation.proofs.Registers.{safe_load, safe_store, stored}
use Rattle.mmio_simulation.proofs.NoneHolds.{none_holds}

-- both halves of an address make it, whatever stood before
halves_joined : (before addr : ℕ) → with_high (with_low before (low_half addr)) (high_half addr) ≡ addr
halves_joined before addr = omega arith

areas_in_block : QUEUE_AREAS ≤ BLOCK_LEN
unfolding QUEUE_AREAS
areas_in_block = omega arith

blocks_in_memory : (n : ℕ) → n < 2 → queue_block Con n + BLOCK_LEN ≤ MEMORY_LENGTH
unfolding MEMORY_LENGTH
blocks_in_memory n below = omega (arith, below)

size_short : (size : ℕ) → is_queue_size size ≡ true → size % 2 ^ 16 ≡ size
size_short size allowed =
    let (_, few) = and_parts (is_ring_size size) (nat_le size GREATEST_QUEUE) allowed in
    let low : size ≤ 256 = grind (arith, nat_tests, few) in
    omega (arith, low)

-- what the driver knows of a queue that may be set
record MaySet (known : DriverRecord) (n size : ℕ) : Type 0 where
  agreed : known.con.status ≡ AGREED
  size_allowed : is_queue_size size ≡ true
  unset : slice_get known.con.queues n ≡ Some None

may_set_of : (known : DriverRecord) (n size : ℕ) → refusal_by known (SetQueue Con n size) ≡ None → MaySet known n size
may_set_of known n size allowed =
    let k : Known = known_of known.con in
    let (ready, (has, (fits, (free, end)))) = none_holds ((not (k.status == AGREED), why.State) ∷ (lacks_queue k n, why.Queue) ∷ (not (is_queue_size size), why.Size) ∷ (is_queue_set k n, why.Set) ∷ []) allowed in
    record {
      agreed = eqb-true k.status AGREED (not-false (k.status == AGREED) ready);
      size_allowed = not-false (is_queue_size size) fits;
      unset = unset_in_record known.con.queues n (leb-false (length k.queues) n has) free;
    }

module _ (known : DriverRecord) (n size : ℕ) (may : MaySet known n size) where
  abbrev base : ℕ
  base = queue_block Con n

  abbrev cfg : RingCfg
  cfg = cfg_of known.con Con n size

  abbrev zeros : List ℕ
  zeros = replicate QUEUE_AREAS 0

  abbrev At : Invariant MmioRegisters
  At w raw = Related w raw known

  block_inside : {w : World} {raw : Raw MmioRegisters} → Related w raw known → base + BLOCK_LEN ≤ length raw.memory
  block_inside {raw = raw} h =
      let long = h.memory in
      let fits : base + BLOCK_LEN ≤ MEMORY_LENGTH = blocks_in_memory n (unset_below h n may.unset) in
      omega (arith, long, fits)

  areas_inside : {w : World} {raw : Raw MmioRegisters} → Related w raw known → base + QUEUE_AREAS ≤ length raw.memory
  areas_inside h = let inside = block_inside h in omega (arith, inside, areas_in_block)

  zeros_inside : {w : World} {raw : Raw MmioRegisters} → Related w raw known → base + length zeros ≤ length raw.memory
  zeros_inside h = let inside = areas_inside h in let long : length zeros ≡ QUEUE_AREAS = length-replicate QUEUE_AREAS 0 in omega (arith, inside, long)

  zeros_apart : (m : ℕ) → (m ≡ n → ⊥) → Apart base (length zeros) (queue_block Con m) BLOCK_LEN
  zeros_apart m other =
      let long : length zeros ≡ QUEUE_AREAS = length-replicate QUEUE_AREAS 0 in
      elim (blocks_apart base n m refl other) [ inl below ↦ inl (omega (arith, below, long, areas_in_block)) | inr above ↦ inr above ]

  -- the areas are cleared
  record Clear (w : World) (raw : Raw MmioRegisters) : Type 0 where
    related : Related w raw known
    clear : IsCleared raw.memory base

  clear_kept : Kept mmio Clear
  clear_kept w raw e h =
      let location : IsStillLocation known.con base QUEUE_AREAS
      = OfUnset n (ap option_flatten may.unset) (record { starts = omega arith; ends = omega (arith, areas_in_block) })
      in
      record { related = related_kept known w raw e h.related; clear = record { areas = event_memory h.related base QUEUE_AREAS e location ∙ h.clear.areas } }

  module _ {w : World} {raw : Raw MmioRegisters} (h : Related w raw known) where
    abbrev memory : List ℕ
    memory = put_at raw.memory base zeros

    abbrev EachIn : List (Option AbstractQueue) → List QueueState → List (Option DriverQueue) → Type 0
    EachIn bs ss qs = EachQueue memory w.devices.con.status w.devices.con.accepted 0 bs ss qs

    -- the queues of other blocks are as they were, and this one is not set
    queues_cleared : EachIn w.devices.con.queues raw.devices.con.queues known.con.queues
    queues_cleared =
        let at : UnsetAt w raw n = unset_at h n may.unset in
        let location : 0 + n ≡ n = omega arith in
        subst (λ (bs : List (Option AbstractQueue)). EachIn bs raw.devices.con.queues known.con.queues) (slice_set-same w.devices.con.queues n None at.in_world)
        (subst (λ (ss : List QueueState). EachIn (slice_set w.devices.con.queues n None) ss known.con.queues) (slice_set-same raw.devices.con.queues n at.state at.in_raw)
        (subst (λ (qs : List (Option DriverQueue)). EachIn (slice_set w.devices.con.queues n None) (slice_set raw.devices.con.queues n at.state) qs) (slice_set-same known.con.queues n None may.unset)
        (each_replaced no_facts no_facts raw.memory memory w.devices.con.status w.devices.con.status w.devices.con.accepted w.devices.con.accepted 0 w.devices.con.queues raw.devices.con.queues known.con.queues n None at.state None
        (λ k other a s q part.
        queue_framed (no_facts k) raw.memory memory w.devices.con.status w.devices.con.accepted k (length-put_at raw.memory base zeros (zeros_inside h))
        (part-put_at_apart raw.memory base zeros (queue_block Con k) BLOCK_LEN (zeros_inside h) (zeros_apart k (λ same. other (same ∙ sym location)))) a s q part)
        at.unset_part h.queues)))

    areas_cleared : Clear w (with_put raw base zeros)
    areas_cleared = record {
      related = record {
        device = h.device;
        queues = queues_cleared;
        count = h.count;
        contents = h.contents;
        signals = h.signals;
        memory = length-put_at raw.memory base zeros (zeros_inside h) ∙ h.memory;
      };
      clear = cleared raw.memory base (areas_inside h);
    }

  -- the queue is selected, and its registers are these
  record Described (regs : QueueRegisters) (w : World) (raw : Raw MmioRegisters) : Type 0 where
    clear : Clear w raw
    select : raw.registers.con.queue_select ≡ n
    registers : slice_get raw.registers.con.queues n ≡ Some regs

  described_kept : (regs : QueueRegisters) → Kept mmio (Described regs)
  described_kept regs w raw e h =
      let page = event_page raw e in
      record {
        clear = clear_kept w raw e h.clear;
        select = page.queue_select ∙ h.select;
        registers = ap (λ (queues : List QueueRegisters). slice_get queues n) page.queues ∙ h.registers;
      }

  selected_first : {w : World} {raw : Raw MmioRegisters} → Clear w raw → (regs : QueueRegisters) × Described regs w (stored QueueSel n raw)
  selected_first {raw = raw} h =
      let count = h.related.signals.queues in
      let below : n < 2 = unset_below h.related n may.unset in
      let (regs, is) = at_below raw.registers.con.queues n (omega (arith, count, below)) in
      (regs, record { clear = record { related = page_changed (record raw.registers.con { queue_select = n }) refl refl h.related; clear = h.clear }; select = refl; registers = is })

  module _ {regs : QueueRegisters} {w : World} {raw : Raw MmioRegisters} (h : Described regs w raw) where
    at_unset : UnsetAt w raw n
    at_unset = unset_at h.clear.related n may.unset

    selected_unset : device.is_queue_set (selected (console_page raw)) ≡ false
    selected_unset =
        ap (λ (select : ℕ). device.is_queue_set (slice_get raw.devices.con.queues select)) h.select
        ∙ ap device.is_queue_set at_unset.in_raw
        ∙ ap (λ (ring : Option SetRing). is_some ring) at_unset.unset_part.unset

    -- a store to a register of the queue
    change_is : (change : QueueRegisters → QueueRegisters)
        → change_selected change (console_page raw) ≡ record { page = record raw.registers.con { queues = slice_set raw.registers.con.queues n (change regs) }; device = raw.devices.con }
    change_is change =
        let d : DevicePage = console_page raw in
        cond-false (device.is_queue_set (selected d)) d (change_registers d d.page.queue_select change (slice_get d.page.queues d.page.queue_select)) selected_unset
        ∙ ap (λ (select : ℕ). change_registers d select change (slice_get d.page.queues select)) h.select
        ∙ ap (change_registers d n change) h.registers

    changed : (change : QueueRegisters → QueueRegisters) → Described (change regs) w (with_console_page raw (change_selected change (console_page raw)))
    changed change =
        let queues : List QueueRegisters = slice_set raw.registers.con.queues n (change regs) in
        let page : Page = record raw.registers.con { queues = queues } in
        subst (λ (d : DevicePage). Described (change regs) w (with_console_page raw d)) (sym (change_is change))
        (record {
          clear = record { related = page_changed page refl (length-set raw.registers.con.queues n (change regs)) h.clear.related; clear = h.clear.clear };
          select = h.select;
          registers = read_set raw.registers.con.queues n regs (change regs) h.registers;
        })

  -- the ring that the registers describe, before its features are known
  abbrev plain : RingCfg
  plain = record { desc = base; driver = driver_area base; device = device_area base; size = size; indirect = false; event_idx = false }

  abbrev ring : SetRing
  ring = ring_for known.con.accepted plain

  abbrev state : QueueState
  state = record { ring = Some ring; kick = false }

  abbrev queue_record : DriverQueue
  queue_record = new_driver_queue cfg base

  abbrev set_record : DriverRecord
  set_record = with_driver_queue known Con n queue_record

  module _ {regs : QueueRegisters} (is : described regs ≡ plain) {w : World} {raw : Raw MmioRegisters} (h : Described regs w raw) where
    abbrev set_world : World
    set_world = record w { devices = record w.devices { con = with_queue w.devices.con n (new_queue w.devices.con size) } }

    abbrev set_raw : Raw MmioRegisters
    set_raw = with_console_page raw (record { page = raw.registers.con; device = device.with_queue raw.devices.con n state })

    at_free : UnsetAt w raw n
    at_free = unset_at h.clear.related n may.unset

    accepted_known : raw.devices.con.status.accepted ≡ known.con.accepted
    accepted_known = h.clear.related.device.accepted ∙ sym h.clear.related.device.known_accepted

    may_be_set : may_set (slice_get raw.devices.con.queues n) plain ≡ true
    may_be_set =
        ap (λ (s : Option QueueState). may_set s plain) at_free.in_raw
        ∙ ap (λ (ring : Option SetRing). not (is_some ring) && is_queue_size size) at_free.unset_part.unset
        ∙ may.size_allowed

    device_set : set_device_queue raw.devices.con n plain ≡ device.with_queue raw.devices.con n state
    device_set =
        let d = raw.devices.con in
        cond-true (may_set (slice_get d.queues n) plain) (device.with_queue d n (record { ring = Some (ring_for d.status.accepted plain); kick = false })) d may_be_set
        ∙ ap (λ (accepted : ℕ). device.with_queue d n (record { ring = Some (ring_for accepted plain); kick = false })) accepted_known

    -- what the last store leaves
    ready_stored : stored QueueReady 1 raw ≡ set_raw
    ready_stored =
        let d : DevicePage = console_page raw in
        ap (λ (q : Option QueueRegisters). with_console_page raw (store_ready 1 d q)) (ap (slice_get raw.registers.con.queues) h.select ∙ h.registers)
        ∙ ap (λ (select : ℕ). with_console_page raw (record { page = raw.registers.con; device = set_device_queue raw.devices.con select (described regs) })) h.select
        ∙ ap (λ (cfg : RingCfg). with_console_page raw (record { page = raw.registers.con; device = set_device_queue raw.devices.con n cfg })) is
        ∙ ap (λ (con : device.DeviceState). with_console_page raw (record { page = raw.registers.con; device = con })) device_set

    block_holds : IsInBlock cfg base
    block_holds =
        let below : n < 2 = unset_below h.clear.related n may.unset in
        record { block = record { number = 3 + n; known = omega (arith, below); location = refl }; desc = refl; driver = refl; device = refl }

    in_memory : IsInMemory (length raw.memory) cfg base
    in_memory =
        let (allowed, _) = and_parts (is_ring_size size) (nat_le size GREATEST_QUEUE) may.size_allowed in
        record { size = allowed; in_block = block_holds; inside = block_inside h.clear.related }

    set_part : SetPart raw.memory w.devices.con.status w.devices.con.accepted n (new_queue w.devices.con size) state queue_record
    set_part =
        let same : known.con.accepted ≡ w.devices.con.accepted = h.clear.related.device.known_accepted in
        record {
          ring = new_device_queue cfg;
          is_set = refl;
          kick = refl;
          rests = record {
            used = [];
            waiting = [];
            part = ring_begins raw.memory cfg base w.devices.con in_memory (ap (λ (accepted : ℕ). has_bits accepted EVENT_IDX) (sym same)) h.clear.clear;
            known = tt;
          };
          block = refl;
          agreed = inl (sym h.clear.related.device.known_status ∙ may.agreed);
          indirect = ap (λ (accepted : ℕ). has_bits accepted INDIRECT_DESC) same;
          event_idx = ap (λ (accepted : ℕ). has_bits accepted EVENT_IDX) same;
        }

    set_related : Related set_world set_raw set_record
    set_related =
        let r : Related w raw known = h.clear.related in
        record {
          device = device_kept r.device.generation r.device;
          queues = queue_located r n (Some (new_queue w.devices.con size)) state (Some queue_record) set_part;
          count = length-set w.devices.con.queues n (Some (new_queue w.devices.con size)) ∙ r.count;
          contents = r.contents;
          signals = r.signals;
          memory = r.memory;
        }

  -- the registers once all are stored, from those at the start
  abbrev sized : QueueRegisters → QueueRegisters
  sized q = record q { num = size % 2 ^ 16 }

  abbrev desc_low : QueueRegisters → QueueRegisters
  desc_low q = record q { desc = with_low q.desc (low_half cfg.desc) }

  abbrev desc_high : QueueRegisters → QueueRegisters
  desc_high q = record q { desc = with_high q.desc (high_half cfg.desc) }

  abbrev driver_low : QueueRegisters → QueueRegisters
  driver_low q = record q { driver = with_low q.driver (low_half cfg.driver) }

  abbrev driver_high : QueueRegisters → QueueRegisters
  driver_high q = record q { driver = with_high q.driver (high_half cfg.driver) }

  abbrev device_low : QueueRegisters → QueueRegisters
  device_low q = record q { device = with_low q.device (low_half cfg.device) }

  abbrev device_high : QueueRegisters → QueueRegisters
  device_high q = record q { device = with_high q.device (high_half cfg.device) }

  abbrev ring_at : ℕ → ℕ → ℕ → ℕ → RingCfg
  ring_at desc driver device size = record { desc = desc; driver = driver; device = device; size = size; indirect = false; event_idx = false }

  all_described : (q : QueueRegisters) → described (device_high (device_low (driver_high (driver_low (desc_high (desc_low (sized q))))))) ≡ plain
  all_described q =
      let driver2 : ℕ = with_high (with_low q.driver (low_half cfg.driver)) (high_half cfg.driver) in
      let device2 : ℕ = with_high (with_low q.device (low_half cfg.device)) (high_half cfg.device) in
      ap (λ (desc : ℕ). ring_at desc driver2 device2 (size % 2 ^ 16)) (halves_joined q.desc cfg.desc)
      ∙ ap (λ (driver : ℕ). ring_at base driver device2 (size % 2 ^ 16)) (halves_joined q.driver cfg.driver)
      ∙ ap (λ (device : ℕ). ring_at base (driver_area base) device (size % 2 ^ 16)) (halves_joined q.device cfg.device)
      ∙ ap (ring_at base (driver_area base) (device_area base)) (size_short size may.size_allowed)

  set_safe : refusal_by known (SetQueue Con n size) ≡ None → {left : ℕ} {w v : World} {answer : ReplyValue} {raw : Raw MmioRegisters} → Related w raw known
      → Safe mmio (SetQueue Con n size) (Ends mmio Related) (setq_lowering known Con n size) left w v answer raw
  set_safe allowed h =
      safe_zero At (related_kept known) h (λ w raw h. areas_inside h)
      (λ left w v raw h. safe_store QueueSel n Clear clear_kept (areas_cleared h)
      (λ left w v raw h. let (q0, h) = selected_first h in safe_load QueueReady (Described q0) (described_kept q0) h
      (λ left w v raw h. safe_load QueueNumMax (Described q0) (described_kept q0) h
      (λ left w v raw h. safe_store QueueNum size (Described q0) (described_kept q0) h
      (λ left w v raw h. let q1 : QueueRegisters = sized q0 in safe_store QueueDescLow (low_half cfg.desc) (Described q1) (described_kept q1) (changed h sized)
      (λ left w v raw h. let q2 : QueueRegisters = desc_low q1 in safe_store QueueDescHigh (high_half cfg.desc) (Described q2) (described_kept q2) (changed h desc_low)
      (λ left w v raw h. let q3 : QueueRegisters = desc_high q2 in safe_store QueueDriverLow (low_half cfg.driver) (Described q3) (described_kept q3) (changed h desc_high)
      (λ left w v raw h. let q4 : QueueRegisters = driver_low q3 in safe_store QueueDriverHigh (high_half cfg.driver) (Described q4) (described_kept q4) (changed h driver_low)
      (λ left w v raw h. let q5 : QueueRegisters = driver_high q4 in safe_store QueueDeviceLow (low_half cfg.device) (Described q5) (described_kept q5) (changed h driver_high)
      (λ left w v raw h. let q6 : QueueRegisters = device_low q5 in safe_store QueueDeviceHigh (high_half cfg.device) (Described q6) (described_kept q6) (changed h device_low)
      (λ left w v raw h. let q7 : QueueRegisters = device_high q6 in safe_store QueueReady 1 (Described q7) (described_kept q7) (changed h device_high)
      (λ left w v raw h.
      safe_mark_as (allowed_at (SetQueue Con n size) refl h.clear.related allowed)
      (safe_ended (related_kept set_record) refl
      (subst (λ (raw : Raw MmioRegisters). Related (set_world (all_described q0) h) raw set_record) (sym (ready_stored (all_described q0) h)) (set_related (all_described q0) h)))))))))))))))

pub set_queue_safe : (known : DriverRecord) (queue size : ℕ) → refusal_by known (SetQueue Con queue size) ≡ None → {n : ℕ} {w v : World} {answer : ReplyValue} {raw : Raw MmioRegisters} → Related w raw known
    → Safe mmio (SetQueue Con queue size) (Ends mmio Related) (setq_lowering known Con queue size) n w v answer raw
set_queue_safe known queue size allowed h = set_safe known queue size (may_set_of known queue size allowed) allowed h
