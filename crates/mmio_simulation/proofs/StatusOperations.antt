-- Operations on the status of the console: probing, resetting, reading the status and the steps of the bring-up.
use Rattle.std.proofs.Common.{◌≡◌, ℕ, ◌%◌, ◌^◌, ◌==◌, ◌&&◌, not, length, replicate, [], ◌∷◌, true, None, refl, sym, ◌∙◌, ap, subst}
use Rattle.std.proofs.lemmas.Bool.{and_parts, eqb-true, not-false}
use Rattle.std.proofs.lemmas.List.{length-replicate}
use Rattle.vt_types.specs.declared.device.BusKind.TheVariants.{Mmio}
use Rattle.vt_types.specs.declared.device.Dev.TheVariants.{Con}
use Rattle.vt_types.specs.declared.operation.Step.{Step}
use Rattle.vt_types.specs.declared.reply.Why.TheVariants as why
use Rattle.vt_types.specs.Operation.{Probe, Reset, GetStatus, SetStatus}
use Rattle.vt_types.specs.Reply.{ReplyValue}
use Rattle.vt_types.specs.Reply as reply
use Rattle.vt_types.specs.Status.{status_of_step}
use Rattle.vt_layout.specs.declared.register.MmioRegister.TheVariants.{MagicValue, Version, DeviceId, VendorId, Status}
use Rattle.dev_status.specs.Status.{StatusState, status_with}
use Rattle.state_table.specs.Refusal.{status_before}
use Rattle.abstract_devices.specs.World.{World, status_state}
use Rattle.abstract_devices.specs.Operate.{operate, reset_device, step_outcome, with_status}
use Rattle.dev_core.specs.Bus.{Raw}
use Rattle.dev_core.specs.Device as device
use Rattle.drv_core.specs.Driver.{DriverRecord, no_queues}
use Rattle.drv_mmio.specs.Lowering.{getstatus_lowering, low_byte, probe_lowering, reset_lowering, status_lowering}
use Rattle.mmio_regs.specs.Page.{MmioRegisters, new_queue_registers}
use Rattle.interleaving.specs.Kept.{Invariant}
use Rattle.interleaving.specs.Safe.{Ends, Safe}
use Rattle.interleaving.proofs.MarkRules.{safe_mark_as}
use Rattle.interleaving.proofs.ProgramRules.{safe_ended}
use Rattle.interleaving.proofs.RefusalRules.{refusal_by}
use Rattle.mmio_simulation.specs.Bus.{mmio}
use Rattle.mmio_simulation.specs.Related.{BeforeAll, EachQueue, Related, UnsetPart}
use Rattle.mmio_simulation.proofs.EventsKeep.{related_kept}
use Rattle.mmio_simulation.proofs.QueueLocations.{at_status, device_count}
use Rattle.mmio_simulation.proofs.RefusedAlike.{allowed_at}
use Rattle.mmio_simulation.proofs.Registers.{safe_load, safe_load_after, safe_store, stored}
use Rattle.mmio_simulation.proofs.StatusSteps.{Stepped, byte_read, step_stored, step_written, stepped, with_state}
use Rattle.mmio_simulation.proofs.NoneHolds.{none_holds}

-- the driver's record with another status of the console
abbrev pub known_with_status : DriverRecord → ℕ → DriverRecord
known_with_status known s = record known { con = record known.con { status = s } }

-- and after a reset, with the status that was read
abbrev reset_record : DriverRecord → ℕ → DriverRecord
reset_record known s = record known { con = record known.con { reset_since = true; status = s; accepted = 0; queues = no_queues Con } }

abbrev probed_record : DriverRecord → DriverRecord
probed_record known = record known { con = record known.con { probed = true } }

module _ {w : World} {raw : Raw MmioRegisters} {known : DriverRecord} (h : Related w raw known) where
  probed : Related (record w { devices = record w.devices { con = record w.devices.con { probed = true } } }) raw (probed_record known)
  probed = record {
    device = record {
      step = h.device.step;
      status = h.device.status;
      accepted = h.device.accepted;
      offered = h.device.offered;
      generation = h.device.generation;
      known_probed = refl;
      known_reset = h.device.known_reset;
      known_status = h.device.known_status;
      known_accepted = h.device.known_accepted;
    };
    queues = h.queues;
    count = h.count;
    contents = h.contents;
    signals = h.signals;
    memory = h.memory;
  }

  -- the status that is known is the one that stands
  status_known : (s : ℕ) → s ≡ w.devices.con.status → Related w raw (known_with_status known s)
  status_known s is = record {
    device = record {
      step = h.device.step;
      status = h.device.status;
      accepted = h.device.accepted;
      offered = h.device.offered;
      generation = h.device.generation;
      known_probed = h.device.known_probed;
      known_reset = h.device.known_reset;
      known_status = is;
      known_accepted = h.device.known_accepted;
    };
    queues = h.queues;
    count = h.count;
    contents = h.contents;
    signals = h.signals;
    memory = h.memory;
  }

  no_queue : UnsetPart device.unset
  no_queue = record { unset = refl; kick = refl }

  two_queues : length raw.devices.con.queues ≡ 2
  two_queues = device_count h ∙ h.count

  reset : Related (record w { devices = record w.devices { con = reset_device Con w.devices.con } }) (stored Status 0 raw) (reset_record known 0)
  reset = record {
    device = record {
      step = BeforeAll refl;
      status = refl;
      accepted = refl;
      offered = h.device.offered;
      generation = h.device.generation;
      known_probed = h.device.known_probed;
      known_reset = refl;
      known_status = refl;
      known_accepted = refl;
    };
    queues = subst (λ (count : ℕ). EachQueue raw.memory 0 0 0 (replicate 2 None) (replicate count device.unset) (replicate 2 None)) (sym two_queues) (no_queue, (no_queue, tt));
    count = refl;
    contents = h.contents;
    signals = record { status = refl; queues = length-replicate (length raw.registers.con.queues) new_queue_registers ∙ h.signals.queues };
    memory = h.memory;
  }

  -- both halves have the same status machine
  same_state : raw.devices.con.status ≡ status_state w Con
  same_state =
      ap (λ (offered : ℕ). record { offered = offered; accepted = raw.devices.con.status.accepted; status = raw.devices.con.status.status }) h.device.offered
      ∙ ap (λ (accepted : ℕ). record { offered = (status_state w Con).offered; accepted = accepted; status = raw.devices.con.status.status }) h.device.accepted
      ∙ ap (λ (status : ℕ). record { offered = (status_state w Con).offered; accepted = w.devices.con.accepted; status = status }) h.device.status

  module _ (s : Step) where
    abbrev new_status : ℕ
    new_status = status_with (status_of_step s) (status_state w Con)

    step_taken : Stepped w.devices.con.status new_status
        → Related (record w { devices = record w.devices { con = record w.devices.con { status = new_status } } })
        (with_state raw (record raw.devices.con.status { status = status_with (status_of_step s) raw.devices.con.status }))
        (known_with_status known new_status)
    step_taken new = record {
      device = record {
        step = new.step;
        status = ap (status_with (status_of_step s)) same_state;
        accepted = h.device.accepted;
        offered = h.device.offered;
        generation = h.device.generation;
        known_probed = h.device.known_probed;
        known_reset = h.device.known_reset;
        known_status = refl;
        known_accepted = h.device.known_accepted;
      };
      queues = at_status h new_status w.devices.con.accepted (λ agreed. (new.agreed agreed, refl));
      count = h.count;
      contents = h.contents;
      signals = h.signals;
      memory = h.memory;
    }

    -- what the abstract step leaves
    step_outcome_is : refusal_by known (SetStatus Con s) ≡ None
        → operate Mmio w (SetStatus Con s) ≡ record { world = record w { devices = record w.devices { con = record w.devices.con { status = new_status } } }; reply = reply.Status new_status }
    step_outcome_is allowed =
        allowed_at (SetStatus Con s) refl h allowed ∙ ap (λ (state : StatusState). step_outcome w Con (with_status w.devices.con state)) (step_written s (status_state w Con))

    step_follows : refusal_by known (SetStatus Con s) ≡ None → Stepped w.devices.con.status new_status
    step_follows allowed =
        let (ready, end) = none_holds ((not (known.con.reset_since && known.con.status == status_before s), why.State) ∷ []) allowed in
        let (reset_since, before) = and_parts known.con.reset_since (known.con.status == status_before s) (not-false (known.con.reset_since && known.con.status == status_before s) ready) in
        stepped s (status_state w Con).offered w.devices.con.accepted w.devices.con.status (sym h.device.known_status ∙ eqb-true known.con.status (status_before s) before)

abbrev At : DriverRecord → Invariant MmioRegisters
At known w raw = Related w raw known

pub probe_safe : (known : DriverRecord) → refusal_by known (Probe Con) ≡ None → {n : ℕ} {w v : World} {answer : ReplyValue} {raw : Raw MmioRegisters} → Related w raw known
    → Safe mmio (Probe Con) (Ends mmio Related) (probe_lowering known Con) n w v answer raw
probe_safe known allowed h =
    safe_load MagicValue (At known) (related_kept known) h
    (λ n w v raw h. safe_load Version (At known) (related_kept known) h
    (λ n w v raw h. safe_load DeviceId (At known) (related_kept known) h
    (λ n w v raw h. safe_load VendorId (At known) (related_kept known) h
    (λ n w v raw h. safe_mark_as (allowed_at (Probe Con) refl h allowed) (safe_ended (related_kept (probed_record known)) refl (probed h))))))

-- the status is read back after the mark
pub reset_safe : (known : DriverRecord) → refusal_by known (Reset Con) ≡ None → {n : ℕ} {w v : World} {answer : ReplyValue} {raw : Raw MmioRegisters} → Related w raw known
    → Safe mmio (Reset Con) (Ends mmio Related) (reset_lowering known Con) n w v answer raw
reset_safe known allowed h =
    safe_store Status 0 (At known) (related_kept known) h
    (λ n w v raw h. safe_mark_as (allowed_at (Reset Con) refl h allowed)
    (safe_load_after Status (At (reset_record known 0)) (related_kept (reset_record known 0)) (reset h)
    (λ n w v raw h.
    let read : ℕ = low_byte (raw.devices.con.status.status % 2 ^ 32) in
    let is : read ≡ 0 = byte_read raw.devices.con.status.status 0 (h.device.status ∙ sym h.device.known_status) (BeforeAll refl) in
    safe_ended (related_kept (reset_record known read)) refl (subst (λ (s : ℕ). Related v raw (reset_record known s)) (sym is) h))))

pub getstatus_safe : (known : DriverRecord) → refusal_by known (GetStatus Con) ≡ None → {n : ℕ} {w v : World} {answer : ReplyValue} {raw : Raw MmioRegisters} → Related w raw known
    → Safe mmio (GetStatus Con) (Ends mmio Related) (getstatus_lowering known Con) n w v answer raw
getstatus_safe known allowed h =
    safe_load Status (At known) (related_kept known) h
    (λ n w v raw h.
    let read : ℕ = low_byte (raw.devices.con.status.status % 2 ^ 32) in
    let is : read ≡ w.devices.con.status = byte_read raw.devices.con.status.status w.devices.con.status h.device.status h.device.step in
    safe_mark_as (allowed_at (GetStatus Con) refl h allowed) (safe_ended (related_kept (known_with_status known read)) (ap reply.Status (sym is)) (status_known h read is)))

-- the status that is read back is the one after the mark
pub status_safe : (known : DriverRecord) (s : Step) → refusal_by known (SetStatus Con s) ≡ None → {n : ℕ} {w v : World} {answer : ReplyValue} {raw : Raw MmioRegisters} → Related w raw known
    → Safe mmio (SetStatus Con s) (Ends mmio Related) (status_lowering known Con s) n w v answer raw
status_safe known s allowed h =
    safe_store Status (status_of_step s) (At known) (related_kept known) h
    (λ n w v raw h.
    let status : ℕ = new_status h s in
    let new : Stepped w.devices.con.status status = step_follows h s allowed in
    let after : Related (record w { devices = record w.devices { con = record w.devices.con { status = status } } }) (stored Status (status_of_step s) raw) (known_with_status known status)
    = subst (λ (raw : Raw MmioRegisters). Related (record w { devices = record w.devices { con = record w.devices.con { status = status } } }) raw (known_with_status known status)) (sym (step_stored s raw)) (step_taken h s new)
    in
    safe_mark_as (step_outcome_is h s allowed)
    (safe_load_after Status (At (known_with_status known status)) (related_kept (known_with_status known status)) after
    (λ n w v raw h.
    let read : ℕ = low_byte (raw.devices.con.status.status % 2 ^ 32) in
    let is : read ≡ status = byte_read raw.devices.con.status.status status (h.device.status ∙ sym h.device.known_status) new.step in
    safe_ended (related_kept (known_with_status known read)) (ap reply.Status (sym is)) (subst (λ (s : ℕ). Related v raw (known_with_status known s)) (sym is) h))))
