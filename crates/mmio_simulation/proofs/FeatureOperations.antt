-- Reading the features that the console offers, and accepting some of them.
use Rattle.std.proofs.Common.{◌≡◌, ℕ, ◌+◌, ◌*◌, ◌/◌, ◌%◌, ◌^◌, ◌<◌, ◌==◌, not, [], ◌∷◌, false, None, refl, sym, ◌∙◌, ap, subst, inl, inr, arith}
use Rattle.std.proofs.lemmas.Bool.{cond-false, eqb-true, not-false}
use Rattle.vt_types.specs.declared.device.Dev.TheVariants.{Con}
use Rattle.vt_types.specs.declared.reply.Why.TheVariants as why
use Rattle.vt_types.specs.Operation.{Accept, Features}
use Rattle.vt_types.specs.Reply.{ReplyValue}
use Rattle.vt_types.specs.Reply as reply
use Rattle.vt_types.specs.Status.{FEATURES_OK}
use Rattle.vt_layout.specs.declared.register.MmioRegister.TheVariants.{DeviceFeatures, DeviceFeaturesSel, DriverFeatures, DriverFeaturesSel}
use Rattle.dev_status.specs.Features.{features_of}
use Rattle.dev_status.specs.Status.{StatusState, feature_word, has_bits, with_word}
use Rattle.state_table.specs.Refusal.{AGREED, DRIVEN, RUNNING}
use Rattle.abstract_devices.specs.World.{World}
use Rattle.abstract_devices.specs.Operate.{happen}
use Rattle.dev_core.specs.Bus.{Raw}
use Rattle.drv_core.specs.Driver.{DriverRecord}
use Rattle.drv_mmio.specs.Lowering.{accept_lowering, features_lowering, high_half, low_half}
use Rattle.mmio_regs.specs.Page.{MmioRegisters, Page}
use Rattle.interleaving.specs.Kept.{Invariant, Kept}
use Rattle.interleaving.specs.Safe.{Ends, Safe}
use Rattle.interleaving.proofs.MarkRules.{safe_mark_as}
use Rattle.interleaving.proofs.ProgramRules.{safe_ended}
use Rattle.interleaving.proofs.RefusalRules.{refusal_by}
use Rattle.mmio_simulation.specs.Bus.{mmio}
use Rattle.mmio_simulation.specs.Related.{IsAgreed, Related}
use Rattle.mmio_simulation.proofs.EventAccepted.{accepting, event_alike}
use Rattle.mmio_simulation.proofs.EventRegisters.{event_features, event_page}
use Rattle.mmio_simulation.proofs.EventsKeep.{related_kept}
use Rattle.mmio_simulation.proofs.PageChanges.{page_changed}
use Rattle.mmio_simulation.proofs.QueueLocations.{at_status}
use Rattle.mmio_simulation.proofs.RefusedAlike.{allowed_at}
use Rattle.mmio_simulation.proofs.Registers.{safe_load, safe_store, stored}
use Rattle.mmio_simulation.proofs.StatusSteps.{with_state}
use Rattle.mmio_simulation.proofs.NoneHolds.{none_holds}

-- the page with another word selected
abbrev selecting_device : Page → ℕ → Page
selecting_device p x = record p { device_features_select = x }

abbrev selecting_driver : Page → ℕ → Page
selecting_driver p x = record p { driver_features_select = x }

-- the driver's record once features were accepted
abbrev accepted_record : DriverRecord → ℕ → DriverRecord
accepted_record known features = record known { con = record known.con { accepted = features } }

-- a word of the offered features is selected
record Selects (known : DriverRecord) (index : ℕ) (w : World) (raw : Raw MmioRegisters) : Type 0 where
  related : Related w raw known
  select : raw.registers.con.device_features_select ≡ index

-- the word that is loaded is that of the console
word_loaded : {known : DriverRecord} {index : ℕ} {w : World} {raw : Raw MmioRegisters} → Selects known index w raw
    → feature_word raw.devices.con.status.offered raw.registers.con.device_features_select % 2 ^ 32 ≡ feature_word (features_of Con false) index % 2 ^ 32
word_loaded {index = index} {raw = raw} h =
    ap (λ (offered : ℕ). feature_word offered raw.registers.con.device_features_select % 2 ^ 32) h.related.device.offered
    ∙ ap (λ (index : ℕ). feature_word (features_of Con false) index % 2 ^ 32) h.select

-- both words make the features
words_joined : (low high : ℕ) → low ≡ 0x30000005 → high ≡ 1 → low + high * 2 ^ 32 ≡ 0x130000005
words_joined low high is_low is_high = omega (arith, is_low, is_high)

-- what is left of a stored set of features by its two words
low_kept : (a word : ℕ) → word < 2 ^ 32 → (a / 2 ^ 32 * 2 ^ 32 + word) % 2 ^ 32 ≡ word
low_kept a word fits = omega arith

both_words : (a features : ℕ) → a % 2 ^ 32 ≡ features % 2 ^ 32 → a % 2 ^ 32 + features / 2 ^ 32 * 2 ^ 32 ≡ features
both_words a features low = omega arith

abbrev At : DriverRecord → Invariant MmioRegisters
At known w raw = Related w raw known

selects_kept : (known : DriverRecord) (index : ℕ) → Kept mmio (Selects known index)
selects_kept known index w raw e h = record { related = related_kept known w raw e h.related; select = (event_page raw e).device_features_select ∙ h.select }

selecting : {known : DriverRecord} {w : World} {raw : Raw MmioRegisters} (index : ℕ) → Related w raw known → Selects known index w (stored DeviceFeaturesSel index raw)
selecting {raw = raw} index h = record { related = page_changed (selecting_device raw.registers.con index) refl refl h; select = refl }

pub features_safe : (known : DriverRecord) → refusal_by known (Features Con) ≡ None → {n : ℕ} {w v : World} {answer : ReplyValue} {raw : Raw MmioRegisters} → Related w raw known
    → Safe mmio (Features Con) (Ends mmio Related) (features_lowering known Con) n w v answer raw
features_safe known allowed h =
    safe_store DeviceFeaturesSel 0 (At known) (related_kept known) h
    (λ n w v raw h. safe_load DeviceFeatures (Selects known 0) (selects_kept known 0) (selecting 0 h)
    (λ n w v raw h.
    let low : ℕ = feature_word raw.devices.con.status.offered raw.registers.con.device_features_select % 2 ^ 32 in
    let is_low = word_loaded h in
    safe_store DeviceFeaturesSel 1 (At known) (related_kept known) h.related
    (λ n w v raw h. safe_load DeviceFeatures (Selects known 1) (selects_kept known 1) (selecting 1 h)
    (λ n w v raw h.
    let high : ℕ = feature_word raw.devices.con.status.offered raw.registers.con.device_features_select % 2 ^ 32 in
    safe_mark_as (allowed_at (Features Con) refl h.related allowed)
    (safe_ended (related_kept known) (ap reply.Features (sym (words_joined low high is_low (word_loaded h)))) h.related)))))

module _ (known : DriverRecord) (features : ℕ) (driven : known.con.status ≡ DRIVEN) where
  -- the first word is not stored yet
  record First (w : World) (raw : Raw MmioRegisters) : Type 0 where
    related : Related w raw known
    select : raw.registers.con.driver_features_select ≡ 0

  -- it is stored: the features of the device are new while those of the world are old
  record Half (w : World) (raw : Raw MmioRegisters) : Type 0 where
    related : Related w (accepting known.con.accepted raw) known
    low : raw.devices.con.status.accepted % 2 ^ 32 ≡ features % 2 ^ 32

  record Second (w : World) (raw : Raw MmioRegisters) : Type 0 where
    half : Half w raw
    select : raw.registers.con.driver_features_select ≡ 1

  first_kept : Kept mmio First
  first_kept w raw e h = record { related = related_kept known w raw e h.related; select = (event_page raw e).driver_features_select ∙ h.select }

  status_is : {w : World} (raw : Raw MmioRegisters) (a : ℕ) → Related w (accepting a raw) known → raw.devices.con.status.status ≡ DRIVEN
  status_is raw a h = h.device.status ∙ sym h.device.known_status ∙ driven

  half_kept : Kept mmio Half
  half_kept w raw e h = record {
    related =
        subst (λ (raw : Raw MmioRegisters). Related (happen w e) raw known) (event_alike known.con.accepted raw e)
        (related_kept known w (accepting known.con.accepted raw) e h.related);
    low = ap (λ (a : ℕ). a % 2 ^ 32) (event_features raw e).accepted ∙ h.low;
  }

  second_kept : Kept mmio Second
  second_kept w raw e h = record { half = half_kept w raw e h.half; select = (event_page raw e).driver_features_select ∙ h.select }

  -- the relation does not change where the features of the device are given as they are
  as_known : {w : World} {raw : Raw MmioRegisters} → Related w raw known → Related w (accepting known.con.accepted raw) known
  as_known h = record {
    device = record {
      step = h.device.step;
      status = h.device.status;
      accepted = h.device.known_accepted;
      offered = h.device.offered;
      generation = h.device.generation;
      known_probed = h.device.known_probed;
      known_reset = h.device.known_reset;
      known_status = h.device.known_status;
      known_accepted = h.device.known_accepted;
    };
    queues = h.queues;
    count = h.count;
    contents = h.contents;
    signals = h.signals;
    memory = h.memory;
  }

  -- a store of a word, where FEATURES_OK does not stand
  word_stored : (raw : Raw MmioRegisters) (index word : ℕ) → raw.devices.con.status.status ≡ DRIVEN → raw.registers.con.driver_features_select ≡ index
      → stored DriverFeatures word raw ≡ accepting (with_word raw.devices.con.status.accepted index word) raw
  word_stored raw index word status select =
      let state : StatusState = raw.devices.con.status in
      let may : has_bits state.status FEATURES_OK ≡ false = ap (λ (s : ℕ). has_bits s FEATURES_OK) status in
      ap (with_state raw)
      (cond-false (has_bits state.status FEATURES_OK) state (record state { accepted = with_word state.accepted raw.registers.con.driver_features_select word }) may)
      ∙ ap (λ (index : ℕ). accepting (with_word state.accepted index word) raw) select

  store_low : {w : World} {raw : Raw MmioRegisters} → First w raw → Half w (stored DriverFeatures (low_half features) raw)
  store_low {w = w} {raw = raw} h =
      let is = word_stored raw 0 (low_half features) (status_is raw known.con.accepted (as_known h.related)) h.select in
      subst (Half w) (sym is) (record { related = as_known h.related; low = low_kept raw.devices.con.status.accepted (features % 2 ^ 32) (omega arith) })

  select_second : {w : World} {raw : Raw MmioRegisters} → Half w raw → Second w (stored DriverFeaturesSel 1 raw)
  select_second {raw = raw} h =
      record { half = record { related = page_changed (selecting_driver raw.registers.con 1) refl refl h.related; low = h.low }; select = refl }

  none_agreed : {w : World} {raw : Raw MmioRegisters} → Related w raw known → IsAgreed w.devices.con.status → ⊥
  none_agreed h (inl is) = let status : known.con.status ≡ AGREED = h.device.known_status ∙ is in omega (arith, status, driven)
  none_agreed h (inr is) = let status : known.con.status ≡ RUNNING = h.device.known_status ∙ is in omega (arith, status, driven)

  -- all of them are accepted, in the world too
  accepted : {w : World} (raw : Raw MmioRegisters) (a : ℕ) → a ≡ features → Related w (accepting known.con.accepted raw) known
      → Related (record w { devices = record w.devices { con = record w.devices.con { accepted = features } } }) (accepting a raw) (accepted_record known features)
  accepted {w = w} raw a is h = record {
    device = record {
      step = h.device.step;
      status = h.device.status;
      accepted = is;
      offered = h.device.offered;
      generation = h.device.generation;
      known_probed = h.device.known_probed;
      known_reset = h.device.known_reset;
      known_status = h.device.known_status;
      known_accepted = refl;
    };
    queues =
        at_status h w.devices.con.status features (λ agreed. absurd (none_agreed h agreed));
    count = h.count;
    contents = h.contents;
    signals = h.signals;
    memory = h.memory;
  }

  store_high : {w : World} {raw : Raw MmioRegisters} → Second w raw
      → Related (record w { devices = record w.devices { con = record w.devices.con { accepted = features } } }) (stored DriverFeatures (high_half features) raw) (accepted_record known features)
  store_high {w = w} {raw = raw} h =
      let a : ℕ = raw.devices.con.status.accepted in
      let is = word_stored raw 1 (high_half features) (status_is raw known.con.accepted h.half.related) h.select in
      subst (λ (raw : Raw MmioRegisters). Related (record w { devices = record w.devices { con = record w.devices.con { accepted = features } } }) raw (accepted_record known features)) (sym is)
      (accepted raw (with_word a 1 (high_half features)) (both_words a features h.half.low) h.half.related)

  accepts_safe : refusal_by known (Accept Con features) ≡ None → {n : ℕ} {w v : World} {answer : ReplyValue} {raw : Raw MmioRegisters} → Related w raw known
      → Safe mmio (Accept Con features) (Ends mmio Related) (accept_lowering known Con features) n w v answer raw
  accepts_safe allowed h =
      safe_store DriverFeaturesSel 0 (At known) (related_kept known) h
      (λ n w v raw h. safe_store DriverFeatures (low_half features) First first_kept (record { related = page_changed (selecting_driver raw.registers.con 0) refl refl h; select = refl })
      (λ n w v raw h. safe_store DriverFeaturesSel 1 Half half_kept (store_low h)
      (λ n w v raw h. safe_store DriverFeatures (high_half features) Second second_kept (select_second h)
      (λ n w v raw h. safe_mark_as (allowed_at (Accept Con features) refl h.half.related allowed) (safe_ended (related_kept (accepted_record known features)) refl (store_high h))))))

pub accept_safe : (known : DriverRecord) (features : ℕ) → refusal_by known (Accept Con features) ≡ None → {n : ℕ} {w v : World} {answer : ReplyValue} {raw : Raw MmioRegisters} → Related w raw known
    → Safe mmio (Accept Con features) (Ends mmio Related) (accept_lowering known Con features) n w v answer raw
accept_safe known features allowed h =
    let (ready, end) = none_holds ((not (known.con.status == DRIVEN), why.State) ∷ []) allowed in
    accepts_safe known features (eqb-true known.con.status DRIVEN (not-false (known.con.status == DRIVEN) ready)) allowed h
