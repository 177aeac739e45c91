use Rattle.std.proofs.Common.{◌≡◌, ℕ, ◌/◌, ◌%◌, ◌^◌, List, [], ◌∷◌, Bool, false, refl, ◌∙◌, subst, arith}
use Rattle.vq_common.specs.declared.chain.RingCfg.{RingCfg}
use Rattle.vt_layout.specs.declared.register.MmioRegister.TheVariants.{MagicValue, Version, DeviceId, DeviceFeatures, DeviceFeaturesSel, DriverFeatures, DriverFeaturesSel, QueueSel, QueueNumMax, QueueNum, QueueReady, Status, QueueDescLow, QueueDescHigh, QueueDriverLow, QueueDriverHigh, QueueDeviceLow, QueueDeviceHigh}
use Rattle.mmio_regs.specs.Page.{with_high, with_low}
use Rattle.monitor.specs.declared.exits.Exit.{Exit}
use Rattle.monitor.specs.declared.exits.Exit.TheVariants.{Load, Store}
use Rattle.monitor.specs.BringUp.{after, console_after, IsBroughtUp}
use Rattle.monitor.proofs.guest.bring_up.Goals as goal

-- the exits for a ring of eight descriptors, by the halves of the addresses of its areas
abbrev exits : ℕ → ℕ → ℕ → ℕ → ℕ → ℕ → List Exit
exits desc_low desc_high driver_low driver_high device_low device_high =
    Load MagicValue
    ∷ Load Version
    ∷ Load DeviceId
    ∷ Store Status 0
    ∷ Load Status
    ∷ Store Status 1
    ∷ Store Status 3
    ∷ Store DeviceFeaturesSel 1
    ∷ Load DeviceFeatures
    ∷ Store DriverFeaturesSel 1
    ∷ Store DriverFeatures 1
    ∷ Store Status 11
    ∷ Load Status
    ∷ Store QueueSel 1
    ∷ Load QueueReady
    ∷ Load QueueNumMax
    ∷ Store QueueNum 8
    ∷ Store QueueDescLow desc_low
    ∷ Store QueueDescHigh desc_high
    ∷ Store QueueDriverLow driver_low
    ∷ Store QueueDriverHigh driver_high
    ∷ Store QueueDeviceLow device_low
    ∷ Store QueueDeviceHigh device_high
    ∷ Store QueueReady 1
    ∷ Store Status 15
    ∷ []

abbrev cfg_at : ℕ → ℕ → ℕ → RingCfg
cfg_at desc driver device = record { desc = desc; driver = driver; device = device; size = 8; indirect = false; event_idx = false }

abbrev joined : ℕ → ℕ → ℕ
joined low high = with_high (with_low 0 low) high

-- the exits are answered one after the other, by computing
brought_up : (dl dh vl vh el eh : ℕ) (memory : List ℕ) → IsBroughtUp 1 (cfg_at (joined dl dh) (joined vl vh) (joined el eh)) (console_after (exits dl dh vl vh el eh) memory)
unfolding after
brought_up dl dh vl vh el eh memory = record { driven = refl; queue = refl }

halves_joined : (addr : ℕ) → joined (addr % 2 ^ 32) (addr / 2 ^ 32) ≡ addr
halves_joined addr = omega arith

same_cfg : (desc desc' driver driver' device device' size : ℕ) (indirect event_idx : Bool)
    → desc ≡ desc' → driver ≡ driver' → device ≡ device' → size ≡ 8 → indirect ≡ false → event_idx ≡ false
    → cfg_at desc driver device ≡ record { desc = desc'; driver = driver'; device = device'; size = size; indirect = indirect; event_idx = event_idx }
same_cfg desc desc' driver driver' device device' size indirect event_idx d v e s i x = cc

abbrev exits_for : RingCfg → List Exit
exits_for ring = exits (ring.desc % 2 ^ 32) (ring.desc / 2 ^ 32) (ring.driver % 2 ^ 32) (ring.driver / 2 ^ 32) (ring.device % 2 ^ 32) (ring.device / 2 ^ 32)

brings_up : (ring : RingCfg) (memory : List ℕ) → ring.size ≡ 8 → ring.indirect ≡ false → ring.event_idx ≡ false → IsBroughtUp 1 ring (console_after (exits_for ring) memory)
brings_up ring memory size direct unasked =
    let at : RingCfg → Type 0 = λ r. IsBroughtUp 1 r (console_after (exits_for ring) memory) in
    subst at (same_cfg _ _ _ _ _ _ ring.size ring.indirect ring.event_idx (halves_joined ring.desc) (halves_joined ring.driver) (halves_joined ring.device) size direct unasked) (brought_up _ _ _ _ _ _ memory)

pub returns : goal.returns
returns c = λ memory. rw (c.status.ensures, c.status-2.ensures, c.high.ensures, c.status-3.ensures, c.from.ensures, c.from-2.ensures ∙ c.requires.size, c.low.ensures, c.high-2.ensures, c.low-2.ensures, c.high-3.ensures, c.low-3.ensures, c.high-4.ensures, c.status-4.ensures) (brings_up c.args.ring.now memory c.requires.size c.requires.direct c.requires.unasked)
