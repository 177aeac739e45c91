-- Both halves signal a used buffer, or neither.
use Rattle.std.proofs.Common.{◌≡◌, ℕ, ◌+◌, ◌*◌, ◌%◌, ◌^◌, ◌<◌, ◌≤◌, List, [], ◌∷◌, length, map, Bool, true, false, eqb, sym, ◌∙◌, ap, subst, arith}
use Rattle.std.specs.Prelude.{not, ◌==◌, if◌then◌else◌}
use Rattle.std.specs.Int.RustNames.{bit_and}
use Rattle.std.proofs.lemmas.Bool.{cond-true, cond-false, eq-eqb, ne_eqb}
use Rattle.byteorder.specs.Endian.{little_bytes}
use Rattle.guest_mem.specs.Memory.{le16_at}
use Rattle.vt_types.specs.Access.{AccessValue, Put}
use Rattle.vq_common.specs.declared.chain.RingCfg.{RingCfg}
use Rattle.vt_layout.specs.QueueBlock.{driver_area}
use Rattle.abstract_devices.specs.World.{SignalMode, Always, Never, First}
use Rattle.abstract_devices.specs.Serve.{signals}
use Rattle.memory_port.specs.Puts.{Hold}
use Rattle.ring_part.specs.Held.{UsedHeld, used_of}
use Rattle.ring_part.specs.RingPuts.{asks_put, is_first, flag_of}
use Rattle.ring_part.proofs.Facts.{le16_standing}

-- what the driver's area says, of a number of used elements
abbrev pub asked : List ℕ → RingCfg → ℕ → ℕ → Bool
asked mem cfg driver used =
    if cfg.event_idx then le16_at mem (driver + (4 + 2 * cfg.size)) == used else not (bit_and (le16_at mem driver) 1 == 1)

-- with EVENT_IDX used_event is the index before exactly where no used buffer stood
first_by : (mem : List ℕ) (location driver_used device_used : ℕ) (used : List UsedHeld) → driver_used < 2 ^ 16 → length used ≤ 1024 → device_used ≡ (driver_used + length used) % 2 ^ 16 → le16_at mem location ≡ driver_used
    → eqb (le16_at mem location) device_used ≡ signals First (map used_of used)
first_by mem location n k [] low few is read = eq-eqb (le16_at mem location) k (omega arith)
first_by mem location n k (u ∷ us) low few is read = ne_eqb (le16_at mem location) k (λ e. absurd (omega arith))

-- else the flags say whether to signal
flags_by : (mem : List ℕ) (cfg : RingCfg) (base n : ℕ) (mode : SignalMode) → cfg.event_idx ≡ false → Hold (asks_put cfg base mode n ∷ []) mem → flag_of mode < 2 ^ 16
    → not (bit_and (le16_at mem (driver_area base)) 1 == 1) ≡ not (bit_and (flag_of mode) 1 == 1)
flags_by mem cfg base n mode off holds low =
    let put : asks_put cfg base mode n ≡ Put (driver_area base) (little_bytes 2 (flag_of mode)) = cond-false cfg.event_idx _ _ off in
    let (is, none) : Hold (Put (driver_area base) (little_bytes 2 (flag_of mode)) ∷ []) mem = subst (λ (p : AccessValue). Hold (p ∷ []) mem) put holds in
    ap (λ k. not (bit_and k 1 == 1)) (le16_standing mem (driver_area base) (flag_of mode) low is)

-- the area asks for a signal exactly where the abstract rule does
pub asked_is : (mem : List ℕ) (cfg : RingCfg) (base driver_used device_used : ℕ) (mode : SignalMode) (used : List UsedHeld) → is_first mode ≡ cfg.event_idx → driver_used < 2 ^ 16 → length used ≤ 1024
    → device_used ≡ (driver_used + length used) % 2 ^ 16 → Hold (asks_put cfg base mode driver_used ∷ []) mem → asked mem cfg (driver_area base) device_used ≡ signals mode (map used_of used)
asked_is mem cfg base n k First used mode low few is holds =
    let on : cfg.event_idx ≡ true = sym mode in
    let location : ℕ = driver_area base + (4 + 2 * cfg.size) in
    let put : asks_put cfg base First n ≡ Put location (little_bytes 2 n) = cond-true cfg.event_idx _ _ on in
    let (reads, none) : Hold (Put location (little_bytes 2 n) ∷ []) mem = subst (λ (p : AccessValue). Hold (p ∷ []) mem) put holds in
    cond-true cfg.event_idx _ _ on ∙ first_by mem location n k used low few is (le16_standing mem location n low reads)
asked_is mem cfg base n k Always used mode low few is holds = cond-false cfg.event_idx _ _ (sym mode) ∙ flags_by mem cfg base n Always (sym mode) holds (omega arith)
asked_is mem cfg base n k Never used mode low few is holds = cond-false cfg.event_idx _ _ (sym mode) ∙ flags_by mem cfg base n Never (sym mode) holds (omega arith)
