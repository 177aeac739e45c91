use Rattle.std.specs.Prelude.{◌≡◌, ℕ, List, [], ◌∷◌, ◌++◌}
use Rattle.byteorder.specs.Endian.{little_bytes}
use Rattle.vt_types.specs.declared.access.Answer.{Answer}
use Rattle.vt_types.specs.declared.device.Dev.{Dev}
use Rattle.vt_types.specs.declared.operation.Field.{Field}
use Rattle.vt_types.specs.Access.{AccessValue, Load, Store, Zero}
use Rattle.vt_types.specs.Device.{queue_block}
use Rattle.vt_types.specs.Program.{Program, Do, Mark, End, Gives}
use Rattle.vt_layout.specs.declared.register.MmioRegister.{MmioRegister}
use Rattle.vt_layout.specs.declared.register.MmioRegister.TheVariants.{QueueSel, QueueNumMax, QueueNum, QueueReady}
use Rattle.vt_layout.specs.declared.fields.ConfigPart.{ConfigPart}
use Rattle.vt_layout.specs.Mmio.{config_address, register_address}
use Rattle.vq_common.specs.declared.chain.RingCfg.{RingCfg}
use Rattle.vt_layout.specs.QueueBlock.{QUEUE_AREAS}
use Rattle.drv_core.specs.Driver.{Ended}
use Rattle.drv_mmio.specs.Lowering.{config_round, high_half, load, low_half, number_of, store, store_areas}

-- what the parts of the driver do over a port's step

-- a load of so many bytes is answered with this number
abbrev pub LoadsAt : {P : Type 0} → (P → AccessValue → Answer → List ℕ → List ℕ → P → Type 0) → ℕ → ℕ → P → ℕ → P → Type 0
LoadsAt step addr width p x p2 =
    (answer : Answer) × (room : List ℕ) × (room2 : List ℕ) × step p (Load addr width) answer room room2 p2 × (x ≡ number_of width answer)

-- a number is stored in so many bytes
abbrev pub StoresAt : {P : Type 0} → (P → AccessValue → Answer → List ℕ → List ℕ → P → Type 0) → ℕ → ℕ → ℕ → P → P → Type 0
StoresAt step addr width value p p2 = (answer : Answer) × (room : List ℕ) × (room2 : List ℕ) × step p (Store addr width value) answer room room2 p2

-- the same of a register
abbrev pub Loads : {P : Type 0} → (P → AccessValue → Answer → List ℕ → List ℕ → P → Type 0) → Dev → MmioRegister → P → ℕ → P → Type 0
Loads step dev r p x p2 = LoadsAt step (register_address dev r) 4 p x p2

abbrev pub Stores : {P : Type 0} → (P → AccessValue → Answer → List ℕ → List ℕ → P → Type 0) → Dev → MmioRegister → ℕ → P → P → Type 0
Stores step dev r value p p2 = StoresAt step (register_address dev r) 4 value p p2

-- an address is stored in two registers, its low half first
abbrev pub StoresAddress : {P : Type 0} → (P → AccessValue → Answer → List ℕ → List ℕ → P → Type 0) → Dev → MmioRegister → MmioRegister → ℕ → P → P → Type 0
StoresAddress {P} step dev low high addr p p2 = (mid : P) × Stores step dev low (low_half addr) p mid × Stores step dev high (high_half addr) mid p2

-- the areas of a queue are cleared
abbrev pub ClearsAreas : {P : Type 0} → (P → AccessValue → Answer → List ℕ → List ℕ → P → Type 0) → Dev → ℕ → P → P → Type 0
ClearsAreas step dev n p p2 =
    (answer : Answer) × (room : List ℕ) × (room2 : List ℕ) × step p (Zero (queue_block dev n) QUEUE_AREAS) answer room room2 p2

-- the locations of the areas of a ring are stored, whatever follows
pub record StoresAreas {P : Type 0} (step : P → AccessValue → Answer → List ℕ → List ℕ → P → Type 0) (marking : P → P → Type 0) (dev : Dev) (cfg : RingCfg) (p p2 : P) : Type 0 where
  pub gives : (next : Program Ended) (end : Ended) (p3 : P) → Gives step marking next p2 end p3 → Gives step marking (store_areas dev cfg next) p end p3

-- the areas of a queue are cleared, it is selected and described, and then it is set
abbrev pub describe_queue : Dev → ℕ → RingCfg → Program Ended → Program Ended
describe_queue dev n cfg next =
    Do (Zero (queue_block dev n) QUEUE_AREAS) (λ _ _. store dev QueueSel n (load dev QueueReady (λ _. load dev QueueNumMax (λ _. store dev QueueNum cfg.size
    (store_areas dev cfg (store dev QueueReady 1 (Mark next)))))))

pub record Describes {P : Type 0} (step : P → AccessValue → Answer → List ℕ → List ℕ → P → Type 0) (marking : P → P → Type 0) (dev : Dev) (n : ℕ) (cfg : RingCfg) (p p2 : P) : Type 0 where
  pub gives : (end : Ended) → Gives step marking (describe_queue dev n cfg (End end)) p end p2

-- parts of the configuration are loaded in order, and have these bytes
abbrev pub LoadsParts : {P : Type 0} → (P → AccessValue → Answer → List ℕ → List ℕ → P → Type 0) → Dev → List ConfigPart → P → List ℕ → P → Type 0
LoadsParts step dev [] p bytes p2 = (bytes ≡ []) × (p2 ≡ p)
LoadsParts {P} step dev (c ∷ cs) p bytes p2 =
    (x : ℕ) × (mid : P) × (rest : List ℕ) × LoadsAt step (config_address dev c.off) c.width p x mid × (bytes ≡ little_bytes c.width x ++ rest) × LoadsParts step dev cs mid rest p2

-- a round of a field is made, whatever follows
pub record MakesRound {P : Type 0} (step : P → AccessValue → Answer → List ℕ → List ℕ → P → Type 0) (marking : P → P → Type 0) (dev : Dev) (field : Field) (p : P) (before : ℕ) (bytes : List ℕ) (after : ℕ) (p2 : P) : Type 0 where
  pub gives : (next : ℕ → List ℕ → ℕ → Program Ended) (end : Ended) (p3 : P) → Gives step marking (next before bytes after) p2 end p3
      → Gives step marking (config_round dev field next) p end p3
