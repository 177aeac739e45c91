-- Accesses, and what follows them.
use Rattle.std.proofs.Common.{◌≡◌, ℕ, zero, suc, ◌+◌, ◌<◌, ◌≤◌, List, [], ◌∷◌, ◌++◌, length, take, get_or, refl, sym, ◌∙◌, ap, subst, arith, add-one, append_assoc, append-nil}
use Rattle.byteorder.specs.Endian.{little_bytes}
use Rattle.vt_types.specs.declared.access.Answer.{Answer}
use Rattle.vt_types.specs.declared.device.Dev.{Dev}
use Rattle.vt_types.specs.Access.{AccessValue, Store}
use Rattle.vt_types.specs.Program.{Program, Gives}
use Rattle.vt_layout.specs.declared.register.MmioRegister.{MmioRegister}
use Rattle.vt_layout.specs.declared.fields.ConfigPart.{ConfigPart}
use Rattle.vt_layout.specs.Mmio.{config_address, register_address}
use Rattle.drv_core.specs.Driver.{Ended}
use Rattle.drv_mmio.specs.Calls.{Loads, LoadsAt, LoadsParts, Stores, StoresAddress}
use Rattle.drv_mmio.specs.Lowering.{load, load_parts, number_of, store, store_address}

-- one more item of a list
pub take_one_more : {X : Type 0} (xs : List X) (n : ℕ) (d : X) → n < length xs → take (n + 1) xs ≡ take n xs ++ get_or xs n d ∷ []
take_one_more [] n d below = absurd (omega arith)
take_one_more (x ∷ xs) zero d below = refl
take_one_more (x ∷ xs) (suc n) d below =
    let others : take (suc n) xs ≡ take n xs ++ get_or xs n d ∷ [] = subst (λ (m : ℕ). take m xs ≡ take n xs ++ get_or xs n d ∷ []) (add-one n) (take_one_more xs n d (omega arith)) in
    rw add-one (ap (λ ys. x ∷ ys) others)

-- bytes that are loaded leave so much less room
pub room_left : (before after width others : ℕ) → after ≡ before + width → before + (width + others) ≤ 8 → after + others ≤ 8
room_left before after width others all few = omega arith

module _ {P : Type 0} (step : P → AccessValue → Answer → List ℕ → List ℕ → P → Type 0) (marking : P → P → Type 0) where
  -- a load of a register, and then a program by its number
  pub load_then : {X : Type 0} (dev : Dev) (r : MmioRegister) (next : ℕ → Program X) (p mid p2 : P) (x : ℕ) (y : X)
      → Loads step dev r p x mid → Gives step marking (next x) mid y p2 → Gives step marking (load dev r next) p y p2
  load_then dev r next p mid p2 x y (answer, room, room2, s, is) after =
      (answer, room, room2, mid, s, subst (λ (n : ℕ). Gives step marking (next n) mid y p2) is after)

  -- a store of a register, whose number has another name, and then a program
  pub store_then : {X : Type 0} (dev : Dev) (r : MmioRegister) (value number : ℕ) (next : Program X) (p mid p2 : P) (y : X) → number ≡ value
      → Stores step dev r number p mid → Gives step marking next mid y p2 → Gives step marking (store dev r value next) p y p2
  store_then dev r value number next p mid p2 y same (answer, room, room2, s) after =
      (answer, room, room2, mid, subst (λ (n : ℕ). step p (Store (register_address dev r) 4 n) answer room room2 mid) same s, after)

  -- both stores of an address, and then a program
  pub address_then : (dev : Dev) (low high : MmioRegister) (addr : ℕ) (next : Program Ended) (p mid p2 : P) (y : Ended)
      → StoresAddress step dev low high addr p mid → Gives step marking next mid y p2 → Gives step marking (store_address dev low high addr next) p y p2
  address_then dev low high addr next p mid p2 y (between, (a1, r1, t1, s1), (a2, r2, t2, s2)) after =
      (a1, r1, t1, between, s1, (a2, r2, t2, mid, s2, after))

  -- loads of parts, and then a program by their bytes
  pub parts_then : (dev : Dev) (parts : List ConfigPart) (next : List ℕ → Program Ended) (p mid p2 : P) (bytes : List ℕ) (y : Ended)
      → LoadsParts step dev parts p bytes mid → Gives step marking (next bytes) mid y p2 → Gives step marking (load_parts dev parts next) p y p2
  parts_then dev [] next p mid p2 bytes y (none, stays) after =
      subst (λ (m : P). Gives step marking (next []) m y p2) stays (subst (λ (b : List ℕ). Gives step marking (next b) mid y p2) none after)
  parts_then dev (c ∷ cs) next p mid p2 bytes y (x, between, rest, (answer, room, room2, s, is), all, more) after =
      let first : ℕ → List ℕ = λ n. little_bytes c.width n in (
        answer,
        room,
        room2,
        between,
        s,
        parts_then dev cs (λ others. next (first (number_of c.width answer) ++ others)) between mid p2 rest y more
            (subst (λ (n : ℕ). Gives step marking (next (first n ++ rest)) mid y p2) is
            (subst (λ (b : List ℕ). Gives step marking (next b) mid y p2) all after)),
      )

  -- loads of parts, and of one more
  pub parts_more : (dev : Dev) (parts : List ConfigPart) (c : ConfigPart) (p mid p2 : P) (bytes : List ℕ) (x : ℕ)
      → LoadsParts step dev parts p bytes mid → LoadsAt step (config_address dev c.off) c.width mid x p2
      → LoadsParts step dev (parts ++ c ∷ []) p (bytes ++ little_bytes c.width x) p2
  parts_more dev [] c p mid p2 bytes x (none, stays) load =
      (x, p2, [], subst (λ (m : P). LoadsAt step (config_address dev c.off) c.width m x p2) stays load, ap (λ (b : List ℕ). b ++ little_bytes c.width x) none ∙ sym (append-nil (little_bytes c.width x)), (refl, refl))
  parts_more dev (d ∷ ds) c p mid p2 bytes x (y, between, rest, loaded, all, more) load =
      (y, between, rest ++ little_bytes c.width x, loaded, ap (λ (b : List ℕ). b ++ little_bytes c.width x) all ∙ append_assoc (little_bytes d.width y) rest (little_bytes c.width x), parts_more dev ds c between mid p2 rest x more load)
