-- Rounds of a field.
use Rattle.std.proofs.Common.{◌≡◌, ℕ, zero, suc, List, Bool, true, false, refl, sym, subst, arith}
use Rattle.std.specs.Prelude.{◌==◌, if◌then◌else◌}
use Rattle.std.proofs.lemmas.Bool.Decides.{nat_tests}
use Rattle.vt_types.specs.declared.access.Answer.{Answer}
use Rattle.vt_types.specs.declared.device.Dev.{Dev}
use Rattle.vt_types.specs.declared.operation.Field.{Field}
use Rattle.vt_types.specs.Access.{AccessValue}
use Rattle.vt_types.specs.Program.{Gives}
use Rattle.vt_types.specs.Reply.{Value}
use Rattle.vt_layout.specs.declared.register.MmioRegister.TheVariants.{ConfigGeneration}
use Rattle.vt_layout.specs.Fields.{field_parts}
use Rattle.drv_core.specs.Driver.{DriverRecord, Ended}
use Rattle.drv_mmio.specs.Calls.{Loads, LoadsParts, MakesRound}
use Rattle.drv_mmio.specs.Lowering.{load, load_parts, readcfg_lowering, value_read}
use Rattle.drv_mmio.proofs.AccessLaws.{load_then, parts_then}

module _ {P : Type 0} (step : P → AccessValue → Answer → List ℕ → List ℕ → P → Type 0) (marking : P → P → Type 0) where
  -- the loads of a round
  pub round_made : (dev : Dev) (field : Field) (p p1 p2 p3 : P) (before after : ℕ) (bytes : List ℕ)
      → Loads step dev ConfigGeneration p before p1 → LoadsParts step dev (field_parts field) p1 bytes p2 → Loads step dev ConfigGeneration p2 after p3
      → MakesRound step marking dev field p before bytes after p3
  round_made dev field p p1 p2 p3 before after bytes first parts second =
      record {
        gives = λ next end p4 more.
            load_then step marking dev ConfigGeneration (λ b. load_parts dev (field_parts field) (λ bs. load dev ConfigGeneration (λ a. next b bs a))) p p1 p4 before end first
            (parts_then step marking dev (field_parts field) (λ bs. load dev ConfigGeneration (λ a. next before bs a)) p1 p2 p4 bytes end parts
            (load_then step marking dev ConfigGeneration (λ a. next before bytes a) p2 p3 p4 after end second more));
      }

  module _ (known : DriverRecord) (dev : Dev) (field : Field) (p mid : P) (before after : ℕ) (bytes : List ℕ) (made : MakesRound step marking dev field p before bytes after mid) where
    -- the last round decides
    pub last : (p2 : P) → marking mid p2 → Gives step marking (readcfg_lowering known dev field zero) p (record { reply = Value bytes; known = known }) p2
    last p2 marked = made.gives (λ b bs a. value_read known bs) (record { reply = Value bytes; known = known }) p2 (p2, marked, (refl, refl))

    -- so does an earlier one, where the generation is the same before and after
    pub agrees : (n : ℕ) (p2 : P) → before ≡ after → marking mid p2 → Gives step marking (readcfg_lowering known dev field (suc n)) p (record { reply = Value bytes; known = known }) p2
    agrees n p2 same marked =
        let test : (before == after) ≡ true = grind (arith, nat_tests) in
        let end : Ended = record { reply = Value bytes; known = known } in
        made.gives (λ b bs a. if b == a then value_read known bs else readcfg_lowering known dev field n) end p2
        (subst (λ (t : Bool). Gives step marking (if t then value_read known bytes else readcfg_lowering known dev field n) mid end p2) (sym test) (p2, marked, (refl, refl)))

    -- else another follows
    pub differs : (n : ℕ) (end : Ended) (p2 : P) → (before ≡ after → ⊥) → Gives step marking (readcfg_lowering known dev field n) mid end p2
        → Gives step marking (readcfg_lowering known dev field (suc n)) p end p2
    differs n end p2 other more =
        let test : (before == after) ≡ false = grind (arith, nat_tests) in
        made.gives (λ b bs a. if b == a then value_read known bs else readcfg_lowering known dev field n) end p2
        (subst (λ (t : Bool). Gives step marking (if t then value_read known bytes else readcfg_lowering known dev field n) mid end p2) (sym test) more)
