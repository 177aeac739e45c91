use Rattle.std.proofs.Common.{◌≡◌, ℕ, suc, ◌+◌, ◌≤◌, List, [], ◌∷◌, ◌++◌, All, length, map, sum, take, drop, get_or, sym, subst, arith, rules, add-one, drop-cons}
use Rattle.std.proofs.lemmas.List.Sums.{sum_by-cons}
use Rattle.vt_layout.specs.declared.fields.ConfigPart.{ConfigPart}
use Rattle.vt_layout.specs.Fields.{IsPart}
use Rattle.drv_mmio.specs.Calls.{LoadsParts}
use Rattle.drv_mmio.proofs.AccessLaws.{parts_more, room_left, take_one_more}
use Rattle.drv_mmio.proofs.config.load_parts.Goals as goal

pub parts-preserved : goal.parts-preserved
parts-preserved g c =
    let i : ℕ = c.parts.part-index in
    let parts : List ConfigPart = c.args.parts.now in
    let none : ConfigPart = record { off = 0; width = 0 } in
    let part : ConfigPart = get_or parts i none in
    let left : drop i parts ≡ part ∷ drop (i + 1) parts = rw add-one (drop-cons parts i none c.parts-test.true) in
    let done : take (i + 1) parts ≡ take i parts ++ part ∷ [] = take_one_more parts i none c.parts-test.true in
    let each : All IsPart (part ∷ drop (i + 1) parts) = subst (λ (ps : List ConfigPart). All IsPart ps) left c.parts.invariant.each in
    let few : length c.parts.bytes.items + sum (map (λ (p : ConfigPart). p.width) (part ∷ drop (i + 1) parts)) ≤ 8
    = subst (λ (ps : List ConfigPart). length c.parts.bytes.items + sum (map (λ (p : ConfigPart). p.width) ps) ≤ 8) left c.parts.invariant.few
    in
    let widths : List ℕ = map (λ (p : ConfigPart). p.width) (drop (i + 1) parts) in
    let split : length c.parts.bytes.items + (part.width + sum widths) ≤ 8
    = subst (λ (n : ℕ). length c.parts.bytes.items + n ≤ 8) (sum_by-cons (λ (x : ℕ). x) part.width widths) few
    in
    record {
      credit = search rules;
      each = λ k d below. each (suc k) d (omega (arith, below));
      few = room_left (length c.parts.bytes.items) (length c.add_number.new.bytes.items) part.width (sum widths) c.add_number.ensures.long split;
      loads = subst (λ (ps : List ConfigPart). LoadsParts g.P.Port.step c.args.dev ps c.args.port.now c.add_number.new.bytes.items c.load_part-number.new.port) (sym done)
          (subst (λ (bytes : List ℕ). LoadsParts g.P.Port.step c.args.dev (take i parts ++ part ∷ []) c.args.port.now bytes c.load_part-number.new.port) (sym c.add_number.ensures.bytes)
          (parts_more g.P.Port.step g.P.Port.marking c.args.dev (take i parts) part c.args.port.now c.parts.port c.load_part-number.new.port c.parts.bytes.items c.load_part-number.result c.parts.invariant.loads c.load_part-number.ensures.loads));
    }
