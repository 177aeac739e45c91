-- Events of an operation that happen one after the other.
use Rattle.std.proofs.Common.{◌≡◌, ℕ, ◌==◌, true, false, List, [], ◌∷◌, drop, length, refl, sym, ap, ◌∙◌, arith}
use Rattle.std.proofs.lemmas.Bool.Decides.{nat_tests}
use Rattle.vt_types.specs.declared.operation.EventAt.{EventAt}
use Rattle.vt_types.specs.Events.{event_at}
use Rattle.dev_core.specs.Bus.{BusTable}
use Rattle.vt_machine.specs.Happens.{Happens}
use Rattle.vt_machine.specs.Machine.{MachineView, joined_lines}
use Rattle.vt_machine.specs.OperationEvents.{is_due}
use Rattle.vt_machine.specs.Trace.{due, later, occurred, raw_events}
use Rattle.vt_machine.proofs.LineLaws.{length-happening_lines}

-- where the first event is due, it is the first of those that are
first_due : (count : ℕ) (es : List EventAt) → is_due count es ≡ true → (due count es ≡ event_at es 0 ∷ due count (drop 1 es)) × (later count es ≡ later count (drop 1 es))
first_due count [] h = cc
first_due count (e ∷ es) h = rw h (refl, refl)

-- where the first event is not due, none is
none_due : (count : ℕ) (es : List EventAt) → is_due count es ≡ false → (due count es ≡ []) × (later count es ≡ es)
none_due count [] h = (refl, refl)
none_due count (e ∷ es) h = rw h (refl, refl)

-- of events whose number is 0 none is left
none_left : (es : List EventAt) → (length es == 0) ≡ true → es ≡ []
none_left [] h = refl
none_left (e ∷ es) h = grind (arith, nat_tests)

-- What was to happen at first is what happened so far and what is to happen now: `now` says of a machine what is to happen, and
-- `rest` what is left then.
pub record Leads {R : Type 0} (bus : BusTable R) (now rest : MachineView R → List EventAt) (old mid : MachineView R) : Type 0 where
  pub leads : (new : MachineView R) → Happens bus (now mid) (rest mid) mid new → Happens bus (now old) (rest old) old new

-- the events that are due and the later ones; those that are left and none
abbrev pub due_of : {R : Type 0} → MachineView R → List EventAt
due_of m = due m.count m.left

abbrev pub later_of : {R : Type 0} → MachineView R → List EventAt
later_of m = later m.count m.left

abbrev pub left_of : {R : Type 0} → MachineView R → List EventAt
left_of m = m.left

abbrev pub none_of : {R : Type 0} → MachineView R → List EventAt
none_of m = []

module _ {R : Type 0} (bus : BusTable R) where
  -- one event happens, and then others
  pub happens_first : (e : EventAt) (es more rest : List EventAt) (a b c : MachineView R) → Happens bus (e ∷ []) more a b → Happens bus es rest b c → Happens bus (e ∷ es) rest a c
  happens_first e es more rest a b c h k = record {
    parts = h.parts ∙ ap (λ l. e ∷ l) (sym h.left ∙ k.parts);
    left = k.left;
    raw = k.raw ∙ ap (λ r. raw_events bus r es) h.raw;
    count = k.count ∙ h.count;
    happened = omega arith;
    place = k.place ∙ h.place;
    lines = k.lines ∙ ap (λ l. joined_lines l (occurred es)) h.lines;
    short = omega (arith, length-happening_lines (occurred (e ∷ [])) (occurred es), h.short, k.short);
    spare = omega arith;
    pages = omega arith;
    disk = k.disk ∙ h.disk;
  }

  -- one event more happened
  leads_more : (now rest : MachineView R → List EventAt) (e : EventAt) (more : List EventAt) (old mid mid2 : MachineView R) → now mid ≡ e ∷ now mid2 → rest mid ≡ rest mid2
      → Happens bus (e ∷ []) more mid mid2 → Leads bus now rest old mid → Leads bus now rest old mid2
  leads_more now rest e more old mid mid2 first same h lead =
      record { leads = λ new k. lead.leads new (rw (first, same) (happens_first e (now mid2) more (rest mid2) mid mid2 new h k)) }

  -- where events that are due happen
  pub leads_due : (old mid mid2 : MachineView R) → is_due mid.count mid.left ≡ true → Happens bus (event_at mid.left 0 ∷ []) (drop 1 mid.left) mid mid2
      → Leads bus due_of later_of old mid → Leads bus due_of later_of old mid2
  leads_due old mid mid2 is h =
      let first = first_due mid.count mid.left is in
      leads_more due_of later_of (event_at mid.left 0) (drop 1 mid.left) old mid mid2 (rw (h.left, h.count) first.0) (rw (h.left, h.count) first.1) h

  -- where all happen that are left
  pub leads_left : (old mid mid2 : MachineView R) → Happens bus (event_at mid.left 0 ∷ []) (drop 1 mid.left) mid mid2
      → Leads bus left_of none_of old mid → Leads bus left_of none_of old mid2
  leads_left old mid mid2 h =
      leads_more left_of none_of (event_at mid.left 0) (drop 1 mid.left) old mid mid2 (rw h.left h.parts) refl h

  -- nothing happens
  happens_none : (now rest : List EventAt) (m : MachineView R) → now ≡ [] → rest ≡ m.left → Happens bus now rest m m
  happens_none now rest m none same =
      rw (none, same) (
      record {
        parts = refl;
        left = refl;
        raw = refl;
        count = refl;
        happened = omega arith;
        place = refl;
        lines = refl;
        short = omega arith;
        spare = omega arith;
        pages = omega arith;
        disk = refl;
      }
      )

  -- all happened that were due
  pub all_due : (old mid : MachineView R) → is_due mid.count mid.left ≡ false → Leads bus due_of later_of old mid → Happens bus (due_of old) (later_of old) old mid
  all_due old mid is lead =
      let (none, same) = none_due mid.count mid.left is in
      lead.leads mid (happens_none _ _ mid none same)

  -- all happened that were left
  pub all_left : (old mid : MachineView R) → (length mid.left == 0) ≡ true → Leads bus left_of none_of old mid → Happens bus old.left [] old mid
  all_left old mid is lead =
      let none = none_left mid.left is in
      lead.leads mid (happens_none _ _ mid none (sym none))
