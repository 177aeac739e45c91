-- What a program gives over a machine is its trace.
use Rattle.std.proofs.Common.{◌≡◌, ℕ, ◌+◌, ◌-◌, ◌^◌, ◌≤◌, nat_le, Bool, true, false, if◌then◌else◌, List, [], ◌∷◌, ◌++◌, length, refl, sym, ap, subst, ◌∙◌, arith, append_assoc, append-nil}
use Rattle.vt_types.specs.declared.operation.EventAt.{EventAt}
use Rattle.vt_types.specs.declared.access.Answer.{Answer}
use Rattle.vt_types.specs.Access.{AccessValue, Put, Get}
use Rattle.vt_types.specs.Program.{Program, Do, Mark, End, CountsAtMost, Gives, got}
use Rattle.report_text.specs.Access.{longest_access_line}
use Rattle.report_text.specs.Text.{LINE_SPARE}
use Rattle.dev_core.specs.Bus.{BusTable}
use Rattle.vt_machine.specs.Happens.{Happens}
use Rattle.vt_machine.specs.IsTraced.{IsTraced}
use Rattle.vt_machine.specs.Machine.{MachineView, MachineStep, MachineMark, counted, happening_lines, longest_lines}
use Rattle.vt_machine.specs.Trace.{Trace, Happening, Accessed, due, later, occurred, raw_events, trace_from}
use Rattle.vt_machine.proofs.LineLaws.{happening_lines-append, lines_join}

-- the greatest count
abbrev pub GREATEST_COUNT : ℕ
GREATEST_COUNT = 2 ^ 32 - 1

-- the trace of a program from a machine
abbrev pub trace_at : {R X : Type 0} → BusTable R → Program X → MachineView R → Trace R X
trace_at bus program m = trace_from bus program m.raw m.left m.count m.happened m.place

-- an access has a line
some_line : (a : AccessValue) → 1 ≤ longest_access_line a
some_line (Put addr bytes) = omega arith
some_line (Get addr count) = omega arith
some_line _ = omega arith

-- one event is in either of two lists
either_part : (b : Bool) (e : EventAt) (now after es : List EventAt) → length now + length after ≡ length es
    → length (if b then e ∷ now else []) + length (if b then after else e ∷ es) ≡ length (e ∷ es)
either_part true e now after es h = omega arith
either_part false e now after es h = omega arith

-- events are due or later
due_later : (count : ℕ) (es : List EventAt) → length (due count es) + length (later count es) ≡ length es
due_later count [] = refl
due_later count (e ∷ es) = either_part (nat_le e.gap count) e (due count es) (later count es) es (due_later count es)

counted_below : (n most : ℕ) → 1 ≤ most → n + most ≤ GREATEST_COUNT → counted n ≡ n + 1
counted_below n most some few = omega arith

-- a machine has spare bytes for the lines of its events, of accesses with so long ones, and for one line more
record HasLines {R : Type 0} (m : MachineView R) (most : ℕ) : Type 0 where
  lines : most + longest_lines m.left + LINE_SPARE ≤ m.line_spare
  count : m.count + most ≤ GREATEST_COUNT

-- what a program gave, where the events that are left did not happen yet: the same with them, and what happened so far
record Gave {R X : Type 0} (bus : BusTable R) (t : Trace R X) (x : X) (old new : MachineView R) : Type 0 where
  result : t.result ≡ x
  raw : t.raw ≡ raw_events bus new.raw new.left
  count : t.count ≡ new.count
  place : t.place ≡ new.place
  happened : List Happening
  happenings : t.happenings ≡ happened ++ occurred new.left
  lines : new.lines ≡ old.lines ++ happening_lines happened
  spare : longest_lines new.left + LINE_SPARE ≤ new.line_spare
  disk : new.disk ≡ old.disk

-- lines behind others
lines_more : (old mid new : List ℕ) (xs ys : List Happening) → mid ≡ old ++ happening_lines xs → new ≡ mid ++ happening_lines ys → new ≡ old ++ happening_lines (xs ++ ys)
lines_more old mid new xs ys first second =
    second ∙ ap (λ z. z ++ happening_lines ys) first ∙ append_assoc old (happening_lines xs) (happening_lines ys) ∙ ap (λ z. old ++ z) (sym (happening_lines-append xs ys))

module _ {R : Type 0} (bus : BusTable R) where
  -- what a step leaves spare
  step_fits : (a : AccessValue) (answer : Answer) (room room2 : List ℕ) (m mid : MachineView R) (most : ℕ) → MachineStep bus m a answer room room2 mid → longest_access_line a ≤ most
      → HasLines m most → (mid.lines ≡ m.lines ++ happening_lines (occurred (due m.count m.left) ++ Accessed a answer (got answer room2) ∷ [])) × HasLines mid (most - longest_access_line a) × (mid.count ≡ m.count + 1)
  step_fits a answer room room2 m mid most s few fits =
      let split = due_later m.count m.left in
      let left : length mid.left ≡ length (later m.count m.left) = ap length s.left in
      let some = some_line a in
      let count : mid.count ≡ m.count + 1 = s.count ∙ counted_below m.count most (omega (arith, some, few)) fits.count in
      let joined = lines_join m mid (occurred (due m.count m.left) ++ Accessed a answer (got answer room2) ∷ []) s.lines (omega (arith, split, s.short, few, fits.lines)) in
      (joined.0, record { lines = omega (arith, split, left, s.short, few, fits.lines, joined.1); count = omega (arith, count, few, some, fits.count) }, count)

  gave : {X : Type 0} (program : Program X) (m m2 : MachineView R) (x : X) (most : ℕ) → CountsAtMost longest_access_line program most → HasLines m most
      → Gives (MachineStep bus) MachineMark program m x m2 → Gave bus (trace_at bus program m) x m m2
  gave (Do a rest) m m2 x most (first, others) fits (answer, room, room2, mid, s, gives) =
      let now = due m.count m.left in
      let bytes = got answer room2 in
      let did_now = occurred now ++ Accessed a answer bytes ∷ [] in
      let (joined, fit, count) = step_fits a answer room room2 m mid most s first fits in
      let same : trace_at bus (rest answer bytes) mid ≡ trace_from bus (rest answer bytes) mid.raw (later m.count m.left) (m.count + 1) (m.happened + length now) m.place =
      rw (s.left, count, s.happened, s.place) refl in
      let tail = subst (λ t. Gave bus t x mid m2) same (gave (rest answer bytes) mid m2 x (most - longest_access_line a) (others answer bytes) fit gives) in
      rw s.table (
      record {
        result = tail.result;
        raw = tail.raw;
        count = tail.count;
        place = tail.place;
        happened = did_now ++ tail.happened;
        happenings = ap (λ hs. did_now ++ hs) tail.happenings ∙ sym (append_assoc did_now tail.happened (occurred m2.left));
        lines = lines_more m.lines mid.lines m2.lines did_now tail.happened joined tail.lines;
        spare = tail.spare;
        disk = tail.disk ∙ s.disk;
      }
      )
  gave (Mark rest) m m2 x most bound fits (mid, marked, gives) =
      let m1 : MachineView R = record m { place = m.happened } in
      let fits1 : HasLines m1 most = record { lines = fits.lines; count = fits.count } in
      let tail = gave rest m1 m2 x most bound fits1 (subst (λ z. Gives (MachineStep bus) MachineMark rest z x m2) marked gives) in
      record {
        result = tail.result;
        raw = tail.raw;
        count = tail.count;
        place = tail.place;
        happened = tail.happened;
        happenings = tail.happenings;
        lines = tail.lines;
        spare = tail.spare;
        disk = tail.disk;
      }
  gave (End y) m m2 x most bound fits (is, same) = record {
    result = sym is;
    raw = ap (λ (p : MachineView R). raw_events bus p.raw p.left) (sym same);
    count = ap (λ (p : MachineView R). p.count) (sym same);
    place = ap (λ (p : MachineView R). p.place) (sym same);
    happened = [];
    happenings = ap (λ (p : MachineView R). occurred p.left) (sym same);
    lines = ap (λ (p : MachineView R). p.lines) same ∙ sym (append-nil m.lines);
    spare = rw same (omega (arith, fits.lines));
    disk = ap (λ (p : MachineView R). p.disk) same;
  }

  -- a program, and then the events that are left
  traced : {X : Type 0} (program : Program X) (m m2 m3 : MachineView R) (x : X) (most : ℕ) → CountsAtMost longest_access_line program most → HasLines m most
      → Gives (MachineStep bus) MachineMark program m x m2 → Happens bus m2.left [] m2 m3 → IsTraced (trace_at bus program m) x m m3
  traced program m m2 m3 x most bound fits gives last =
      let g = gave program m m2 x most bound fits gives in
      record {
        result = g.result;
        raw = g.raw ∙ sym last.raw;
        count = g.count ∙ sym last.count;
        place = g.place ∙ sym last.place;
        lines = rw g.happenings (lines_more m.lines m2.lines m3.lines g.happened (occurred m2.left) g.lines (lines_join m2 m3 (occurred m2.left) last.lines (omega (arith, g.spare, last.short))).0);
        disk = last.disk ∙ g.disk;
      }

  -- an operation from its start
  pub operation_traced : {X : Type 0} (program : Program X) (events : List EventAt) (before m m2 m3 : MachineView R) (x : X) (most : ℕ)
      → m ≡ record before { left = events; count = 0; happened = 0; place = 0; lines = [] } → CountsAtMost longest_access_line program most
      → most + longest_lines events + LINE_SPARE ≤ before.line_spare → most ≤ GREATEST_COUNT
      → Gives (MachineStep bus) MachineMark program m x m2 → Happens bus m2.left [] m2 m3 → IsTraced (trace_from bus program before.raw events 0 0 0) x m m3
  operation_traced program events before m m2 m3 x most begun bound spare few gives last =
      let same : trace_at bus program m ≡ trace_from bus program before.raw events 0 0 0 = rw begun refl in
      let fits : HasLines m most = record { lines = rw begun spare; count = rw begun (omega arith) } in
      subst (λ t. IsTraced t x m m3) same (traced program m m2 m3 x most bound fits gives last)
