-- A step of the machine: the events that are due, and then an access.
use Rattle.std.proofs.Common.{◌≡◌, ℕ, ◌≤◌, Bool, true, false, if◌then◌else◌, List, [], ◌∷◌, length, refl, sym, ap, ◌∙◌, arith}
use Rattle.vt_types.specs.declared.access.Answer.{Answer}
use Rattle.vt_types.specs.Access.{AccessValue, Load, Store, Put, Get, Zero, Swap, CfgLoad, CfgStore, Ssch, Tsch, Stsch, Msch, Csch, TurnOf, Diag}
use Rattle.vt_types.specs.Program.{got}
use Rattle.report_text.specs.Access.{access_line, brings_bytes, longest_access_line}
use Rattle.dev_core.specs.Bus.{BusTable, Raw, RawStep, raw_access}
use Rattle.vt_machine.specs.Happens.{Happens}
use Rattle.vt_machine.specs.Lines.{joined}
use Rattle.vt_machine.specs.Machine.{MachineView, MachineStep, counted, lines_of}
use Rattle.vt_machine.specs.Trace.{Accessed, due, later, occurred}
use Rattle.vt_machine.proofs.LineLaws.{joined_lines-append, length-happening_line, length-happening_lines}

-- no bytes come with either of two answers
neither : {M : Type 0} (b : Bool) (x y : Answer × List ℕ × M) → x.1 ≡ [] → y.1 ≡ [] → (if b then x else y).1 ≡ []
neither true x y h k = h
neither false x y h k = k

-- bytes come with a get alone
pub no_bytes : {R : Type 0} (bus : BusTable R) (a : AccessValue) (raw : Raw R) → brings_bytes a ≡ false → (raw_access bus a raw).1 ≡ []
no_bytes bus (Load addr width) raw h = refl
no_bytes bus (Store addr width value) raw h = refl
no_bytes bus (Put addr bytes) raw h = neither _ _ _ refl refl
no_bytes bus (Get addr count) raw h = cc
no_bytes bus (Zero addr count) raw h = neither _ _ _ refl refl
no_bytes bus (Swap addr value) raw h = neither _ _ _ refl refl
no_bytes bus (CfgLoad func off width) raw h = refl
no_bytes bus (CfgStore func off width value) raw h = refl
no_bytes bus (Ssch id addr) raw h = refl
no_bytes bus (Tsch id addr) raw h = refl
no_bytes bus (Stsch id addr) raw h = refl
no_bytes bus (Msch id addr) raw h = refl
no_bytes bus (Csch id) raw h = refl
no_bytes bus (TurnOf id) raw h = refl
no_bytes bus (Diag func id value cookie) raw h = refl

-- also with a step
pub no_bytes_of_step : {R : Type 0} (bus : BusTable R) (old new : Raw R) (a : AccessValue) (answer : Answer) (room room2 : List ℕ)
    → RawStep bus old a answer room room2 new → brings_bytes a ≡ false → got answer room2 ≡ []
no_bytes_of_step {R} bus old new a answer room room2 s h = ap (λ (did : Answer × List ℕ × Raw R). did.1) (sym s.table) ∙ no_bytes bus a old h

-- the events that are due happen, and then an access with its line
pub machine_step : {R : Type 0} (bus : BusTable R) (old mid new : MachineView R) (a : AccessValue) (answer : Answer) (room room2 : List ℕ)
    → Happens bus (due old.count old.left) (later old.count old.left) old mid → RawStep bus mid.raw a answer room room2 new.raw
    → new ≡ record mid { raw = new.raw; count = counted mid.count; lines = new.lines; line_spare = new.line_spare; spare = new.spare; pages = new.pages }
    → lines_of new ≡ joined (lines_of mid) (access_line a answer (got answer room2)) → length (access_line a answer (got answer room2)) ≤ longest_access_line a → MachineStep bus old a answer room room2 new
machine_step {R} bus old mid new a answer room room2 h s same line short = record {
  table = rw h.raw at s.table;
  leaves = s.leaves;
  left = ap (λ (m : MachineView R). m.left) same ∙ h.left;
  count = ap (λ (m : MachineView R). m.count) same ∙ ap counted h.count;
  happened = ap (λ (m : MachineView R). m.happened) same ∙ h.happened;
  place = ap (λ (m : MachineView R). m.place) same ∙ h.place;
  lines =
      line ∙ ap (λ l. joined l (access_line a answer (got answer room2))) h.lines
      ∙ sym (joined_lines-append (lines_of old) (occurred (due old.count old.left)) (Accessed a answer (got answer room2) ∷ []));
  short = omega (arith, length-happening_lines (occurred (due old.count old.left)) (Accessed a answer (got answer room2) ∷ []), length-happening_line (Accessed a answer (got answer room2)), h.short, short);
  disk = ap (λ (m : MachineView R). m.disk) same ∙ h.disk;
}
