use Rattle.std.specs.Prelude.{◌≡◌, ℕ, ◌+◌, ◌*◌, ◌≤◌, List, ◌++◌, length}
use Rattle.vt_types.specs.declared.operation.EventAt.{EventAt}
use Rattle.vt_types.specs.Limits.{LONGEST_BUFFER}
use Rattle.vt_types.specs.Within.{AreEventsWithin}
use Rattle.dev_core.specs.Bus.{BusTable}
use Rattle.dev_core.specs.Pages.{PAGES_OF_EVENT}
use Rattle.vt_machine.specs.Lines.{LinesView}
use Rattle.vt_machine.specs.Machine.{MachineView, HasSpare, happening_lines, joined_lines, lines_of, longest_lines}
use Rattle.vt_machine.specs.OperationEvents.{OperationEventsView}
use Rattle.vt_machine.specs.RawMachine.{RawMachineView}
use Rattle.vt_machine.specs.Trace.{occurred, raw_events}

-- a machine of its parts: the raw machine, the events of the operation under way, its accesses so far, its place, and its lines
abbrev pub machine_view : {R : Type 0} → RawMachineView R → OperationEventsView → ℕ → ℕ → LinesView → MachineView R
machine_view m events count place lines = record {
  raw = m.raw;
  left = events.left;
  count = count;
  happened = events.happened;
  place = place;
  lines = lines.bytes;
  line_spare = lines.spare;
  spare = m.spare;
  pages = m.pages;
  disk = m.disk;
}

-- what holds of every machine: what the events that are left may take is spare, and they keep the bounds of a script
pub record IsReady {R : Type 0} (m : MachineView R) : Type 0 where
  pub spare : HasSpare m
  pub within : AreEventsWithin m.left

-- of the events that are left the first ones happen in order, with their lines, and the others are left
pub record Happens {R : Type 0} (bus : BusTable R) (now rest : List EventAt) (old new : MachineView R) : Type 0 where
  pub parts : old.left ≡ now ++ rest
  pub left : new.left ≡ rest
  pub raw : new.raw ≡ raw_events bus old.raw now
  pub count : new.count ≡ old.count
  pub happened : new.happened ≡ old.happened + length now
  pub place : new.place ≡ old.place
  pub lines : lines_of new ≡ joined_lines (lines_of old) (occurred now)
  pub short : length (happening_lines (occurred now)) ≤ longest_lines now
  pub spare : old.spare ≤ new.spare + length now * LONGEST_BUFFER
  pub pages : old.pages ≤ new.pages + length now * PAGES_OF_EVENT
  pub disk : new.disk ≡ old.disk
