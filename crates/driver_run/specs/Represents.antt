use Rattle.std.specs.Prelude.{◌≡◌, ◌+◌, ◌*◌, ◌≤◌, []}
use Rattle.vt_types.specs.Events.{MOST_EVENTS}
use Rattle.vt_types.specs.Limits.{GREATEST_COST, LONGEST_BUFFER}
use Rattle.report_text.specs.Text.{EVENT_SPARE, LINE_SPARE}
use Rattle.vt_machine.specs.Machine.{MachineView, PAGES_OF_LINE}
use Rattle.drv_core.specs.Driver.{DriverRecord}
use Rattle.vt_machine.specs.Lines.{LONGEST_TRACE}
use Rattle.interleaving.specs.Safe.{Relation}
use Rattle.driver_run.specs.DrivenScript.{Halves}

-- a machine, and what its driver keeps, are those of two related halves; no device that is there has sent a frame
pub record Represents {R : Type 0} (rel : Relation R) (machine : MachineView R) (kept : DriverRecord) (h : Halves R) : Type 0 where
  pub raw : machine.raw ≡ h.raw
  pub known : kept ≡ h.known
  pub related : rel h.world h.raw h.known
  pub sent : h.world.contents.network.sent ≡ []

-- a machine has what a line of a script may take, the accesses of its operation and the events of this one: spare bytes of
-- lines, and of the console, and spare pages
pub record IsReserved {R : Type 0} (m : MachineView R) : Type 0 where
  pub lines : LONGEST_TRACE + MOST_EVENTS * EVENT_SPARE + LINE_SPARE ≤ m.line_spare
  pub console : GREATEST_COST + MOST_EVENTS * LONGEST_BUFFER ≤ m.spare
  pub pages : PAGES_OF_LINE ≤ m.pages
