use Rattle.std.proofs.Common.{Ok, Some, subst, sym}
use Rattle.std.specs.Option.{option_map}
use Rattle.interleaving.specs.BusDefinition.{driven}
use Rattle.line_runner.specs.Shows.{RunsLine}
use Rattle.script_text.specs.Line.{line_value}
use Rattle.driver_run.specs.DrivenScript.{line_does}
use Rattle.driver_run.specs.Represents.{Represents}
use Rattle.driver_run.specs.There.{if_there}
use Rattle.driver_run.proofs.driven_lines.DrivenLines.run_read.Goals as goal

pub returns-in-Event-clause-runs : goal.returns-in-Event-clause-runs
returns-in-Event-clause-runs g c = λ h represents.
    let does = line_does (driven g.M.Bus.Bus.table g.M.Driver.BusDriver.lowering g.M.Simulation.kind) in
    let after = c.run_event.new.self.runner in
    subst (λ line. RunsLine (option_map does (if_there (Some (line_value line)))) c.args.number h (Represents g.M.Simulation.related after.machine (g.M.Driver.BusDriver.known after.driver)) after.machine.lines after.text.bytes (Ok c.run_event.result))
    (sym c.in-Event.is) (c.run_event.ensures.runs c.args.number h represents)
