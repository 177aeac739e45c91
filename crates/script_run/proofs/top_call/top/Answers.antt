use Rattle.std.proofs.Common.{map, refl, sym, ◌∙◌, ap, Some}
use Rattle.std.specs.Prelude.{string_bytes}
use Rattle.script_run.specs.declared.command.Command.{Command}
use Rattle.script_run.specs.declared.command.Command.TheVariants.{Run, Raw}
use Rattle.script_run.proofs.TopLaws.{headline_of_command}
use Rattle.script_run.proofs.top_call.top.Goals as goal

pub returns-in-Some-Run : goal.returns-in-Some-Run
returns-in-Some-Run g c =
    headline_of_command (map string_bytes c.args.words.now) (Run c.in-Some-Run.traces) _ _ _ _ _ _ _ _ _
    (sym c.command_of.ensures ∙ c.in-Some-Run.is ∙ ap (λ (x : Command). Some x) c.in-Some-Run.field-0-is) c.run_script.ensures.reports c.run_script.ensures.shows

pub returns-in-Some-Raw : goal.returns-in-Some-Raw
returns-in-Some-Raw g c =
    headline_of_command (map string_bytes c.args.words.now) Raw _ _ _ _ _ _ _ _ _
    (sym c.command_of.ensures ∙ c.in-Some-Raw.is ∙ ap (λ (x : Command). Some x) c.in-Some-Raw.field-0-is) c.run_raw.ensures refl
