use Rattle.std.proofs.Common.{◌≡◌, ℕ, List, Option, Some, sym, ◌∙◌, subst, inl, inr}
use Rattle.std.specs.Prelude.{◌⊎◌}
use Rattle.std.proofs.lemmas.Option.{same_Some}
use Rattle.vt_outside.specs.Disk.{DiskView}
use Rattle.vt_outside.specs.Sink.{SinkView}
use Rattle.vt_outside.specs.Source.{SourceView}
use Rattle.report_out.specs.Answers.{AnswersInput, Stopped}
use Rattle.report_out.specs.Reports.{ReportsOn}
use Rattle.script_run.specs.Command.{Watches, command_of, ending, reporting, traces_of}
use Rattle.script_run.specs.Headline.{Headline}
use Rattle.script_run.specs.declared.command.Command.{Command}

-- a call that reports on an input is not answered 2
not_2 : (status : ℕ) → Stopped status ⊎ ((status ≡ 0) ⊎ ((status ≡ 3) ⊎ (status ≡ 7))) → status ≡ 2 → ⊥
not_2 status (inl (inl e)) two = cc
not_2 status (inl (inr (inl e))) two = cc
not_2 status (inl (inr (inr e))) two = cc
not_2 status (inr (inl e)) two = cc
not_2 status (inr (inr (inl e))) two = cc
not_2 status (inr (inr (inr e))) two = cc

known : (status : ℕ) → Stopped status ⊎ ((status ≡ 0) ⊎ ((status ≡ 3) ⊎ (status ≡ 7))) → Stopped status ⊎ ((status ≡ 0) ⊎ ((status ≡ 2) ⊎ ((status ≡ 3) ⊎ (status ≡ 7))))
known status (inl e) = inl e
known status (inr (inl e)) = inr (inl e)
known status (inr (inr e)) = inr (inr (inr e))

-- a command reported on its input
pub headline_of_command : (words : List (List ℕ)) (c : Command) (s s2 : SourceView) (k k2 : SinkView) (d d2 : DiskView) (w w2 : Option (List ℕ)) (status : ℕ)
    → command_of words ≡ Some c → ReportsOn (reporting c) (traces_of c) (ending c) s s2 k k2 d d2 status → Watches (Some c) s k k2 w w2 status
    → Headline words s s2 k k2 d d2 w w2 status
headline_of_command words c s s2 k k2 d d2 w w2 status is r watched = record {
  text = r.text;
  written = r.written;
  watch = subst (λ (x : Option Command). Watches x s k k2 w w2 status) (sym is) watched;
  disk = r.disk;
  known = known status r.known;
  source_failed = r.source_failed;
  source_stops = r.source_stops;
  sink_failed = r.sink_failed;
  sink_stops = r.sink_stops;
  only_usage = λ e. absurd (not_2 status r.known e);
  runs = λ other names. subst (λ (x : Command). AnswersInput (reporting x) (traces_of x) (ending x) s s2 k k2 d d2 status r.text) (same_Some c other (sym is ∙ names)) r.answers;
  refuses = λ no_command. cc;
}
