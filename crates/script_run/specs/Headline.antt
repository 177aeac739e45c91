use Rattle.std.specs.Prelude.{◌≡◌, ℕ, ◌⊎◌, List, Option, Some, None}
use Rattle.vt_outside.specs.Faults.{Rose}
use Rattle.vt_outside.specs.Source.{SourceView}
use Rattle.vt_outside.specs.Sink.{SinkView, Adds}
use Rattle.vt_outside.specs.Disk.{DiskView}
use Rattle.report_out.specs.Answers.{AnswersInput, Stopped, Written}
use Rattle.report_out.specs.DiskCalls.{SameDisk}
use Rattle.script_run.specs.Command.{Watches, command_of, ending, reporting, traces_of}
use Rattle.script_run.specs.Usage.{usage}
use Rattle.script_run.specs.declared.command.Command.{Command}

-- where the words are not in the grammar: the usage line; the source is as before
pub record ShowsUsage (s s2 : SourceView) (d d2 : DiskView) (status : ℕ) (text : List ℕ) : Type 0 where
  pub answers : (status ≡ 2) ⊎ (status ≡ 5)
  pub writes : Written status text usage
  pub source : s2 ≡ s
  pub disk : d2 ≡ d

-- what holds of every call of `top`: from the words, the source, the sink, the disk and the watch as they were and as they
-- are then, to the status
pub record Headline (words : List (List ℕ)) (s s2 : SourceView) (k k2 : SinkView) (d d2 : DiskView) (w w2 : Option (List ℕ)) (status : ℕ) : Type 0 where
  -- the bytes that were written
  pub text : List ℕ
  pub written : Adds k.written k2.written text
  -- what the watch was shown, with and without the word `trace`: no line was written before its trace was shown whole
  pub watch : Watches (command_of words) s k k2 w w2 status
  -- the disk that comes back has the image, the size and the read-only flag of the one that went in
  pub disk : SameDisk d d2
  pub known : Stopped status ⊎ ((status ≡ 0) ⊎ ((status ≡ 2) ⊎ ((status ≡ 3) ⊎ (status ≡ 7))))
  -- 4 exactly where the source failed: a failure stops the run, and is answered as what it is
  pub source_failed : status ≡ 4 → Rose s.faults s2.faults
  pub source_stops : (s2.faults ≡ s.faults) ⊎ (status ≡ 4)
  -- and 5 where the sink failed
  pub sink_failed : status ≡ 5 → Rose k.faults k2.faults
  pub sink_stops : (k2.faults ≡ k.faults) ⊎ (status ≡ 5)
  -- 2 only where the words are not in the grammar
  pub only_usage : status ≡ 2 → command_of words ≡ None
  -- the bus headline: where the words are a command, what is written is what it reports on the input
  pub runs : (c : Command) → command_of words ≡ Some c → AnswersInput (reporting c) (traces_of c) (ending c) s s2 k k2 d d2 status text
  pub refuses : command_of words ≡ None → ShowsUsage s s2 d d2 status text
