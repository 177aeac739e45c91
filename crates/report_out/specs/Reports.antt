use Rattle.std.specs.Prelude.{◌≡◌, ℕ, ◌⊎◌, List, Bool}
use Rattle.vt_outside.specs.Faults.{Rose}
use Rattle.vt_outside.specs.Source.{SourceView}
use Rattle.vt_outside.specs.Sink.{SinkView, Adds}
use Rattle.vt_outside.specs.Disk.{DiskView}
use Rattle.report_out.specs.DiskCalls.{SameDisk}
use Rattle.report_out.specs.Answers.{Stopped, Reporting, AnswersInput}

-- a call that reports on an input: from the source, the sink and the disk as they were and as they are then, to the status
pub record ReportsOn {S : Type 0} (report : Reporting S) (traces : Bool) (ends : List ℕ → ℕ) (s s2 : SourceView) (k k2 : SinkView) (d d2 : DiskView) (status : ℕ) : Type 0 where
  -- the bytes that were written
  pub text : List ℕ
  pub written : Adds k.written k2.written text
  -- the disk that comes back has the image, the size and the read-only flag of the one that went in
  pub disk : SameDisk d d2
  pub known : Stopped status ⊎ ((status ≡ 0) ⊎ ((status ≡ 3) ⊎ (status ≡ 7)))
  -- 4 exactly where the source failed: a failure stops the run, and is answered as what it is
  pub source_failed : status ≡ 4 → Rose s.faults s2.faults
  pub source_stops : (s2.faults ≡ s.faults) ⊎ (status ≡ 4)
  -- and 5 where the sink failed
  pub sink_failed : status ≡ 5 → Rose k.faults k2.faults
  pub sink_stops : (k2.faults ≡ k.faults) ⊎ (status ≡ 5)
  pub answers : AnswersInput report traces ends s s2 k k2 d d2 status text
