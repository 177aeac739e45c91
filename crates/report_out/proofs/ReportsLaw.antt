use Rattle.std.proofs.Common.{◌≡◌, ℕ, List, [], Bool, Some, refl, sym, ◌∙◌, ap, inl, inr}
use Rattle.std.specs.Prelude.{Result, Ok, Err, IfOk, ◌⊎◌}
use Rattle.vt_outside.specs.Disk.{DiskView}
use Rattle.vt_outside.specs.Faults.{Rose}
use Rattle.vt_outside.specs.Sink.{SinkView}
use Rattle.vt_outside.specs.Source.{SourceView}
use Rattle.vt_outside.proofs.TextLaws.{prefix_equal}
use Rattle.report_out.specs.Answers.{AnswersInput, Reporting, Stopped, Written}
use Rattle.report_out.specs.Output.{AllOrPart}
use Rattle.report_out.specs.Report.{text_of, status_of, image_of}
use Rattle.report_out.specs.Reports.{ReportsOn}
use Rattle.report_out.specs.Run.{EndsAs, RunCause, RunsInput}
use Rattle.report_out.specs.Status.{run_status}
use Rattle.report_out.specs.declared.stop.Stop.{Stop}
use Rattle.report_out.specs.declared.stop.Stop.TheVariants.{Read, Write, Memory}

-- the status that a stop gives
pub stopped : (stop : Stop) → Stopped (run_status (Err stop))
stopped Read = inl refl
stopped Write = inr (inl refl)
stopped Memory = inr (inr refl)

-- what was written, by how the input was run
pub written : (result : Result ℕ Stop) (text whole : List ℕ) → AllOrPart result text whole → Written (run_status result) text whole
written (Ok status) text whole all = (prefix_equal text whole all, inr all)
written (Err stop) text whole part = (part, inl (stopped stop))

ended : (result : Result ℕ Stop) (end : ℕ) → EndsAs result end → Stopped (run_status result) ⊎ (run_status result ≡ end)
ended (Ok status) end e = inr e
ended (Err stop) end e = inl (stopped stop)

complete_of : (result : Result ℕ Stop) (s s2 : SourceView) (k k2 : SinkView) (end : ℕ) → RunCause result s s2 k k2 → EndsAs result end → end ≡ 0
    → (Rose s.faults s2.faults → ⊥) → (Rose k.faults k2.faults → ⊥) → (run_status result ≡ 0) ⊎ (run_status result ≡ 6)
complete_of (Ok status) s s2 k k2 end cause ends whole calm still = inl (ends ∙ whole)
complete_of (Err Read) s s2 k k2 end cause ends whole calm still = absurd (calm cause.0)
complete_of (Err Write) s s2 k k2 end cause ends whole calm still = absurd (still cause.1)
complete_of (Err Memory) s s2 k k2 end cause ends whole calm still = inr refl

-- the status is that of the report
status_is : (result : Result ℕ Stop) (end status : ℕ) → status ≡ end → EndsAs result end → Stopped (run_status result) ⊎ (run_status result ≡ status)
status_is (Ok given) end status same ends = inr (ends ∙ sym same)
status_is (Err stop) end status same ends = inl (stopped stop)

-- with 0 the source was read to its end
read_whole : (result : Result ℕ Stop) (s2 : SourceView) → IfOk result (λ status. status ≡ 0 → s2.left ≡ Some []) → run_status result ≡ 0 → s2.left ≡ Some []
read_whole (Ok status) s2 reads zero = reads zero
read_whole (Err Read) s2 reads zero = absurd (cc)
read_whole (Err Write) s2 reads zero = absurd (cc)
read_whole (Err Memory) s2 reads zero = absurd (cc)

-- the status of a run by what ended or stopped it
known : (result : Result ℕ Stop) (s s2 : SourceView) (k k2 : SinkView) → RunCause result s s2 k k2
    → Stopped (run_status result) ⊎ ((run_status result ≡ 0) ⊎ ((run_status result ≡ 3) ⊎ (run_status result ≡ 7)))
known (Ok status) s s2 k k2 cause = inr cause.0
known (Err stop) s s2 k k2 cause = inl (stopped stop)

-- no run ends with another number than these
ends_with : (n status : ℕ) → (status ≡ 0) ⊎ ((status ≡ 3) ⊎ (status ≡ 7)) → status ≡ n → (n ≡ 0) ⊎ ((n ≡ 3) ⊎ (n ≡ 7))
ends_with n status ends e = rw e at ends

source_failed : (result : Result ℕ Stop) (s s2 : SourceView) (k k2 : SinkView) → RunCause result s s2 k k2 → run_status result ≡ 4 → Rose s.faults s2.faults
source_failed (Ok status) s s2 k k2 (ends, calm, still) e = absurd (elim (ends_with 4 status ends e) [ inl a ↦ cc | inr f ↦ elim f [ inl a ↦ cc | inr a ↦ cc ] ])
source_failed (Err Read) s s2 k k2 cause e = cause.0
source_failed (Err Write) s s2 k k2 cause e = absurd (cc)
source_failed (Err Memory) s s2 k k2 cause e = absurd (cc)

source_stops : (result : Result ℕ Stop) (s s2 : SourceView) (k k2 : SinkView) → RunCause result s s2 k k2 → (s2.faults ≡ s.faults) ⊎ (run_status result ≡ 4)
source_stops (Ok status) s s2 k k2 cause = inl cause.1
source_stops (Err Read) s s2 k k2 cause = inr refl
source_stops (Err Write) s s2 k k2 cause = inl cause.0
source_stops (Err Memory) s s2 k k2 cause = inl cause.0

sink_failed : (result : Result ℕ Stop) (s s2 : SourceView) (k k2 : SinkView) → RunCause result s s2 k k2 → run_status result ≡ 5 → Rose k.faults k2.faults
sink_failed (Ok status) s s2 k k2 (ends, calm, still) e = absurd (elim (ends_with 5 status ends e) [ inl a ↦ cc | inr f ↦ elim f [ inl a ↦ cc | inr a ↦ cc ] ])
sink_failed (Err Read) s s2 k k2 cause e = absurd (cc)
sink_failed (Err Write) s s2 k k2 cause e = cause.1
sink_failed (Err Memory) s s2 k k2 cause e = absurd (cc)

sink_stops : (result : Result ℕ Stop) (s s2 : SourceView) (k k2 : SinkView) → RunCause result s s2 k k2 → (k2.faults ≡ k.faults) ⊎ (run_status result ≡ 5)
sink_stops (Ok status) s s2 k k2 cause = inl cause.2
sink_stops (Err Read) s s2 k k2 cause = inl cause.1
sink_stops (Err Write) s s2 k k2 cause = inr refl
sink_stops (Err Memory) s s2 k k2 cause = inl cause.1

-- the premises on a report: its status is that with which its input ends, and its image the disk's
pub record IsReport {S : Type 0} (report : Reporting S) (ends : List ℕ → ℕ) : Type 0 where
  pub status : (input : List ℕ) (sectors : List (List ℕ)) (read_only : Bool) (readings : List Bool) → status_of (report input sectors read_only readings) ≡ ends input
  pub image : (input : List ℕ) (sectors : List (List ℕ)) (read_only : Bool) (readings : List Bool) → image_of (report input sectors read_only readings) ≡ sectors

pub answers : {S : Type 0} (report : Reporting S) (traces : Bool) (ends : List ℕ → ℕ) (s s2 : SourceView) (k k2 : SinkView) (d d2 : DiskView) (result : Result ℕ Stop) → IsReport report ends
    → (r : RunsInput report traces ends s s2 k k2 d d2 result) → AnswersInput report traces ends s s2 k k2 d d2 (run_status result) r.text
answers report traces ends s s2 k k2 d d2 result is_report r = record {
  takes = r.takes;
  answers = λ input is. ended result (ends input) (r.answers input is);
  reads = λ input is zero. read_whole result s2 (r.reads input is) zero;
  outcomes = r.outcomes;
  tells = r.tells;
  calls = r.calls;
  stops = λ input sectors read_only readings is some. written result r.text (text_of traces (report input sectors read_only readings)) (r.stops input sectors read_only readings is some);
  reports = λ input image readings is shows are. (
    written result r.text (text_of traces (report input image d.read_only readings)) (r.reports input image readings is shows are),
    status_is result (ends input) (status_of (report input image d.read_only readings)) (is_report.status input image d.read_only readings) (r.answers input is),
    r.disk.image ∙ shows ∙ ap (λ (z : List (List ℕ)). Some z) (sym (is_report.image input image d.read_only readings)),
  );
  complete = λ input is whole calm still. complete_of result s s2 k k2 (ends input) r.cause (r.answers input is) whole calm still;
}

-- an input that was run was reported on
pub reports_on : {S : Type 0} (report : Reporting S) (traces : Bool) (ends : List ℕ → ℕ) (s s2 : SourceView) (k k2 : SinkView) (d d2 : DiskView) (result : Result ℕ Stop) → IsReport report ends
    → RunsInput report traces ends s s2 k k2 d d2 result → ReportsOn report traces ends s s2 k k2 d d2 (run_status result)
reports_on report traces ends s s2 k k2 d d2 result is_report r = record {
  text = r.text;
  written = r.adds;
  disk = r.disk;
  known = known result s s2 k k2 r.cause;
  source_failed = source_failed result s s2 k k2 r.cause;
  source_stops = source_stops result s s2 k k2 r.cause;
  sink_failed = sink_failed result s s2 k k2 r.cause;
  sink_stops = sink_stops result s s2 k k2 r.cause;
  answers = answers report traces ends s s2 k k2 d d2 result is_report r;
}
