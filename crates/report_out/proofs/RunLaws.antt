use Rattle.std.proofs.Common.{◌≡◌, ℕ, ◌+◌, ◌≤◌, List, [], ◌++◌, length, Some, Bool, refl, sym, ◌∙◌, ap, inl, arith}
use Rattle.std.specs.Prelude.{Ok, Err}
use Rattle.vt_types.specs.Limits.{LONGEST_SCRIPT}
use Rattle.vt_outside.specs.Disk.{DiskView}
use Rattle.vt_outside.specs.Sink.{SinkView, Adds}
use Rattle.vt_outside.specs.Source.{SourceView}
use Rattle.vt_outside.specs.Text.{IsPrefixOf}
use Rattle.vt_outside.proofs.SinkLaws.{adds_none, adds_then}
use Rattle.vt_outside.proofs.TextLaws.{prefix_behind, prefix_none}
use Rattle.report_out.specs.Answers.{Reporting, TakesAtMost}
use Rattle.report_out.specs.DiskCalls.{AreCallsOf}
use Rattle.report_out.specs.Output.{SendsDisk, StopCause}
use Rattle.report_out.specs.Report.{text_of}
use Rattle.report_out.specs.Run.{RunCause, RunsInput}
use Rattle.report_out.specs.Status.{run_status}
use Rattle.report_out.specs.declared.stop.Stop.{Stop}
use Rattle.report_out.specs.declared.stop.Stop.TheVariants.{Read, Write, Memory}
use Rattle.report_out.proofs.OutcomeLaws.{are_taken, outcomes_none}
use Rattle.report_out.proofs.SendLaws.{cause_then, same_none}

-- a run that stops has another status than 0
stop_status : (stop : Stop) → run_status (Err stop) ≡ 0 → ⊥
stop_status Read e = cc
stop_status Write e = cc
stop_status Memory e = cc

-- without status 0 the disk may have had no calls
no_calls : (status sectors : ℕ) → (status ≡ 0 → ⊥) → AreCallsOf status sectors 0
no_calls status sectors some = record {
  most = omega arith;
  whole = λ e. absurd (some e);
  bad_line = λ e. refl;
  source_failed = λ e. refl;
  too_long = λ e. refl;
}

-- with status 0 it had one for each sector
all_calls : (sectors calls : ℕ) → calls ≡ sectors → AreCallsOf 0 sectors calls
all_calls sectors calls e = record {
  most = omega arith;
  whole = λ zero. e;
  bad_line = λ other. cc;
  source_failed = λ other. cc;
  too_long = λ other. cc;
}

-- where sending stopped it had at most as many
some_calls : (stop : Stop) (k k2 : SinkView) (sectors calls : ℕ) → StopCause stop k k2 → calls ≤ sectors → AreCallsOf (run_status (Err stop)) sectors calls
some_calls Read k k2 sectors calls cause few = absurd cause
some_calls Write k k2 sectors calls cause few = record { most = few; whole = λ e. cc; bad_line = λ e. cc; source_failed = λ e. cc; too_long = λ e. cc }
some_calls Memory k k2 sectors calls cause few = absurd cause

-- why sending stopped is why the run did
pub send_cause : (s s2 : SourceView) (k k2 : SinkView) (stop : Stop) → s2.faults ≡ s.faults → StopCause stop k k2 → RunCause (Err stop) s s2 k k2
send_cause s s2 k k2 Read calm h = absurd h
send_cause s s2 k k2 Write calm h = (calm, h)
send_cause s s2 k k2 Memory calm h = absurd h

-- a run stopped before the disk was asked: what it wrote is a front of its report
pub stopped_unasked : {S : Type 0} (report : Reporting S) (traces : Bool) (ends : List ℕ → ℕ) (s s2 : SourceView) (k k2 : SinkView) (d : DiskView) (stop : Stop) (text : List ℕ)
    → TakesAtMost (LONGEST_SCRIPT + 1) s.left s2.left → RunCause (Err stop) s s2 k k2 → Adds k.written k2.written text
    → ((input : List ℕ) (sectors : List (List ℕ)) (read_only : Bool) (readings : List Bool) → s.left ≡ Some input → IsPrefixOf text (text_of traces (report input sectors read_only readings)))
    → RunsInput report traces ends s s2 k k2 d d (Err stop)
stopped_unasked report traces ends s s2 k k2 d stop text takes cause adds front = record {
  takes = takes;
  cause = cause;
  disk = same_none d;
  outcomes = [];
  tells = outcomes_none d.outcomes;
  calls = no_calls (run_status (Err stop)) d.count (stop_status stop);
  text = text;
  adds = adds;
  answers = λ input is. tt;
  reads = λ input is. tt;
  stops = λ input sectors read_only readings is some. front input sectors read_only readings is;
  reports = λ input image readings is shows are. front input image d.read_only readings is;
}

-- it stopped before it wrote anything
pub stopped_early : {S : Type 0} (report : Reporting S) (traces : Bool) (ends : List ℕ → ℕ) (s s2 : SourceView) (k : SinkView) (d : DiskView) (stop : Stop)
    → TakesAtMost (LONGEST_SCRIPT + 1) s.left s2.left → RunCause (Err stop) s s2 k k → RunsInput report traces ends s s2 k k d d (Err stop)
stopped_early report traces ends s s2 k d stop takes cause =
    stopped_unasked report traces ends s s2 k k d stop [] takes cause (adds_none k.written) (λ input sectors read_only readings is. prefix_none _)

-- a run ended without the end parts: with another status than 0, and its report was written
pub ended_unasked : {S : Type 0} (report : Reporting S) (traces : Bool) (ends : List ℕ → ℕ) (s s2 : SourceView) (k k2 : SinkView) (d : DiskView) (status : ℕ) (text : List ℕ)
    → (status ≡ 0 → ⊥) → TakesAtMost (LONGEST_SCRIPT + 1) s.left s2.left → RunCause (Ok status) s s2 k k2 → Adds k.written k2.written text
    → ((input : List ℕ) → s.left ≡ Some input → status ≡ ends input)
    → ((input : List ℕ) (sectors : List (List ℕ)) (read_only : Bool) (readings : List Bool) → s.left ≡ Some input → text ≡ text_of traces (report input sectors read_only readings))
    → RunsInput report traces ends s s2 k k2 d d (Ok status)
ended_unasked report traces ends s s2 k k2 d status text other takes cause adds ended whole = record {
  takes = takes;
  cause = cause;
  disk = same_none d;
  outcomes = [];
  tells = outcomes_none d.outcomes;
  calls = no_calls status d.count other;
  text = text;
  adds = adds;
  answers = ended;
  reads = λ input is zero. absurd (other zero);
  stops = λ input sectors read_only readings is some. whole input sectors read_only readings is;
  reports = λ input image readings is shows are. whole input image d.read_only readings is;
}

-- a run went on to the end of its input, and wrote its report up to a last text, which hangs on the disk
pub record ToEnd {S : Type 0} (report : Reporting S) (traces : Bool) (ends : List ℕ → ℕ) (s s2 : SourceView) (k k2 : SinkView) (last : List (List ℕ) → List Bool → List ℕ) : Type 0 where
  pub takes : TakesAtMost (LONGEST_SCRIPT + 1) s.left s2.left
  pub calm : s2.faults ≡ s.faults
  pub still : k2.faults ≡ k.faults
  pub text : List ℕ
  pub adds : Adds k.written k2.written text
  pub ended : (input : List ℕ) → s.left ≡ Some input → ends input ≡ 0
  pub reads : (input : List ℕ) → s.left ≡ Some input → s2.left ≡ Some []
  pub whole : (input : List ℕ) (sectors : List (List ℕ)) (read_only : Bool) (readings : List Bool) → s.left ≡ Some input
      → text ++ last sectors readings ≡ text_of traces (report input sectors read_only readings)

-- then the last text was sent
pub ended_whole : {S : Type 0} (report : Reporting S) (traces : Bool) (ends : List ℕ → ℕ) (s s2 : SourceView) (k k1 k2 : SinkView) (d d2 : DiskView) (last : List (List ℕ) → List Bool → List ℕ)
    → ToEnd report traces ends s s2 k k1 last → SendsDisk last d.count d d2 k1 k2 (Ok tt) → RunsInput report traces ends s s2 k k2 d d2 (Ok 0)
ended_whole report traces ends s s2 k k1 k2 d d2 last h sent = record {
  takes = h.takes;
  cause = (inl refl, h.calm, sent.cause ∙ h.still);
  disk = sent.disk;
  outcomes = sent.outcomes;
  tells = sent.tells;
  calls = all_calls d.count (length sent.outcomes) sent.calls;
  text = h.text ++ sent.sent;
  adds = adds_then k.written k1.written k2.written h.text sent.sent h.adds sent.adds;
  answers = λ input is. sym (h.ended input is);
  reads = λ input is zero. h.reads input is;
  stops = λ input sectors read_only readings is some. absurd (some (h.ended input is));
  reports = λ input image readings is shows are.
      ap (λ (z : List ℕ). h.text ++ z) (sent.part image readings [] shows (are_taken d d2 readings are)) ∙ h.whole input image d.read_only readings is;
}

-- or a part of it
pub stopped_in_end : {S : Type 0} (report : Reporting S) (traces : Bool) (ends : List ℕ → ℕ) (s s2 : SourceView) (k k1 k2 : SinkView) (d d2 : DiskView) (last : List (List ℕ) → List Bool → List ℕ) (stop : Stop)
    → ToEnd report traces ends s s2 k k1 last → SendsDisk last d.count d d2 k1 k2 (Err stop) → RunsInput report traces ends s s2 k k2 d d2 (Err stop)
stopped_in_end report traces ends s s2 k k1 k2 d d2 last stop h sent = record {
  takes = h.takes;
  cause = send_cause s s2 k k2 stop h.calm (cause_then {X = Unit {0}} (Err stop) k k1 k2 h.still sent.cause);
  disk = sent.disk;
  outcomes = sent.outcomes;
  tells = sent.tells;
  calls = some_calls stop k1 k2 d.count (length sent.outcomes) sent.cause sent.calls;
  text = h.text ++ sent.sent;
  adds = adds_then k.written k1.written k2.written h.text sent.sent h.adds sent.adds;
  answers = λ input is. tt;
  reads = λ input is. tt;
  stops = λ input sectors read_only readings is some. absurd (some (h.ended input is));
  reports = λ input image readings is shows are.
      rw (← h.whole input image d.read_only readings is)
      (prefix_behind h.text sent.sent (last image readings) (sent.part image readings [] shows (are_taken d d2 readings are)));
}
