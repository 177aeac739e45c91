-- Laws of a script whose lines were run: the end parts that are sent then, and what is claimed of the whole.
use Rattle.std.proofs.Common.{◌≡◌, ℕ, ◌+◌, List, [], ◌++◌, length, Bool, false, Option, Some, None, refl, sym, ◌∙◌, ap, inl, inr, append_assoc, append-nil, arith}
use Rattle.std.specs.Prelude.{Ok, Err, ◌==◌}
use Rattle.std.proofs.lemmas.Bool.Decides.{nat_tests}
use Rattle.vt_outside.specs.Disk.{DiskView}
use Rattle.vt_outside.specs.Sink.{SinkView, Adds}
use Rattle.vt_outside.specs.Source.{SourceView}
use Rattle.vt_outside.proofs.SinkLaws.{adds_none, adds_then}
use Rattle.vt_outside.proofs.TextLaws.{prefix_behind, prefix_none, prefix_then}
use Rattle.vt_outside.proofs.WatchLaws.{shows_none, shows_then}
use Rattle.script_text.specs.Lines.{Lines, NoMore, TooMany, Line, lines_of}
use Rattle.report_out.specs.EndText.{disk_text, end_text}
use Rattle.report_out.specs.Output.{Sends, SendsDisk}
use Rattle.report_out.specs.Pieces.{console_text}
use Rattle.report_out.specs.Report.{Report, image_of, status_of, text_of}
use Rattle.report_out.specs.Reports.{ReportsOn}
use Rattle.report_out.specs.Status.{run_status}
use Rattle.report_out.specs.declared.stop.Stop.{Stop}
use Rattle.report_out.specs.declared.stop.Stop.TheVariants.{Memory}
use Rattle.report_out.proofs.ReportsLaw.{IsReport, reports_on, stopped}
use Rattle.report_out.proofs.RunLaws.{ToEnd, ended_unasked, ended_whole, send_cause, stopped_early, stopped_in_end, stopped_unasked}
use Rattle.report_out.proofs.SendLaws.{cause_then}
use Rattle.line_runner.specs.Lines.{LinesDone, RunsLines, last_text}
use Rattle.line_runner.specs.Script.{Did, Script, ending, ending_behind, ending_of, line_report, report_of, reporting}
use Rattle.line_runner.specs.Shows.{ShowsOn}

-- the end parts are the console's and then the disk's
ends_behind : (console : List ℕ) (image : List (List ℕ)) (outcomes : List Bool) → end_text [] console image outcomes ≡ console_text console ++ disk_text image outcomes
ends_behind console image outcomes = refl

-- a report of which all but the end parts was sent has the console's next
console_next : {S : Type 0} (traces : Bool) (r : Report S) (console : List ℕ) (image : List (List ℕ)) (outcomes : List Bool) (sent shown : List ℕ)
    → LinesDone traces (end_text [] console image outcomes) r sent shown (Ok 0) → (sent ++ console_text console) ++ disk_text image outcomes ≡ text_of traces r
console_next traces r console image outcomes sent shown h =
    append_assoc sent (console_text console) (disk_text image outcomes) ∙ ap (λ (z : List ℕ). sent ++ z) (sym (ends_behind console image outcomes)) ∙ h.0

-- the console's part was sent
pub console_sent : {S : Type 0} (script : Script S) (traces : Bool) (console : List ℕ) (s s2 : SourceView) (k k1 k2 : SinkView) (w w2 : Option (List ℕ))
    → RunsLines script traces (end_text [] console) s s2 k k1 w w2 (Ok 0) → Sends k1 k2 (console_text console) (Ok tt) → RunsLines script traces disk_text s s2 k k2 w w2 (Ok 0)
console_sent script traces console s s2 k k1 k2 w w2 h sends = record {
  takes = h.takes;
  cause = (h.cause.0, h.cause.1, sends.cause ∙ h.cause.2);
  sent = h.sent ++ console_text console;
  adds = adds_then k.written k1.written k2.written h.sent (console_text console) h.adds (rw sends.part at sends.adds);
  shown = h.shown ++ [];
  shows = shows_then w w2 w2 h.shown [] h.shows (shows_none w2);
  reads = h.reads;
  done = λ input sectors read_only outcomes told.
      let r = reporting script input sectors read_only outcomes in
      let done = h.done input sectors read_only outcomes told in
      (console_next traces r console sectors outcomes h.sent h.shown done, append-nil h.shown ∙ done.1, done.2);
}

-- or a part of it
pub console_unsent : {S : Type 0} (script : Script S) (traces : Bool) (console : List ℕ) (s s2 : SourceView) (k k1 k2 : SinkView) (w w2 : Option (List ℕ)) (stop : Stop)
    → RunsLines script traces (end_text [] console) s s2 k k1 w w2 (Ok 0) → Sends k1 k2 (console_text console) (Err stop) → RunsLines script traces disk_text s s2 k k2 w w2 (Err stop)
console_unsent script traces console s s2 k k1 k2 w w2 stop h sends = record {
  takes = h.takes;
  cause = send_cause s s2 k k2 stop h.cause.1 (cause_then {X = Unit {0}} (Err stop) k k1 k2 h.cause.2 sends.cause);
  sent = h.sent ++ sends.sent;
  adds = adds_then k.written k1.written k2.written h.sent sends.sent h.adds sends.adds;
  shown = h.shown ++ [];
  shows = shows_then w w2 w2 h.shown [] h.shows (shows_none w2);
  reads = λ input told. tt;
  done = λ input sectors read_only outcomes told.
      let r = reporting script input sectors read_only outcomes in
      let done = h.done input sectors read_only outcomes told in
      record {
        text =
            prefix_then (h.sent ++ sends.sent) (h.sent ++ console_text console) (text_of traces r) (prefix_behind h.sent sends.sent (console_text console) sends.part)
            (disk_text sectors outcomes, console_next traces r console sectors outcomes h.sent h.shown done);
        lines = r.lines;
        front = ([], append-nil r.lines);
        traced = append-nil h.shown ∙ done.1;
        first = inr refl;
      };
}

-- the status of a report is that with which its lines end, and its image the disk's
line_status : {S : Type 0} (image : List (List ℕ)) (line : Option (ℕ → S → Did S)) (end k : ℕ) (state : S) (rest : S → Report S) (status : ℕ)
    → ((next : S) → status_of (rest next) ≡ status) → status_of (line_report image line end k state rest) ≡ ending_behind line status
line_status image None end k state rest status h = refl
line_status image (Some does) end k state rest status h = h (does k state).state

lines_status : {S : Type 0} (script : Script S) (image : List (List ℕ)) (outcomes : List Bool) (lines : Lines) (at k : ℕ) (state : S)
    → status_of (report_of script image outcomes lines at k state) ≡ ending_of script lines
lines_status script image outcomes NoMore at k state = refl
lines_status script image outcomes TooMany at k state = refl
lines_status script image outcomes (Line line others) at k state =
    let end : ℕ = at + length line in
    line_status image (script.line line) end (k + 1) state (λ next. report_of script image outcomes others (end + 1) (k + 1) next) (ending_of script others)
    (λ next. lines_status script image outcomes others (end + 1) (k + 1) next)

line_image : {S : Type 0} (image : List (List ℕ)) (line : Option (ℕ → S → Did S)) (end k : ℕ) (state : S) (rest : S → Report S)
    → ((next : S) → image_of (rest next) ≡ image) → image_of (line_report image line end k state rest) ≡ image
line_image image None end k state rest h = refl
line_image image (Some does) end k state rest h = h (does k state).state

lines_image : {S : Type 0} (script : Script S) (image : List (List ℕ)) (outcomes : List Bool) (lines : Lines) (at k : ℕ) (state : S)
    → image_of (report_of script image outcomes lines at k state) ≡ image
lines_image script image outcomes NoMore at k state = refl
lines_image script image outcomes TooMany at k state = refl
lines_image script image outcomes (Line line others) at k state =
    let end : ℕ = at + length line in
    line_image image (script.line line) end (k + 1) state (λ next. report_of script image outcomes others (end + 1) (k + 1) next)
    (λ next. lines_image script image outcomes others (end + 1) (k + 1) next)

is_report : {S : Type 0} (script : Script S) → IsReport (reporting script) (ending script)
is_report script = record {
  status = λ input sectors read_only readings. lines_status script sectors readings (lines_of input) 0 0 (script.start sectors read_only);
  image = λ input sectors read_only readings. lines_image script sectors readings (lines_of input) 0 0 (script.start sectors read_only);
}

-- a report whose lines ended with some status ends so
ends_so : {S : Type 0} (script : Script S) (input : List ℕ) (status : ℕ) → status_of (reporting script input [] false []) ≡ status → status ≡ ending script input
ends_so script input status e = sym e ∙ (is_report script).status input [] false []

whole_text : (sent text whole : List ℕ) (status : ℕ) → (status ≡ 0 → ⊥) → sent ++ last_text text status ≡ whole → sent ≡ whole
whole_text sent text whole status other e =
    let some : (status == 0) ≡ false = grind (arith, nat_tests) in
    sym (append-nil sent) ∙ rw some at e

-- the lines ended at a bad line, or with too many bytes
pub reports_fault : {S : Type 0} (script : Script S) (traces : Bool) (s s2 : SourceView) (k k2 : SinkView) (w w2 : Option (List ℕ)) (d : DiskView) (status : ℕ) → (status ≡ 0 → ⊥)
    → RunsLines script traces disk_text s s2 k k2 w w2 (Ok status) → ReportsOn (reporting script) traces (ending script) s s2 k k2 d d status
reports_fault script traces s s2 k k2 w w2 d status other h =
    reports_on (reporting script) traces (ending script) s s2 k k2 d d (Ok status) (is_report script) (
    ended_unasked (reporting script) traces (ending script) s s2 k k2 d status h.sent other h.takes h.cause h.adds
    (λ input told. ends_so script input status (h.done input [] false [] told).2)
    (λ input sectors read_only readings told.
    whole_text h.sent (disk_text sectors readings) (text_of traces (reporting script input sectors read_only readings)) status other
    (h.done input sectors read_only readings told).0)
    )

-- they stopped
pub reports_stop : {S : Type 0} (script : Script S) (traces : Bool) (s s2 : SourceView) (k k2 : SinkView) (w w2 : Option (List ℕ)) (d : DiskView) (stop : Stop)
    → RunsLines script traces disk_text s s2 k k2 w w2 (Err stop) → ReportsOn (reporting script) traces (ending script) s s2 k k2 d d (run_status (Err stop))
reports_stop script traces s s2 k k2 w w2 d stop h =
    reports_on (reporting script) traces (ending script) s s2 k k2 d d (Err stop) (is_report script) (
    stopped_unasked (reporting script) traces (ending script) s s2 k k2 d stop h.sent h.takes h.cause h.adds
    (λ input sectors read_only readings told. (h.done input sectors read_only readings told).text)
    )

-- they ended with the input
to_end : {S : Type 0} (script : Script S) (traces : Bool) (s s2 : SourceView) (k k1 : SinkView) (w w2 : Option (List ℕ)) → RunsLines script traces disk_text s s2 k k1 w w2 (Ok 0)
    → ToEnd (reporting script) traces (ending script) s s2 k k1 disk_text
to_end script traces s s2 k k1 w w2 h = record {
  takes = h.takes;
  calm = h.cause.1;
  still = h.cause.2;
  text = h.sent;
  adds = h.adds;
  ended = λ input told. sym (ends_so script input 0 (h.done input [] false [] told).2);
  reads = λ input told. h.reads input told refl;
  whole = λ input sectors read_only readings told. (h.done input sectors read_only readings told).0;
}

-- and the disk's part was sent
pub reports_whole : {S : Type 0} (script : Script S) (traces : Bool) (s s2 : SourceView) (k k1 k2 : SinkView) (w w2 : Option (List ℕ)) (d d2 : DiskView)
    → RunsLines script traces disk_text s s2 k k1 w w2 (Ok 0) → SendsDisk disk_text d.count d d2 k1 k2 (Ok tt) → ReportsOn (reporting script) traces (ending script) s s2 k k2 d d2 0
reports_whole script traces s s2 k k1 k2 w w2 d d2 h sends =
    reports_on (reporting script) traces (ending script) s s2 k k2 d d2 (Ok 0) (is_report script)
    (ended_whole (reporting script) traces (ending script) s s2 k k1 k2 d d2 disk_text (to_end script traces s s2 k k1 w w2 h) sends)

-- or a part of it
pub reports_part : {S : Type 0} (script : Script S) (traces : Bool) (s s2 : SourceView) (k k1 k2 : SinkView) (w w2 : Option (List ℕ)) (d d2 : DiskView) (stop : Stop)
    → RunsLines script traces disk_text s s2 k k1 w w2 (Ok 0) → SendsDisk disk_text d.count d d2 k1 k2 (Err stop)
    → ReportsOn (reporting script) traces (ending script) s s2 k k2 d d2 (run_status (Err stop))
reports_part script traces s s2 k k1 k2 w w2 d d2 stop h sends =
    reports_on (reporting script) traces (ending script) s s2 k k2 d d2 (Err stop) (is_report script)
    (stopped_in_end (reporting script) traces (ending script) s s2 k k1 k2 d d2 disk_text stop (to_end script traces s s2 k k1 w w2 h) sends)

-- there was no memory to begin
pub reports_none : {S : Type 0} (script : Script S) (traces : Bool) (s : SourceView) (k : SinkView) (d : DiskView)
    → ReportsOn (reporting script) traces (ending script) s s k k d d (run_status (Err Memory))
reports_none script traces s k d =
    reports_on (reporting script) traces (ending script) s s k k d d (Err Memory) (is_report script) (
    stopped_early (reporting script) traces (ending script) s s k d Memory (λ left told. (0, omega arith, told)) (refl, refl)
    )

-- the watch was shown all of what happened in lines that ended, whatever was sent behind them
pub shows_whole : {S : Type 0} (script : Script S) (traces : Bool) (last : List (List ℕ) → List Bool → List ℕ) (s s2 : SourceView) (k k1 k2 : SinkView) (w w2 : Option (List ℕ)) (status end : ℕ) (more : List ℕ)
    → RunsLines script traces last s s2 k k1 w w2 (Ok status) → Adds k1.written k2.written more → ShowsOn script traces s k k2 w w2 end
shows_whole script traces last s s2 k k1 k2 w w2 status end more h adds = record {
  text = h.sent ++ more;
  written = adds_then k.written k1.written k2.written h.sent more h.adds adds;
  shown = h.shown;
  shows = h.shows;
  whole = λ input sectors read_only outcomes told.
      let lines = (reporting script input sectors read_only outcomes).lines in
      record { lines = lines; front = ([], append-nil lines); traced = (h.done input sectors read_only outcomes told).1; all = inr refl; first = inr refl };
}

-- nothing was sent behind them
pub shows_ended : {S : Type 0} (script : Script S) (traces : Bool) (last : List (List ℕ) → List Bool → List ℕ) (s s2 : SourceView) (k k2 : SinkView) (w w2 : Option (List ℕ)) (status : ℕ)
    → RunsLines script traces last s s2 k k2 w w2 (Ok status) → ShowsOn script traces s k k2 w w2 status
shows_ended script traces last s s2 k k2 w w2 status h =
    shows_whole script traces last s s2 k k2 k2 w w2 status status [] h (adds_none k2.written)

-- and what happened in the first of them where they stopped
pub shows_part : {S : Type 0} (script : Script S) (traces : Bool) (last : List (List ℕ) → List Bool → List ℕ) (s s2 : SourceView) (k k2 : SinkView) (w w2 : Option (List ℕ)) (stop : Stop)
    → RunsLines script traces last s s2 k k2 w w2 (Err stop) → ShowsOn script traces s k k2 w w2 (run_status (Err stop))
shows_part script traces last s s2 k k2 w w2 stop h = record {
  text = h.sent;
  written = h.adds;
  shown = h.shown;
  shows = h.shows;
  whole = λ input sectors read_only outcomes told.
      let begins = h.done input sectors read_only outcomes told in
      record { lines = begins.lines; front = begins.front; traced = begins.traced; all = inl (stopped stop); first = begins.first };
}

-- no line was run for want of memory
pub shows_none_run : {S : Type 0} (script : Script S) (traces : Bool) (s : SourceView) (k : SinkView) (w : Option (List ℕ)) → ShowsOn script traces s k k w w 6
shows_none_run script traces s k w = record {
  text = [];
  written = adds_none k.written;
  shown = [];
  shows = shows_none w;
  whole = λ input sectors read_only outcomes told. record {
    lines = [];
    front = ((reporting script input sectors read_only outcomes).lines, refl);
    traced = refl;
    all = inl (inr (inr refl));
    first = inl (prefix_none []);
  };
}
