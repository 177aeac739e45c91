-- Laws of the lines of a script.
use Rattle.std.proofs.Common.{◌≡◌, ℕ, zero, suc, ◌+◌, ◌≤◌, List, [], ◌∷◌, ◌++◌, length, Bool, false, Option, Some, None, refl, ◌∙◌, ap, inl, inr, append_assoc, append-nil, arith}
use Rattle.std.specs.Prelude.{Ok, Err, ◌==◌}
use Rattle.std.proofs.lemmas.Bool.Decides.{nat_tests}
use Rattle.vt_types.specs.Limits.{LONGEST_SCRIPT}
use Rattle.vt_outside.specs.Sink.{SinkView, Adds}
use Rattle.vt_outside.specs.Source.{SourceView}
use Rattle.vt_outside.specs.Text.{IsPrefixOf}
use Rattle.vt_outside.specs.Watch.{Shows}
use Rattle.vt_outside.proofs.SinkLaws.{adds_none, adds_then}
use Rattle.vt_outside.proofs.TextLaws.{prefix_then}
use Rattle.vt_outside.proofs.WatchLaws.{shows_none, shows_then}
use Rattle.script_text.specs.Lines.{ReaderView, Answers, KnowsEnd, Takes, bytes_taken}
use Rattle.script_text.proofs.TakenLaws.{none_left, takes_then}
use Rattle.report_out.specs.Answers.{TakesAtMost}
use Rattle.report_out.specs.Output.{Sends}
use Rattle.report_out.specs.Report.{Report, DoneLine, line_text, lines_text, lines_trace, text_of, with_lines}
use Rattle.report_out.specs.Run.{RunCause}
use Rattle.report_out.specs.declared.stop.Stop.{Stop}
use Rattle.report_out.specs.declared.stop.Stop.TheVariants.{Read, Write, Memory}
use Rattle.report_out.proofs.LineLaws.{text_then, trace_then, with_lines_then}
use Rattle.report_out.proofs.RunLaws.{send_cause}
use Rattle.report_out.proofs.SendLaws.{cause_then}
use Rattle.line_runner.specs.Lines.{Begins, GoesOn, HasEnded, IsLast, IsNew, LinesDone, NextCause, ReadsNext, RunsLines, RunsNext, last_text, new_reader, report_left}
use Rattle.line_runner.specs.Script.{Script, reporting}
use Rattle.line_runner.proofs.ReportLaws.{begins_behind, begins_ended, begins_line, begins_none, text_behind}

-- no line is left: nothing is printed
pub goes_to_end : {S : Type 0} (script : Script S) (told told2 : Option (List ℕ)) (reader reader2 : ReaderView) (state : S) (trace text fault : List ℕ)
    → Answers told told2 (Ok None) reader reader2 → fault ≡ []
    → (left : List ℕ) → told ≡ Some left → (left2 : List ℕ) × (told2 ≡ Some left2) × GoesOn script reader reader2 left left2 state state trace text fault (Ok (Some 0))
goes_to_end script told told2 reader reader2 state trace text fault answers nothing left is =
    let (left2, is2, next) = answers left is in (
      left2,
      is2,
      (λ at image outcomes. rw (next.0, nothing) (record { lines = refl; text = refl; ended = refl }), λ zero knows. none_left reader reader2 left left2 next knows),
    )

-- the lines of a source up to some reader were run: what was sent and shown, and for each start the state for which the runner
-- stands then, and from which the report goes on
pub record Reaches {S : Type 0} (script : Script S) (traces : Bool) (s s2 : SourceView) (k k2 : SinkView) (w w2 : Option (List ℕ)) (reader : ReaderView) (represents : S → Type 0) : Type 0 where
  pub takes : Takes s.left s2.left new_reader reader
  pub within : bytes_taken reader ≤ LONGEST_SCRIPT + 1
  pub ends : KnowsEnd s2.left reader
  pub calm : s2.faults ≡ s.faults
  pub still : k2.faults ≡ k.faults
  pub sent : List ℕ
  pub adds : Adds k.written k2.written sent
  pub shown : List ℕ
  pub shows : Shows w shown w2
  pub state : List (List ℕ) → Bool → S
  pub represented : (sectors : List (List ℕ)) (read_only : Bool) → represents (state sectors read_only)
  pub reached : (input : List ℕ) (sectors : List (List ℕ)) (read_only : Bool) → s.left ≡ Some input
      → (left : List ℕ) × (s2.left ≡ Some left) × (lines : List (DoneLine S)) × (sent ≡ lines_text traces lines) × (shown ≡ lines_trace lines) × (at : ℕ)
      × ((outcomes : List Bool) → reporting script input sectors read_only outcomes ≡ with_lines lines (report_left script reader left at (state sectors read_only) sectors outcomes))

-- no line was run yet
reaches_new : {S : Type 0} (script : Script S) (traces : Bool) (s : SourceView) (k : SinkView) (w : Option (List ℕ)) (represents : S → Type 0)
    → ((sectors : List (List ℕ)) (read_only : Bool) → represents (script.start sectors read_only)) → Reaches script traces s s k k w w new_reader represents
reaches_new script traces s k w represents start = record {
  takes = record { front = λ left told. (0, told, refl) };
  within = omega arith;
  ends = record { nothing = λ ended left told. absurd cc };
  calm = refl;
  still = refl;
  sent = [];
  adds = adds_none k.written;
  shown = [];
  shows = shows_none w;
  state = script.start;
  represented = start;
  reached = λ input sectors read_only told. (input, told, [], refl, refl, 0, λ outcomes. refl);
}

pub reaches_none : {S : Type 0} (script : Script S) (traces : Bool) (s : SourceView) (k : SinkView) (w : Option (List ℕ)) (reader : ReaderView) (number : ℕ) (represents : S → Type 0)
    → IsNew reader number → ((sectors : List (List ℕ)) (read_only : Bool) → represents (script.start sectors read_only)) → Reaches script traces s s k k w w reader represents
reaches_none script traces s k w reader number represents new start = rw new.read (reaches_new script traces s k w represents start)

-- the text and the trace of one line more
one_text : {S : Type 0} (traces : Bool) (line : DoneLine S) (lines : List (DoneLine S)) (sent trace text : List ℕ)
    → sent ≡ lines_text traces lines → line.told.trace ≡ trace → line.told.text ≡ text → sent ++ line_text traces trace text ≡ lines_text traces (lines ++ line ∷ [])
one_text traces line lines sent trace text is_sent is_trace is_text =
    rw (is_sent, ← is_trace, ← is_text, text_then traces lines (line ∷ []), append-nil (line_text traces line.told.trace line.told.text)) refl

one_trace : {S : Type 0} (line : DoneLine S) (lines : List (DoneLine S)) (shown trace : List ℕ)
    → shown ≡ lines_trace lines → line.told.trace ≡ trace → shown ++ trace ≡ lines_trace (lines ++ line ∷ [])
one_trace line lines shown trace is_shown is_trace = rw (is_shown, ← is_trace, trace_then lines (line ∷ []), append-nil line.told.trace) refl

-- one line more
pub reaches_next : {S : Type 0} (script : Script S) (traces : Bool) (s s1 s2 : SourceView) (k k1 k2 : SinkView) (w w1 w2 : Option (List ℕ)) (reader reader2 : ReaderView) (represents represents2 : S → Type 0) (trace text fault : List ℕ)
    → Reaches script traces s s1 k k1 w w1 reader represents → ReadsNext s1 s2 reader reader2 (Ok None)
    → ((state : S) → represents state → RunsNext script s1 s2 reader reader2 state represents2 trace text fault (Ok None))
    → Sends k1 k2 (line_text traces trace text) (Ok tt) → Shows w1 trace w2 → Reaches script traces s s2 k k2 w w2 reader2 represents2
reaches_next {S} script traces s s1 s2 k k1 k2 w w1 w2 reader reader2 represents represents2 trace text fault h read runs sends shows = record {
  takes = takes_then s.left s1.left s2.left new_reader reader reader2 h.takes read.takes;
  within = read.within;
  ends = read.ends h.ends;
  calm = (runs (h.state [] false) (h.represented [] false)).cause ∙ h.calm;
  still = sends.cause ∙ h.still;
  sent = h.sent ++ line_text traces trace text;
  adds = adds_then k.written k1.written k2.written h.sent (line_text traces trace text) h.adds (rw sends.part at sends.adds);
  shown = h.shown ++ trace;
  shows = shows_then w w1 w2 h.shown trace h.shows shows;
  state = λ sectors read_only. (runs (h.state sectors read_only) (h.represented sectors read_only)).next;
  represented = λ sectors read_only. (runs (h.state sectors read_only) (h.represented sectors read_only)).behind;
  reached = λ input sectors read_only told.
      let (left, told1, lines, is_sent, is_shown, at, reached) = h.reached input sectors read_only told in
      let state = h.state sectors read_only in
      let ran = runs state (h.represented sectors read_only) in
      let (left2, told2, goes_on) = ran.goes_on left told1 in
      let (did, is_trace, is_text, goes) = goes_on in
      let end : ℕ = at + length reader2.line in
      let line : DoneLine S = record { end = end; told = did; state = ran.next } in (
        left2,
        told2,
        lines ++ line ∷ [],
        one_text traces line lines h.sent trace text is_sent is_trace is_text,
        one_trace line lines h.shown trace is_shown is_trace,
        end + 1,
        λ outcomes.
            reached outcomes ∙ ap (with_lines lines) (goes at sectors outcomes)
            ∙ with_lines_then lines (line ∷ []) (report_left script reader2 left2 (end + 1) ran.next sectors outcomes),
      );
}

-- all calls of a reader together take what they may
takes_most : (told told2 : Option (List ℕ)) (reader : ReaderView) → Takes told told2 new_reader reader → bytes_taken reader ≤ LONGEST_SCRIPT + 1 → TakesAtMost (LONGEST_SCRIPT + 1) told told2
takes_most told told2 reader takes within left is = let (n, is2, counted) = takes.front left is in (n, omega (arith, counted, within), is2)

-- what is printed at the end
last_as : (a b : List ℕ) (status : ℕ) → (status ≡ 0 → a ≡ b) → last_text a status ≡ last_text b status
last_as a b zero e = rw (e refl) refl
last_as a b (suc n) e =
    let some : (suc n == 0) ≡ false = grind (arith, nat_tests) in
    rw some refl

-- what was sent and shown of a report whose lines ended, but for a last text
lines_done : {S : Type 0} (traces : Bool) (lines : List (DoneLine S)) (r end : Report S) (sent shown fault a b : List ℕ) (status : ℕ)
    → sent ≡ lines_text traces lines → shown ≡ lines_trace lines → r ≡ with_lines lines end → HasEnded end (fault ++ last_text a status) status → (status ≡ 0 → a ≡ b)
    → LinesDone traces b r (sent ++ fault) (shown ++ []) (Ok status)
lines_done {S} traces lines r end sent shown fault a b status is_sent is_shown e h is_last = (
  rw (
    text_behind traces lines r end e,
    h.lines,
    h.text,
    ← is_sent,
    last_as a b status is_last,
    append_assoc sent fault (last_text b status),
  ) refl,
  rw (e, h.lines, is_shown, append-nil lines, append-nil (lines_trace lines)) refl,
  rw e h.ended,
)

-- the lines ended
pub lines_end : {S : Type 0} (script : Script S) (traces : Bool) (last : List (List ℕ) → List Bool → List ℕ) (s s1 s2 : SourceView) (k k1 k2 : SinkView) (w w1 : Option (List ℕ)) (reader reader2 : ReaderView) (represents represents2 : S → Type 0) (trace text fault : List ℕ) (status : ℕ)
    → IsLast script represents2 (Ok status) last → Reaches script traces s s1 k k1 w w1 reader represents → ReadsNext s1 s2 reader reader2 (Ok (Some status))
    → ((state : S) → represents state → RunsNext script s1 s2 reader reader2 state represents2 trace text fault (Ok (Some status)))
    → Sends k1 k2 fault (Ok tt) → RunsLines script traces last s s2 k k2 w w1 (Ok status)
lines_end script traces last s s1 s2 k k1 k2 w w1 reader reader2 represents represents2 trace text fault status is_last h read runs sends = record {
  takes = takes_most s.left s2.left reader2 (takes_then s.left s1.left s2.left new_reader reader reader2 h.takes read.takes) read.within;
  cause =
      let (end, calm) = (runs (h.state [] false) (h.represented [] false)).cause in
      (end, calm ∙ h.calm, sends.cause ∙ h.still);
  sent = h.sent ++ fault;
  adds = adds_then k.written k1.written k2.written h.sent fault h.adds (rw sends.part at sends.adds);
  shown = h.shown ++ [];
  shows = shows_then w w1 w1 h.shown [] h.shows (shows_none w1);
  reads = λ input told zero.
      let (left, told1, lines, is_sent, is_shown, at, reached) = h.reached input [] false told in
      let (left2, told2, goes_on) = (runs (h.state [] false) (h.represented [] false)).goes_on left told1 in
      told2 ∙ ap (λ (z : List ℕ). Some z) (goes_on.1 zero (rw told2 at (read.ends h.ends)));
  done = λ input sectors read_only outcomes told.
      let (left, told1, lines, is_sent, is_shown, at, reached) = h.reached input sectors read_only told in
      let state = h.state sectors read_only in
      let ran = runs state (h.represented sectors read_only) in
      let (left2, told2, goes_on) = ran.goes_on left told1 in
      lines_done traces lines (reporting script input sectors read_only outcomes) (report_left script reader left at state sectors outcomes) h.sent h.shown fault
      (script.last ran.next sectors outcomes) (last sectors outcomes) status is_sent is_shown (reached outcomes) (goes_on.0 at sectors outcomes)
      (λ zero. is_last.prints (ap (λ (n : ℕ). Ok n) zero) ran.next sectors outcomes (ran.behind zero));
}

-- a report that begins with a text begins with a part of it
begins_part : {S : Type 0} (traces : Bool) (r : Report S) (whole part shown : List ℕ) → IsPrefixOf part whole → Begins traces r whole shown → Begins traces r part shown
begins_part traces r whole part shown p h = record {
  text = prefix_then part whole (text_of traces r) p h.text;
  lines = h.lines;
  front = h.front;
  traced = h.traced;
  first = elim h.first [ inl front ↦ inl (prefix_then part whole (lines_text traces h.lines) p front) | inr all ↦ inr all ];
}

-- what was to be sent next was not, or a part of it
unsent : {S : Type 0} (script : Script S) (traces : Bool) (last : List (List ℕ) → List Bool → List ℕ) (s s1 s2 : SourceView) (k k1 k2 : SinkView) (w w1 w2 : Option (List ℕ)) (reader reader2 : ReaderView) (represents : S → Type 0) (whole trace : List ℕ) (ended : Option ℕ) (stop : Stop)
    → (h : Reaches script traces s s1 k k1 w w1 reader represents) → ReadsNext s1 s2 reader reader2 (Ok ended) → s2.faults ≡ s1.faults
    → ((left : List ℕ) (at : ℕ) (sectors : List (List ℕ)) (read_only : Bool) (outcomes : List Bool) → s1.left ≡ Some left
    → Begins traces (report_left script reader left at (h.state sectors read_only) sectors outcomes) whole trace)
    → Sends k1 k2 whole (Err stop) → Shows w1 trace w2 → RunsLines script traces last s s2 k k2 w w2 (Err stop)
unsent script traces last s s1 s2 k k1 k2 w w1 w2 reader reader2 represents whole trace ended stop h read calm goes_on sends shows = record {
  takes = takes_most s.left s2.left reader2 (takes_then s.left s1.left s2.left new_reader reader reader2 h.takes read.takes) read.within;
  cause = send_cause s s2 k k2 stop (calm ∙ h.calm) (cause_then {X = Unit {0}} (Err stop) k k1 k2 h.still sends.cause);
  sent = h.sent ++ sends.sent;
  adds = adds_then k.written k1.written k2.written h.sent sends.sent h.adds sends.adds;
  shown = h.shown ++ trace;
  shows = shows_then w w1 w2 h.shown trace h.shows shows;
  reads = λ input told. tt;
  done = λ input sectors read_only outcomes told.
      let (left, told1, lines, is_sent, is_shown, at, reached) = h.reached input sectors read_only told in
      let next = report_left script reader left at (h.state sectors read_only) sectors outcomes in
      begins_behind traces lines (reporting script input sectors read_only outcomes) next h.sent h.shown sends.sent trace is_sent is_shown (reached outcomes)
      (begins_part traces next whole sends.sent trace sends.part (goes_on left at sectors read_only outcomes told1));
}

-- so of what a line did
pub line_unsent : {S : Type 0} (script : Script S) (traces : Bool) (last : List (List ℕ) → List Bool → List ℕ) (s s1 s2 : SourceView) (k k1 k2 : SinkView) (w w1 w2 : Option (List ℕ)) (reader reader2 : ReaderView) (represents represents2 : S → Type 0) (trace text fault : List ℕ) (stop : Stop)
    → Reaches script traces s s1 k k1 w w1 reader represents → ReadsNext s1 s2 reader reader2 (Ok None)
    → ((state : S) → represents state → RunsNext script s1 s2 reader reader2 state represents2 trace text fault (Ok None))
    → Sends k1 k2 (line_text traces trace text) (Err stop) → Shows w1 trace w2 → RunsLines script traces last s s2 k k2 w w2 (Err stop)
line_unsent script traces last s s1 s2 k k1 k2 w w1 w2 reader reader2 represents represents2 trace text fault stop h read runs sends shows =
    unsent script traces last s s1 s2 k k1 k2 w w1 w2 reader reader2 represents (line_text traces trace text) trace None stop h read
    ((runs (h.state [] false) (h.represented [] false)).cause) (
    λ left at sectors read_only outcomes told.
    let ran = runs (h.state sectors read_only) (h.represented sectors read_only) in
    let (left2, told2, goes_on) = ran.goes_on left told in
    let (did, is_trace, is_text, goes) = goes_on in
    let end : ℕ = at + length reader2.line in
    begins_line traces end did ran.next (report_left script reader left at (h.state sectors read_only) sectors outcomes)
    (report_left script reader2 left2 (end + 1) ran.next sectors outcomes) trace text is_trace is_text (goes at sectors outcomes)
    ) sends shows

-- and of a fault
pub fault_unsent : {S : Type 0} (script : Script S) (traces : Bool) (last : List (List ℕ) → List Bool → List ℕ) (s s1 s2 : SourceView) (k k1 k2 : SinkView) (w w1 : Option (List ℕ)) (reader reader2 : ReaderView) (represents represents2 : S → Type 0) (trace text fault : List ℕ) (status : ℕ) (stop : Stop)
    → Reaches script traces s s1 k k1 w w1 reader represents → ReadsNext s1 s2 reader reader2 (Ok (Some status))
    → ((state : S) → represents state → RunsNext script s1 s2 reader reader2 state represents2 trace text fault (Ok (Some status)))
    → Sends k1 k2 fault (Err stop) → RunsLines script traces last s s2 k k2 w w1 (Err stop)
fault_unsent script traces last s s1 s2 k k1 k2 w w1 reader reader2 represents represents2 trace text fault status stop h read runs sends =
    unsent script traces last s s1 s2 k k1 k2 w w1 w1 reader reader2 represents fault [] (Some status) stop h read
    ((runs (h.state [] false) (h.represented [] false)).cause.1) (
    λ left at sectors read_only outcomes told.
    let ran = runs (h.state sectors read_only) (h.represented sectors read_only) in
    let (left2, told2, goes_on) = ran.goes_on left told in
    begins_ended traces (report_left script reader left at (h.state sectors read_only) sectors outcomes) fault (last_text (script.last ran.next sectors outcomes) status)
    status (goes_on.0 at sectors outcomes)
    ) sends (shows_none w1)

-- no line was read or run
next_stop : (stop : Stop) (s s1 s2 : SourceView) (k k1 : SinkView) → s1.faults ≡ s.faults → k1.faults ≡ k.faults → NextCause (Err stop) s1.faults s2.faults → RunCause (Err stop) s s2 k k1
next_stop Read s s1 s2 k k1 calm still h = (rw calm at h, still)
next_stop Write s s1 s2 k k1 calm still h = absurd h
next_stop Memory s s1 s2 k k1 calm still h = (h ∙ calm, still)

pub lines_stopped : {S : Type 0} (script : Script S) (traces : Bool) (last : List (List ℕ) → List Bool → List ℕ) (s s1 s2 : SourceView) (k k1 : SinkView) (w w1 : Option (List ℕ)) (reader reader2 : ReaderView) (represents represents2 : S → Type 0) (trace text fault : List ℕ) (stop : Stop)
    → Reaches script traces s s1 k k1 w w1 reader represents → ReadsNext s1 s2 reader reader2 (Err stop)
    → ((state : S) → represents state → RunsNext script s1 s2 reader reader2 state represents2 trace text fault (Err stop))
    → RunsLines script traces last s s2 k k1 w w1 (Err stop)
lines_stopped script traces last s s1 s2 k k1 w w1 reader reader2 represents represents2 trace text fault stop h read runs = record {
  takes = takes_most s.left s2.left reader2 (takes_then s.left s1.left s2.left new_reader reader reader2 h.takes read.takes) read.within;
  cause = next_stop stop s s1 s2 k k1 h.calm h.still (runs (h.state [] false) (h.represented [] false)).cause;
  sent = h.sent ++ [];
  adds = adds_then k.written k1.written k1.written h.sent [] h.adds (adds_none k1.written);
  shown = h.shown ++ [];
  shows = shows_then w w1 w1 h.shown [] h.shows (shows_none w1);
  reads = λ input told. tt;
  done = λ input sectors read_only outcomes told.
      let (left, told1, lines, is_sent, is_shown, at, reached) = h.reached input sectors read_only told in
      let next = report_left script reader left at (h.state sectors read_only) sectors outcomes in
      begins_behind traces lines (reporting script input sectors read_only outcomes) next h.sent h.shown [] [] is_sent is_shown (reached outcomes)
      (begins_none traces next);
}
