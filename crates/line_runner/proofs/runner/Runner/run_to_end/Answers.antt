use Rattle.std.proofs.Common.{arith, rules}
use Rattle.line_runner.proofs.RunLaws.{fault_unsent, line_unsent, lines_end, lines_stopped, reaches_next, reaches_none}
use Rattle.line_runner.proofs.runner.Runner.run_to_end.Goals as goal

pub lines-init : goal.lines-init
lines-init g c = record {
  number = search rules;
  counted = search rules;
  spare = search rules;
  disk = search rules;
  reached = reaches_none _ _ _ _ _ _ _ _ c.requires.new c.requires.start;
}

pub returns-in-Err-clause-runs : goal.returns-in-Err-clause-runs
returns-in-Err-clause-runs g c = λ last is_last.
    lines_stopped _ _ last _ _ _ _ _ _ _ _ _ _ _ _ _ _ _ c.lines.invariant.reached c.in-Err.ensures.reads c.in-Err.ensures.runs

pub returns-in-Ok-clause-runs : goal.returns-in-Ok-clause-runs
returns-in-Ok-clause-runs g c = λ last is_last.
    lines_end _ _ last _ _ _ _ _ _ _ _ _ _ _ _ _ _ _ _ is_last c.lines.invariant.reached (rw c.in-Ok-Some.field-0-is at c.in-Ok-Some.ensures.reads)
    (rw c.in-Ok-Some.field-0-is at c.in-Ok-Some.ensures.runs) (rw (c.bytes.ensures, c.in-Ok.is) at c.send.ensures)

pub returns-in-Err-send-clause-runs : goal.returns-in-Err-send-clause-runs
returns-in-Err-send-clause-runs g c = λ last is_last.
    fault_unsent _ _ last _ _ _ _ _ _ _ _ _ _ _ _ _ _ _ _ _ c.lines.invariant.reached (rw c.in-Ok-Some.field-0-is at c.in-Ok-Some.ensures.reads)
    (rw c.in-Ok-Some.field-0-is at c.in-Ok-Some.ensures.runs) (rw (c.bytes.ensures, c.in-Err-send.is) at c.send.ensures)

pub returns-in-Err-tell_line-clause-runs : goal.returns-in-Err-tell_line-clause-runs
returns-in-Err-tell_line-clause-runs g c = λ last is_last.
    line_unsent _ _ last _ _ _ _ _ _ _ _ _ _ _ _ _ _ _ _ _ c.lines.invariant.reached (rw c.in-Ok-None.field-0-is at c.in-Ok-None.ensures.reads)
    (rw c.in-Ok-None.field-0-is at c.in-Ok-None.ensures.runs) (rw c.in-Err-tell_line.is at c.tell_line.ensures.sends) c.tell_line.ensures.shows

pub lines-preserved : goal.lines-preserved
lines-preserved g c =
    let read = rw c.in-Ok-None.field-0-is at c.in-Ok-None.ensures.reads in
    record {
      number = c.in-Ok-None.ensures.number;
      counted = omega (arith, read.counts, c.in-Ok-None.ensures.number, c.lines.invariant.number, c.lines.invariant.counted);
      spare = c.in-Ok-None.ensures.spare;
      disk = search rules;
      reached =
          reaches_next _ _ _ _ _ _ _ _ _ _ _ _ _ _ _ _ _ _ c.lines.invariant.reached read (rw c.in-Ok-None.field-0-is at c.in-Ok-None.ensures.runs)
          (rw c.in-Ok-tell_line.is at c.tell_line.ensures.sends) c.tell_line.ensures.shows;
    }
