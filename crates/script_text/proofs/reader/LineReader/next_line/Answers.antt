use Rattle.std.proofs.Common.{rules, ◌+◌, length, sym, ap, ◌∙◌, arith}
use Rattle.script_text.specs.Lines.{ReaderView}
use Rattle.script_text.proofs.TakenLaws.{takes_then, takes_kept, takes_more, knows_more, line_kept, rest_kept}
use Rattle.std.specs.Prelude.{◌==◌}
use Rattle.std.proofs.lemmas.Grind.{common_steps}
use Rattle.script_text.proofs.LineLaws.{found}
use Rattle.script_text.proofs.ReaderLaws.{line_told, over_told, rest_told}
use Rattle.script_text.proofs.reader.LineReader.next_line.Goals as goal

pub returns-in-Some-clause-told : goal.returns-in-Some-clause-told
returns-in-Some-clause-told g c =
    line_told c.answer.result c.args.self.now c.reads.self c.answer.new.self (g.S.Source.view c.args.source.now) (g.S.Source.view c.reads.source) c.in-Some.len c.reads.searched c.reads.invariant.searching
    (sym c.in-Some.ensures) c.answer.ensures

pub returns-then-searched-room-clause-told : goal.returns-then-searched-room-clause-told
returns-then-searched-room-clause-told g c =
    let held = c.held-searched.ensures in
    let room = c.room.ensures in
    let more = c.if-searched-room.true in
    over_told c.args.self.now c.reads.self (g.S.Source.view c.args.source.now) (g.S.Source.view c.reads.source) c.reads.searched c.reads.invariant.searching
    (sym c.in_default.ensures) (omega (arith, ap length held, room, more))

pub returns-then-self-clause-told : goal.returns-then-self-clause-told
returns-then-self-clause-told g c =
    let held = c.held-searched.ensures in
    let room = c.room.ensures in
    let few = c.if-searched-room.false in
    rest_told c.answer_rest.result c.args.self.now c.reads.self c.answer_rest.new.self (g.S.Source.view c.args.source.now) (g.S.Source.view c.reads.source) c.reads.searched c.reads.invariant.searching
    (ap (λ (r : ReaderView). r.ended) (sym c.self.view_is) ∙ c.if-self.true) (sym c.in_default.ensures) (omega (arith, ap length held, room, few)) c.answer_rest.ensures

pub returns-in-Some-clause-takes : goal.returns-in-Some-clause-takes
returns-in-Some-clause-takes g c =
    let (same, within) = found (λ b. b == 10) c.reads.self.held c.in-Some.len (sym c.in-Some.ensures) in
    takes_kept _ _ _ _ _ (c.reads.invariant.searching).takes (line_kept c.answer.result c.reads.self c.answer.new.self c.in-Some.len (c.in-Some.len + 1) (omega arith) c.answer.ensures)

pub returns-then-self-clause-takes : goal.returns-then-self-clause-takes
returns-then-self-clause-takes g c =
    takes_kept _ _ _ _ _ (c.reads.invariant.searching).takes (rest_kept c.answer_rest.result c.reads.self c.answer_rest.new.self c.answer_rest.ensures)

pub reads-preserved : goal.reads-preserved
reads-preserved g c =
    let searching = c.reads.invariant.searching in
    let (came, e, gave, calm) = (c.in_ok-read.ensures).more in
    record {
      searching = record {
        answered = search rules;
        number = search rules;
        input = grind (arith, common_steps);
        calm = search rules;
        within = grind (arith, common_steps);
        none = grind (arith, common_steps);
        takes = takes_then _ _ _ _ _ _ searching.takes (rw e (takes_more came _ _ c.reads.self gave));
        ends = λ knows. rw e (knows_more came _ _ c.reads.self gave);
      };
      still = search rules;
    }
