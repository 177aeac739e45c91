use Rattle.std.proofs.Common.{◌≡◌, ◌<◌, ◌≤◌, length, sym, ◌∙◌, arith}
use Rattle.std.proofs.lemmas.Result.{err_from_is_err_and}
use Rattle.vt_types.specs.declared.operation.EventAt.{EventAt}
use Rattle.vt_types.specs.Events.{last_gap}
use Rattle.script_text.specs.Event.{events_from}
use Rattle.vt_types.specs.Within.{IsEventWithin}
use Rattle.script_text.proofs.EventLaws.{front_end, front_full, front_fault, front_falls, front_more, no_front}
use Rattle.script_text.proofs.BoundLaws.{all_none, all_more}
use Rattle.script_text.proofs.event.events.Goals as goal

pub events-init : goal.events-init
events-init c =
    rw c.new-events.ensures (record {
      same = no_front (events_from 128 0 c.args.words.now);
      within = all_none (λ (e : EventAt). IsEventWithin e.event);
    })

pub returns-then-len-eq-MOST_EVENTS-clause-value : goal.returns-then-len-eq-MOST_EVENTS-clause-value
returns-then-len-eq-MOST_EVENTS-clause-value c =
    let e = c.events-test.ensures in
    let full : length c.events.events ≡ 128 = sym c.len.ensures.length ∙ c.if-len-eq-MOST_EVENTS.true in
    sym c.events.invariant.same ∙ front_full 128 c.events.events c.events.words e full

pub returns-in_err-gap-clause-value : goal.returns-in_err-gap-clause-value
returns-in_err-gap-clause-value c =
    let e = c.events-test.ensures in
    let few = c.len.ensures.events.few in
    let room : length c.events.events < 128 = omega (arith, c.len.ensures.length, few, c.if-len-eq-MOST_EVENTS.false) in
    let p = err_from_is_err_and c.from_residual.result c.from_residual.ensures.1 in
    rw (p.1, p.2) (front_fault c.in_err-gap.field-0.0 128 c.events.events c.events.words c.event_at.new.words _ e room c.events.invariant.same (c.in_err-gap.ensures).value)

pub returns-then-gap-last_gap-clause-value : goal.returns-then-gap-last_gap-clause-value
returns-then-gap-last_gap-clause-value c =
    let e = c.events-test.ensures in
    let few = c.len.ensures.events.few in
    let room : length c.events.events < 128 = omega (arith, c.len.ensures.length, few, c.if-len-eq-MOST_EVENTS.false) in
    let h = (c.in_ok-gap.ensures).value in
    let falls : c.in_ok-gap.field-0.gap < last_gap c.events.events = rw c.last_gap.ensures at c.if-gap-last_gap.true in
    sym c.events.invariant.same ∙ front_falls 128 c.events.events c.events.words c.event_at.new.words c.in_ok-gap.field-0 e room h falls

pub events-preserved : goal.events-preserved
events-preserved c =
    let e = c.events-test.ensures in
    let few = c.len.ensures.events.few in
    let room : length c.events.events < 128 = omega (arith, c.len.ensures.length, few, c.if-len-eq-MOST_EVENTS.false) in
    let h = (c.in_ok-gap.ensures).value in
    let rises : last_gap c.events.events ≤ c.in_ok-gap.field-0.gap = rw c.last_gap.ensures at c.if-gap-last_gap.false in
    let pushed = (c.in_ok-push.ensures).ok in
    rw pushed (record {
      same = sym (front_more 128 c.events.events c.events.words c.event_at.new.words c.in_ok-gap.field-0 e room h rises) ∙ c.events.invariant.same;
      within = all_more (λ (e : EventAt). IsEventWithin e.event) c.events.events c.in_ok-gap.field-0 c.events.invariant.within (c.in_ok-gap.ensures).within;
    })

pub returns-clause-value : goal.returns-clause-value
returns-clause-value c =
    let e = c.events-test.ensures in
    sym c.events.invariant.same ∙ front_end 128 c.events.events c.events.words e
