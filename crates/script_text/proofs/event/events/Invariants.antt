use Rattle.std.proofs.Common.{◌≡◌, ◌-◌, length}
use Rattle.vt_types.specs.Events.{MOST_EVENTS}
use Rattle.vt_types.specs.Within.{AreEventsWithin}
use Rattle.script_text.specs.Event.{events_from}
use Rattle.script_text.proofs.EventLaws.{with_front}
use Rattle.script_text.proofs.event.events.Given as goal

abbrev pub invariant-events : goal.invariant-events
invariant-events l = record {
  same : with_front MOST_EVENTS l.events l.words ≡ events_from MOST_EVENTS 0 l.fn.words;
  within : AreEventsWithin l.events;
}

abbrev pub decreases-events : goal.decreases-events
decreases-events l = MOST_EVENTS - length l.events
