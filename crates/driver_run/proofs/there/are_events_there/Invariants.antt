use Rattle.std.proofs.Common.{◌≡◌, drop}
use Rattle.driver_run.specs.There.{are_events_there}
use Rattle.driver_run.proofs.there.are_events_there.Given as goal

abbrev pub invariant-events : goal.invariant-events
invariant-events l = are_events_there (drop l.n l.events) ≡ are_events_there l.events
