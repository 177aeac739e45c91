use Rattle.std.proofs.Common.{◌≤◌, drop, length, refl}
use Rattle.vt_machine.proofs.EventLaws.{next_left, some_left}
use Rattle.vt_machine.proofs.operation_events.OperationEvents.advance.Goals as goal

pub returns : goal.returns
returns c =
    let some : 1 ≤ length (drop c.self.inside.happened c.self.inside.events) = rw (← c.self.view_is) at c.requires in
    rw (← c.self.view_is, next_left _ _ (some_left _ _ some)) refl
