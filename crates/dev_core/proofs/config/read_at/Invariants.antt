use Rattle.std.proofs.Common.{◌≡◌, take}
use Rattle.dev_core.specs.Config.{bytes_at}
use Rattle.dev_core.proofs.config.read_at.Given as goal

abbrev pub invariant-room : goal.invariant-room
invariant-room l = take l.i l.room ≡ bytes_at l.bytes l.fn.at l.i
