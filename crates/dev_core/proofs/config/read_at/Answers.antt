use Rattle.std.proofs.Common.{◌<◌, length, arith}
use Rattle.std.proofs.lemmas.List.{take_more_set}
use Rattle.dev_core.proofs.ConfigLaws.{bytes_at-more}
use Rattle.dev_core.proofs.config.read_at.Goals as goal

pub room-preserved : goal.room-preserved
room-preserved c =
    let inside : c.room.i < length c.room.room = omega arith in
    rw (take_more_set, bytes_at-more) (cc)
