use Rattle.std.proofs.Common.{◌≡◌, ◌+◌, arith}
use Rattle.vq_split_dev.proofs.device.SplitDevice.signals.Goals as goal

pub returns-else-self : goal.returns-else-self
returns-else-self c =
    let flags : c.self.inside.cfg.driver + 0 ≡ c.self.inside.cfg.driver = omega arith in
    rw (← c.self.view_is, c.if-self.false, c.le16_at-else-self.ensures, flags)
