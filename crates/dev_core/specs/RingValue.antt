use Rattle.dev_core.specs.declared.ring.Ring.{Ring}
use Rattle.dev_core.specs.declared.ring.Ring.TheVariants as ring
use Rattle.dev_core.specs.declared.ring.RingKind.TheVariants.{Split}
use Rattle.dev_core.specs.Ring.{SetRing}

-- a ring that is set, as contracts see it
abbrev pub ring_value : Ring → SetRing
ring_value (ring.Split end) = record { kind = Split; queue = end }
