use Rattle.std.proofs.Common.{◌≡◌, ◌-◌}
use Rattle.vq_common.specs.Descriptor.{chain_from}
use Rattle.vq_split_dev.specs.Walk.{chain_shown}
use Rattle.vq_split_dev.proofs.ChainLaws.{joined}
use Rattle.vq_split_dev.proofs.walk.walk.Given as goal

abbrev pub invariant-descriptors : goal.invariant-descriptors
invariant-descriptors l =
    chain_shown l.mem.bytes l.cfg l.head ≡ joined l.mem.bytes l.cfg l.head l.index l.pieces.items (chain_from (l.cfg.size - l.index) l.mem.bytes l.cfg.desc l.cfg.size l.location)
