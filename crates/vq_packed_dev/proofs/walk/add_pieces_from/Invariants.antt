use Rattle.std.proofs.Common.{◌≡◌, ◌-◌, ◌<◌, length}
use Rattle.vq_common.specs.PackedDescriptor.{packed_descriptor_at}
use Rattle.vq_packed_dev.specs.Walk.{packed_chain_from, packed_chain_shown}
use Rattle.vq_packed_dev.proofs.ChainLaws.{joined}
use Rattle.vq_packed_dev.proofs.walk.add_pieces_from.Given as goal

abbrev pub invariant-descriptors : goal.invariant-descriptors
invariant-descriptors l = record {
  count : length l.pieces.items ≡ l.index;
  location : l.position.location < l.cfg.size;
  next : l.next ≡ packed_descriptor_at l.mem.bytes l.cfg.desc l.position.location;
  whole : packed_chain_shown l.mem.bytes l.cfg l.fn.first_position.location
      ≡ joined l.mem.bytes l.cfg l.index l.pieces.items (packed_chain_from (l.cfg.size - l.index) l.mem.bytes l.cfg l.position.location);
}
