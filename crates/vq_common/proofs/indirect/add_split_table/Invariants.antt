use Rattle.std.proofs.Common.{◌≡◌, ◌-◌}
use Rattle.vq_common.specs.Descriptor.{chain_from}
use Rattle.vq_common.specs.Table.{pieces_if_direct, pieces_with}
use Rattle.vq_common.proofs.indirect.add_split_table.Given as goal

abbrev pub invariant-walk : goal.invariant-walk
invariant-walk l =
    pieces_with l.fn.pieces.items (pieces_if_direct (chain_from l.count l.mem.bytes l.addr l.count 0))
    ≡ pieces_with l.pieces.items (pieces_if_direct (chain_from (l.count - l._walked) l.mem.bytes l.addr l.count l.location))
