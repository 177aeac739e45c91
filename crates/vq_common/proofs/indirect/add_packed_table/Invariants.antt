use Rattle.std.proofs.Common.{◌≡◌, ◌≤◌, ◌+◌, ◌-◌, ◌*◌, ◌++◌, length}
use Rattle.vq_common.specs.Table.{packed_table}
use Rattle.vq_common.proofs.indirect.add_packed_table.Given as goal

abbrev pub invariant-packed : goal.invariant-packed
invariant-packed l = record {
  room : length l.pieces.items + l.count ≤ 8 + l.location;
  rest : l.fn.pieces.items ++ packed_table l.count l.mem.bytes l.addr ≡ l.pieces.items ++ packed_table (l.count - l.location) l.mem.bytes (l.addr + 16 * l.location);
}
