use Rattle.std.proofs.Common.{◌≡◌, ℕ, ◌+◌, ◌*◌, List, [], ◌∷◌, length, ap, ◌∙◌, arith}
use Rattle.vt_types.specs.Access.{Put}
use Rattle.port_access.proofs.InOrder.{does_put_at, does_then}
use Rattle.vt_layout.specs.QueueBlock.{data_address, table_address}
use Rattle.vq_common.specs.PackedDescriptor.{packed_descriptor_bytes}
use Rattle.vq_common.specs.Piece.{pieces_from}
use Rattle.vq_packed_drv.specs.Post.{naming_descriptor, packed_table_bytes}
use Rattle.vq_packed_drv.proofs.ring.Ring.put_indirect.Goals as goal

pub returns-clause-does : goal.returns-clause-does
returns-clause-does g c =
    let s = c.args.self.now in
    let id : ℕ = c.args.id in
    let readable : ℕ = c.args.buf.now.nread in
    let lengths : List ℕ = c.args.buf.now.cuts.items in
    let wrap = s.available.wrap in
    let table : List ℕ = packed_table_bytes (pieces_from (data_address s.base id) readable lengths) in
    let location : s.base + 0x20000 + 128 * c.from.result ≡ table_address s.base id = omega (arith, c.from.ensures) in
    let is : c.as_slice.result.now ≡ lengths = c.as_slice.ensures.value in
    let long : c.len.result ≡ 16 * length lengths = c.len.ensures.value ∙ c.add_table.ensures.long ∙ ap (λ (ns : List ℕ). 16 * length ns) is in
    let bytes : c.as_slice-2.result.now ≡ table
    = c.as_slice-2.ensures.value
    ∙ c.add_table.ensures.bytes
    ∙ ap (λ (a : ℕ). packed_table_bytes (pieces_from a readable c.as_slice.result.now)) c.data.ensures.value
    ∙ ap (λ (ns : List ℕ). packed_table_bytes (pieces_from (data_address s.base id) readable ns)) is
    in
    let named : c.to_bytes.result ≡ packed_descriptor_bytes (naming_descriptor s.base id (length lengths) wrap)
    = c.to_bytes.ensures
    ∙ ap (λ (a : ℕ). packed_descriptor_bytes (record { addr = a; len = c.len.result; id = id; flags = 4 + c.available-available.result.0 })) location
    ∙ ap (λ (n : ℕ). packed_descriptor_bytes (record { addr = table_address s.base id; len = n; id = id; flags = 4 + c.available-available.result.0 })) long
    ∙ ap (λ (n : ℕ). packed_descriptor_bytes (record { addr = table_address s.base id; len = 16 * length lengths; id = id; flags = 4 + n })) c.available-available.ensures
    in
    does_then g.P.Port.step g.P.Port.marking
    (Put (table_address s.base id) table ∷ [])
    (Put (s.base + 16 * s.available.location) (packed_descriptor_bytes (naming_descriptor s.base id (length lengths) wrap)) ∷ [])
    c.args.port.now c.put.new.port c.put-2.new.port
    (does_put_at g.P.Port.step g.P.Port.marking _ _ _ _ c.args.port.now c.put.new.port location bytes c.put.ensures.does)
    (does_put_at g.P.Port.step g.P.Port.marking _ _ _ _ c.put.new.port c.put-2.new.port c.location.ensures named c.put-2.ensures.does)
