use Rattle.std.proofs.Common.{◌≡◌, ℕ, ◌+◌, ◌*◌, List, [], ◌∷◌, length, ap, ◌∙◌, arith}
use Rattle.vt_types.specs.Access.{Put}
use Rattle.port_access.proofs.InOrder.{does_put_at, does_then}
use Rattle.vq_common.specs.Descriptor.{descriptor_bytes}
use Rattle.vt_layout.specs.QueueBlock.{data_address, table_address}
use Rattle.vq_posted.specs.Free.{numbers}
use Rattle.vq_split_drv.specs.Post.{descriptors_of, table_bytes}
use Rattle.vq_split_drv.proofs.ring.Ring.put_indirect.Goals as goal

pub returns-clause-does : goal.returns-clause-does
returns-clause-does g c =
    let base : ℕ = c.args.self.now.base in
    let head : ℕ = c.args.head in
    let readable : ℕ = c.args.buf.now.nread in
    let lengths : List ℕ = c.args.buf.now.cuts.items in
    let table : List ℕ = table_bytes (descriptors_of (data_address base head) readable lengths (numbers 1 (length lengths))) in
    let location : base + 0x20000 + 128 * c.from.result ≡ table_address base head = omega (arith, c.from.ensures) in
    let location2 : base + 16 * c.from-2.result ≡ base + 16 * head = omega (arith, c.from-2.ensures) in
    let is : c.as_slice.result.now ≡ lengths = c.as_slice.ensures.value in
    let long : c.len.result ≡ 16 * length lengths = c.len.ensures.value ∙ c.add_table.ensures.long ∙ ap (λ (ns : List ℕ). 16 * length ns) is in
    let bytes : c.as_slice-2.result.now ≡ table
    = c.as_slice-2.ensures.value
    ∙ c.add_table.ensures.bytes
    ∙ ap (λ (a : ℕ). table_bytes (descriptors_of a readable c.as_slice.result.now (numbers 1 (length c.as_slice.result.now)))) c.data.ensures.value
    ∙ ap (λ (ns : List ℕ). table_bytes (descriptors_of (data_address base head) readable ns (numbers 1 (length ns)))) is
    in
    let named : c.to_bytes.result ≡ descriptor_bytes (record { addr = table_address base head; len = 16 * length lengths; flags = 4; next = 0 })
    = c.to_bytes.ensures
    ∙ ap (λ (a : ℕ). descriptor_bytes (record { addr = a; len = c.len.result; flags = 4; next = 0 })) location
    ∙ ap (λ (n : ℕ). descriptor_bytes (record { addr = table_address base head; len = n; flags = 4; next = 0 })) long
    in
    does_then g.P.Port.step g.P.Port.marking
    (Put (table_address base head) table ∷ [])
    (Put (base + 16 * head) (descriptor_bytes (record { addr = table_address base head; len = 16 * length lengths; flags = 4; next = 0 })) ∷ [])
    c.args.port.now c.put.new.port c.put-2.new.port
    (does_put_at g.P.Port.step g.P.Port.marking _ _ _ _ c.args.port.now c.put.new.port location bytes c.put.ensures.does)
    (does_put_at g.P.Port.step g.P.Port.marking _ _ _ _ c.put.new.port c.put-2.new.port location2 named c.put-2.ensures.does)
