use Rattle.std.proofs.Common.{◌≡◌, ℕ, ◌+◌, ◌-◌, ◌<◌, List, length, get_or, drop, sum, ap, subst, arith}
use Rattle.std.specs.List.{slice_get}
use Rattle.std.proofs.lemmas.Grind.{common_steps}
use Rattle.vt_types.specs.Access.{AccessValue}
use Rattle.vt_types.specs.Program.{Does, cost_of_all}
use Rattle.vq_split_drv.proofs.Described.{described_as, puts_cost, puts_does, puts_from}
use Rattle.vq_split_drv.proofs.ring.Ring.put_direct.Goals as goal

pub pieces-preserved : goal.pieces-preserved
pieces-preserved g c =
    let base : ℕ = c.args.self.now.base in
    let lengths : List ℕ = c.args.buf.now.cuts.items in
    let locations : List ℕ = c.args.locations.now in
    let addr : ℕ = c.pieces.pieces.addr in
    let readable : ℕ = c.pieces.pieces.readable in
    let i : ℕ = c.pieces.i in
    let is : c.as_slice-len-items.result.now ≡ lengths = c.as_slice-len-items.ensures.value in
    let at : get_or c.as_slice-len-items.result.now i 0 ≡ get_or lengths i 0 = ap (λ (ns : List ℕ). get_or ns i 0) is in
    let less : i < length lengths = omega (arith, ap length is, c.pieces-test.true) in
    let addr2 : c.describe-descriptor.new.pieces.addr ≡ addr + get_or lengths i 0 = omega (arith, c.describe-descriptor.ensures.addr, at) in
    let rest = puts_from base (drop (i + 1) lengths) (drop (i + 1) locations) (drop (i + 1 + 1) locations) c.describe-descriptor.new.pieces.addr (addr + get_or lengths i 0) c.describe-descriptor.new.pieces.readable (readable - 1) addr2 c.describe-descriptor.ensures.readable in
    let described = described_as addr readable (get_or c.as_slice-len-items.result.now i 0) (get_or lengths i 0) c.location_at.result (slice_get locations (i + 1)) c.describe-descriptor.result c.describe-descriptor.ensures.descriptor at c.location_at.ensures in
    let long : length c.to_bytes.result ≡ 16 = ap length c.to_bytes.ensures in
    let left : sum (drop i lengths) ≡ get_or lengths i 0 + sum (drop (i + 1) lengths) = grind (arith, common_steps) in
    record {
      fits = omega (arith, c.pieces.invariant.fits);
      credit = omega (arith, c.pieces.invariant.credit, c.put.ensures.credit, ap cost_of_all rest, puts_cost base addr readable lengths locations i c.from.result c.to_bytes.result c.requires.locations less c.from.ensures long);
      whole = λ p2 more. c.pieces.invariant.whole p2 (puts_does g.P.Port.step g.P.Port.marking base addr readable lengths locations i c.from.result c.describe-descriptor.result c.to_bytes.result _ _ p2 c.requires.locations less c.from.ensures c.to_bytes.ensures described c.put.ensures.does
          (subst (λ (xs : List AccessValue). Does g.P.Port.step g.P.Port.marking xs c.put.new.port p2) rest more));
    }
