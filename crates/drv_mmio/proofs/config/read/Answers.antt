use Rattle.std.proofs.Common.{◌≡◌, ℕ, suc, ◌+◌, ◌-◌, sym, subst, arith}
use Rattle.vt_types.specs.Program.{Gives}
use Rattle.vt_types.specs.Reply.{Value}
use Rattle.drv_core.specs.Driver.{Ended}
use Rattle.drv_mmio.specs.Lowering.{readcfg_lowering}
use Rattle.drv_mmio.proofs.Rounds.{agrees, differs}
use Rattle.drv_mmio.proofs.config.read.Goals as goal

pub returns-then-round : goal.returns-then-round
returns-then-round g c = λ known.
    let left : ℕ = c.args.repeats - (c.rounds._repeat + 1) in
    let one_more : c.args.repeats - c.rounds._repeat ≡ suc left = omega (arith, c.rounds-test.true) in
    let end : Ended = record { reply = Value c.make_round-round.result.bytes.items; known = known } in
    c.rounds.invariant known end c.mark.new.self
    (subst (λ (n : ℕ). Gives g.P.Port.step g.P.Port.marking (readcfg_lowering known c.args.dev c.args.field n) c.rounds.port end c.mark.new.self) (sym one_more)
    (agrees g.P.Port.step g.P.Port.marking known c.args.dev c.args.field c.rounds.port c.make_round-round.new.port c.make_round-round.result.before c.make_round-round.result.after c.make_round-round.result.bytes.items c.make_round-round.ensures left c.mark.new.self c.if-round.true c.mark.ensures.marking))

pub rounds-preserved : goal.rounds-preserved
rounds-preserved g c = λ known end p2 more.
    let left : ℕ = c.args.repeats - (c.rounds._repeat + 1) in
    let one_more : c.args.repeats - c.rounds._repeat ≡ suc left = omega (arith, c.rounds-test.true) in
    c.rounds.invariant known end p2
    (subst (λ (n : ℕ). Gives g.P.Port.step g.P.Port.marking (readcfg_lowering known c.args.dev c.args.field n) c.rounds.port end p2) (sym one_more)
    (differs g.P.Port.step g.P.Port.marking known c.args.dev c.args.field c.rounds.port c.make_round-round.new.port c.make_round-round.result.before c.make_round-round.result.after c.make_round-round.result.bytes.items c.make_round-round.ensures left end p2 c.if-round.false more))
