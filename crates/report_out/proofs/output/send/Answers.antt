use Rattle.std.proofs.Common.{◌≡◌, ℕ, ◌-◌, ◌<◌, ◌∙◌, List, [], ◌∷◌, arith, take, drop, length, length-take, length-drop}
use Rattle.std.proofs.lemmas.Grind.{common_steps}
use Rattle.vt_outside.proofs.SinkLaws.{adds_then, adds_same, take_then}
use Rattle.vt_outside.proofs.TextLaws.{prefix_take}
use Rattle.report_out.proofs.output.send.Goals as goal

-- where bytes are left to be sent, there are some
asked : (sent : ℕ) (bytes : List ℕ) → sent < length bytes → bytes ≡ [] → ⊥
asked sent [] lt e = omega arith
asked sent (b ∷ bytes) lt e = cc

pub loop-sent-preserved : goal.loop-sent-preserved
loop-sent-preserved g c = record {
  bound = let b = (c.in-Ok.ensures).ok.bound in omega (arith, length-take {A = ℕ}, length-drop {A = ℕ}, b);
  calm = (c.in-Ok.ensures).ok.faults ∙ c.loop-sent.invariant.calm;
  unasked = λ e. absurd (asked _ _ c.loop-sent-test.true e);
  adds =
      let b = (c.in-Ok.ensures).ok.adds in
      let e : take (length c.args.bytes.now - c.loop-sent.sent) (drop c.loop-sent.sent c.args.bytes.now) ≡ drop c.loop-sent.sent c.args.bytes.now = grind (arith, common_steps) in
      rw (← take_then c.loop-sent.sent c.in-Ok.n c.args.bytes.now) (adds_then _ _ _ _ _ c.loop-sent.invariant.adds (rw e at b));
}

pub returns-in-Err : goal.returns-in-Err
returns-in-Err g c = record {
  cause = rw c.loop-sent.invariant.calm at (c.in-Err.ensures).err.rose;
  nothing = λ e. absurd (asked _ _ c.loop-sent-test.true e);
  sent = take c.loop-sent.sent c.args.bytes.now;
  adds = adds_same _ _ _ _ c.loop-sent.invariant.adds (c.in-Err.ensures).err.same;
  part = prefix_take _ _;
}
