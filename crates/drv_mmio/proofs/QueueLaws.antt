-- The accesses that describe a queue, one after the other.
use Rattle.std.proofs.Common.{◌≡◌, ℕ, List, refl, subst}
use Rattle.vt_types.specs.declared.access.Answer.{Answer}
use Rattle.vt_types.specs.declared.device.Dev.{Dev}
use Rattle.vt_types.specs.Access.{AccessValue}
use Rattle.vt_types.specs.Program.{Mark, End}
use Rattle.vt_layout.specs.declared.register.MmioRegister.TheVariants.{QueueSel, QueueNumMax, QueueNum, QueueReady}
use Rattle.vq_common.specs.declared.chain.RingCfg.{RingCfg}
use Rattle.drv_mmio.specs.Calls.{ClearsAreas, Describes, Loads, Stores, StoresAreas}
use Rattle.drv_mmio.specs.Lowering.{store}

module _ {P : Type 0} (step : P → AccessValue → Answer → List ℕ → List ℕ → P → Type 0) (marking : P → P → Type 0) where
  pub described : (dev : Dev) (n number size ready most : ℕ) (cfg : RingCfg) (p p1 p2 p3 p4 p5 p6 p7 p8 : P) → number ≡ n → size ≡ cfg.size
      → ClearsAreas step dev n p p1 → Stores step dev QueueSel number p1 p2 → Loads step dev QueueReady p2 ready p3 → Loads step dev QueueNumMax p3 most p4
      → Stores step dev QueueNum size p4 p5 → StoresAreas step marking dev cfg p5 p6 → Stores step dev QueueReady 1 p6 p7 → marking p7 p8
      → Describes step marking dev n cfg p p8
  described dev n number size ready most cfg p p1 p2 p3 p4 p5 p6 p7 p8 same long (a0, r0, t0, s0) selected (a2, r2, t2, s2, w2) (a3, r3, t3, s3, w3) sized areas (a6, r6, t6, s6) m =
      record {
        gives = λ end.
            let (a1, r1, t1, s1) = subst (λ (x : ℕ). Stores step dev QueueSel x p1 p2) same selected in
            let (a4, r4, t4, s4) = subst (λ (x : ℕ). Stores step dev QueueNum x p4 p5) long sized in (
              a0,
              r0,
              t0,
              p1,
              s0,
              (
                a1,
                r1,
                t1,
                p2,
                s1,
                (
                  a2,
                  r2,
                  t2,
                  p3,
                  s2,
                  (
                    a3,
                    r3,
                    t3,
                    p4,
                    s3,
                    (
                      a4,
                      r4,
                      t4,
                      p5,
                      s4,
                      areas.gives (store dev QueueReady 1 (Mark (End end))) end p8 (a6, r6, t6, p7, s6, (p8, m, (refl, refl))),
                    ),
                  ),
                ),
              ),
            );
      }
