-- The areas of a ring that lie inside memory, as bounds.
use Rattle.std.proofs.Common.{ℕ, ◌+◌, ◌*◌, ◌%◌, ◌<◌, ◌≤◌, IsTrue, arith}
use Rattle.std.specs.Prelude.{nat_le, ◌&&◌}
use Rattle.std.proofs.Math.Nat.{mod-lt}
use Rattle.std.proofs.lemmas.Bool.{and_parts, leb-true}
use Rattle.vq_common.specs.declared.chain.RingCfg.{RingCfg}
use Rattle.vq_common.specs.Queue.{DeviceQueue}
use Rattle.vq_split_dev.specs.Walk.{split_areas_inside}

-- the three areas end inside a memory of this length
pub record HasAreas (memory : ℕ) (c : RingCfg) : Type 0 where
  pub desc : c.desc + 16 * c.size ≤ memory
  pub driver : c.driver + (6 + 2 * c.size) ≤ memory
  pub device : c.device + (6 + 8 * c.size) ≤ memory

-- they do where the test says so
pub HasAreas-from_test : (memory : ℕ) (c : RingCfg) → IsTrue (split_areas_inside memory c) → HasAreas memory c
HasAreas-from_test memory c test =
    let (others, device) = and_parts (nat_le (c.desc + 16 * c.size) memory && nat_le (c.driver + (6 + 2 * c.size)) memory) (nat_le (c.device + (6 + 8 * c.size)) memory) test in
    let (desc, driver) = and_parts (nat_le (c.desc + 16 * c.size) memory) (nat_le (c.driver + (6 + 2 * c.size)) memory) others in
    record { desc = leb-true _ _ desc; driver = leb-true _ _ driver; device = leb-true _ _ device }

-- where the next used element stands
abbrev pub element_address : DeviceQueue → ℕ
element_address q = q.cfg.device + (4 + 8 * (q.used % q.cfg.size))

-- the next used element ends inside memory
pub element_inside : (memory : ℕ) (q : DeviceQueue) → HasAreas memory q.cfg → 0 < q.cfg.size → element_address q + 8 ≤ memory
element_inside memory q areas some =
    let location : q.used % q.cfg.size < q.cfg.size = mod-lt q.used some in
    omega (arith, areas.device)
