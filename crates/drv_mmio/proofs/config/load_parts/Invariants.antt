use Rattle.std.proofs.Common.{◌+◌, ◌≤◌, length, map, sum, take, drop, All}
use Rattle.vt_layout.specs.Fields.{IsPart}
use Rattle.drv_mmio.specs.Calls.{LoadsParts}
use Rattle.drv_mmio.proofs.config.load_parts.Given as goal

abbrev pub invariant-parts : goal.invariant-parts
invariant-parts g l = record {
  credit : g.P.Port.credit l.fn.port ≤ g.P.Port.credit l.port;
  each : All IsPart (drop l.part-index l.parts);
  few : length l.bytes.items + sum (map (λ p. p.width) (drop l.part-index l.parts)) ≤ 8;
  loads : LoadsParts g.P.Port.step l.dev (take l.part-index l.parts) l.fn.port l.bytes.items l.port;
}
