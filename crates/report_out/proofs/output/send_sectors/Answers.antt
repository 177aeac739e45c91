use Rattle.std.proofs.Common.{[], arith, ◌+◌, ◌++◌, drop, refl}
use Rattle.report_out.specs.Pieces.{line_of_sector, lines_below}
use Rattle.report_out.proofs.EndLaws.{lines_more, lines_front, whole_then}
use Rattle.report_out.proofs.SendLaws.{disk_as, disk_front, disk_then, disk_unasked, sends_none}
use Rattle.report_out.proofs.output.send_sectors.Goals as goal

pub sectors-init : goal.sectors-init
sectors-init g c = record { spare = c.requires.spare; sends = disk_unasked [] _ _ _ _ (sends_none (g.K.Sink.view c.args.sink.now)) }

pub send_sector-requires-clause-whole : goal.send_sector-requires-clause-whole
send_sector-requires-clause-whole g c = whole_then _ _ c.sectors.invariant.sends.disk c.requires.whole

pub returns-in-Err-clause-sends : goal.returns-in-Err-clause-sends
returns-in-Err-clause-sends g c =
    disk_front (λ image outcomes. lines_below c.sectors.n image outcomes ++ line_of_sector c.sectors.n image (drop c.sectors.n outcomes)) (lines_below c.args.count) (c.sectors.n + 1) c.args.count _ _ _ _ _
    (omega arith)
    (λ image outcomes told. rw (lines_more c.sectors.n image outcomes) (lines_front (c.sectors.n + 1) c.args.count image outcomes (omega arith)))
    (disk_then (lines_below c.sectors.n) (line_of_sector c.sectors.n) c.sectors.n 1 _ _ _ _ _ _ _ c.sectors.invariant.sends c.in-Err.ensures.sends)

pub sectors-preserved : goal.sectors-preserved
sectors-preserved g c = record {
  spare = c.in-Ok.ensures.spare;
  sends =
      disk_as (λ image outcomes. lines_below c.sectors.n image outcomes ++ line_of_sector c.sectors.n image (drop c.sectors.n outcomes)) (lines_below (c.sectors.n + 1)) (c.sectors.n + 1) (c.sectors.n + 1) _ _ _ _ _
      refl
      (λ image outcomes told. lines_more c.sectors.n image outcomes)
      (disk_then (lines_below c.sectors.n) (line_of_sector c.sectors.n) c.sectors.n 1 _ _ _ _ _ _ _ c.sectors.invariant.sends c.in-Ok.ensures.sends);
}
