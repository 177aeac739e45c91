use Rattle.std.proofs.Common.{◌+◌, ◌++◌, arith, drop}
use Rattle.std.specs.Prelude.{codes}
use Rattle.report_out.specs.Pieces.{lines_below}
use Rattle.report_text.specs.EndParts.{disk_line}
use Rattle.report_out.specs.EndText.{disk_text}
use Rattle.report_out.proofs.EndLaws.{disk_ended, disk_opened, disk_told}
use Rattle.report_out.proofs.SendLaws.{disk_as, disk_front, disk_unasked, disk_then}
use Rattle.report_out.proofs.output.send_disk.Goals as goal

pub send_sectors-requires-clause-whole : goal.send_sectors-requires-clause-whole
send_sectors-requires-clause-whole g c = record { whole = rw (← c.sectors-count.ensures.value) c.sectors-count.ensures.whole }

pub returns-in-Err-clause-sends : goal.returns-in-Err-clause-sends
returns-in-Err-clause-sends g c =
    disk_front (λ image outcomes. disk_line c.sectors-count.result) disk_text 0 _ _ _ _ _ _
    (omega arith)
    (λ image outcomes told. disk_opened c.sectors-count.result image outcomes (rw told at c.sectors-count.ensures.whole))
    (disk_unasked (disk_line c.sectors-count.result) _ _ _ _ c.in-Err.ensures.sends)

pub returns-in-Err-send_sectors-clause-sends : goal.returns-in-Err-send_sectors-clause-sends
returns-in-Err-send_sectors-clause-sends g c =
    disk_front (λ image outcomes. disk_line c.sectors-count.result ++ lines_below c.sectors-count.result image (drop 0 outcomes)) disk_text (0 + c.sectors-count.result) _ _ _ _ _ _
    (omega (arith, c.sectors-count.ensures.value))
    (λ image outcomes told. disk_told c.sectors-count.result image outcomes (rw told at c.sectors-count.ensures.whole))
    (disk_then (λ image outcomes. disk_line c.sectors-count.result) (lines_below c.sectors-count.result) 0 c.sectors-count.result _ _ _ _ _ _ _
    (disk_unasked (disk_line c.sectors-count.result) _ _ _ _ c.in-Ok.ensures.sends)
    c.in-Err-send_sectors.ensures.sends)

pub returns-clause-sends : goal.returns-clause-sends
returns-clause-sends g c =
    disk_as (λ image outcomes. disk_line c.sectors-count.result ++ lines_below c.sectors-count.result image (drop 0 outcomes) ++ codes "end\n") disk_text (0 + c.sectors-count.result + 0) _ _ _ _ _ _
    (omega (arith, c.sectors-count.ensures.value))
    (λ image outcomes told. disk_ended c.sectors-count.result image outcomes (rw told at c.sectors-count.ensures.whole))
    (disk_then (λ image outcomes. disk_line c.sectors-count.result ++ lines_below c.sectors-count.result image (drop 0 outcomes)) (λ image outcomes. codes "end\n") (0 + c.sectors-count.result) 0 _ _ _ _ _ _ _
    (disk_then (λ image outcomes. disk_line c.sectors-count.result) (lines_below c.sectors-count.result) 0 c.sectors-count.result _ _ _ _ _ _ _
    (disk_unasked (disk_line c.sectors-count.result) _ _ _ _ c.in-Ok.ensures.sends)
    c.in-Ok-send_sectors.ensures.sends)
    (disk_unasked (codes "end\n") _ _ _ _ c.send.ensures))
