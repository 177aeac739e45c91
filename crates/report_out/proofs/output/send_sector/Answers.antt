use Rattle.report_out.proofs.EndLaws.{sector_sent}
use Rattle.report_out.proofs.output.send_sector.Goals as goal

pub returns-clause-sends : goal.returns-clause-sends
returns-clause-sends g c =
    sector_sent c.args.n _ _ _ _ c.read_sector-read.result c.read_sector-read.new.room c.sector_line.new.text.bytes c.send.result c.requires.there c.requires.whole
    c.read_sector-read.ensures.called c.read_sector-read.ensures.same c.read_sector-read.ensures.ok c.sector_line.ensures.text
    (rw c.bytes.ensures at c.send.ensures)
