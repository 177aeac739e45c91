use Rattle.report_text.proofs.HexNumber.{hex_number-trimmed}
use Rattle.report_text.proofs.text.Text.hex_number.Goals as goal

pub returns-clause-added : goal.returns-clause-added
returns-clause-added c =
    let trimmed = hex_number-trimmed c.args.least c.args.n c.all_digits-digits.result c.requires.some c.requires.few c.ranges.n.fits c.all_digits-digits.ensures in
    rw trimmed at (rw c.leading_zeros-zeros.ensures.count at c.add.ensures)
