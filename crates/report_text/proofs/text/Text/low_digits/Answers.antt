use Rattle.std.proofs.Common.{◌≡◌, ◌-◌, ◌∙◌, ap, drop, take}
use Rattle.std.specs.Int.{bytes_high_first}
use Rattle.byteorder.proofs.Bytes.{between-bytes_high_first}
use Rattle.report_text.proofs.text.Text.low_digits.Goals as goal

pub returns-clause-added : goal.returns-clause-added
returns-clause-added c =
    let skipped = 8 - c.args.width in
    let bytes : take (8 - skipped) (drop skipped c.to_be_bytes-bytes.result) ≡ bytes_high_first c.args.width c.args.n =
    ap (λ all. take (8 - skipped) (drop skipped all)) c.to_be_bytes-bytes.ensures
    ∙ between-bytes_high_first 8 c.args.width c.args.n c.requires.width in
    rw bytes at c.digits.ensures.added
