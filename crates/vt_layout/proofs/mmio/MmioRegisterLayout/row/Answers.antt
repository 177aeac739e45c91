use Rattle.std.proofs.Common.{Some, ◌∙◌, ap, sym}
use Rattle.std.specs.Option.{option_map}
use Rattle.std.proofs.lemmas.Option.{slice_get-map}
use Rattle.vt_layout.specs.Mmio.{row_of, registers}
use Rattle.vt_layout.proofs.mmio.MmioRegisterLayout.row.Goals as goal

pub returns-in-Some : goal.returns-in-Some
returns-in-Some c =
    slice_get-map row_of registers c.args.n ∙ ap (option_map row_of) (sym c.of_row.ensures ∙ c.in-Some.is) ∙ ap Some (sym c.row.ensures)
