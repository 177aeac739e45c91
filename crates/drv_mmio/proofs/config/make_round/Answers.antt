use Rattle.std.proofs.Common.{List, ◌∙◌, subst}
use Rattle.vt_layout.specs.declared.fields.ConfigPart.{ConfigPart}
use Rattle.drv_mmio.specs.Calls.{LoadsParts}
use Rattle.drv_mmio.proofs.Rounds.{round_made}
use Rattle.drv_mmio.proofs.config.make_round.Goals as goal

pub returns : goal.returns
returns g c =
    round_made g.P.Port.step g.P.Port.marking c.args.dev c.args.field c.args.port.now c.load-before.new.port c.load_parts-bytes.new.port c.load-after.new.port c.load-before.result c.load-after.result c.load_parts-bytes.result.items
    c.load-before.ensures.loads
    (subst (λ (parts : List ConfigPart). LoadsParts g.P.Port.step c.args.dev parts c.load-before.new.port c.load_parts-bytes.result.items c.load_parts-bytes.new.port) (c.as_slice.ensures.value ∙ c.field_parts.ensures.parts) c.load_parts-bytes.ensures.loads)
    c.load-after.ensures.loads
