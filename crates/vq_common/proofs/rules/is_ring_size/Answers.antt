use Rattle.std.proofs.Common.{ap, ◌∙◌}
use Rattle.std.specs.Prelude.{◌&&◌, nat_le}
use Rattle.vq_common.proofs.QueueLaws.{ring_size_test}
use Rattle.vq_common.proofs.rules.is_ring_size.Goals as goal

pub returns-then-is_power_of_two : goal.returns-then-is_power_of_two
returns-then-is_power_of_two c = ap (λ b. b && nat_le c.args.size 1024) c.if-is_power_of_two.ensures ∙ ring_size_test c.args.size

pub returns-else-is_power_of_two : goal.returns-else-is_power_of_two
returns-else-is_power_of_two c =
    c.if-is_power_of_two.false ∙ ap (λ b. b && nat_le c.args.size 1024) c.if-is_power_of_two.ensures ∙ ring_size_test c.args.size
