use Rattle.std.proofs.Common.{ap, ◌∙◌}
use Rattle.vq_posted.specs.Members.{is_member}
use Rattle.vq_posted.proofs.Words.{member_of_zeros}
use Rattle.vq_posted.proofs.number_set.NumberSet.new.Goals as goal

pub returns-clause-empty : goal.returns-clause-empty
returns-clause-empty c =
    λ n. ap (λ ws. is_member ws n) (c.in_ok-words.ensures.items_if_clones_equal (λ y e. e)) ∙ member_of_zeros _ n
