use Rattle.std.proofs.Common.{refl, ne_eqb}
use Rattle.vt_outside.specs.DiskCall.{flush_call}
use Rattle.dev_block.specs.Sectors.{flush_by}
use Rattle.dev_block.proofs.CallsLaws.{calls_one, calls_none}
use Rattle.dev_block.proofs.sectors.flush_by.Goals as goal

pub returns-then-mode-eq0 : goal.returns-then-mode-eq0
returns-then-mode-eq0 g c =
    rw c.if-mode-eq0.true (calls_one flush_call _ _ _ _ c.flush.ensures.meets c.flush.ensures.called c.flush.ensures.cause)

pub returns-else-mode-eq0 : goal.returns-else-mode-eq0
returns-else-mode-eq0 g c =
    calls_none (flush_by c.args.mode) _ _ (λ d. rw (ne_eqb c.args.mode 0 c.if-mode-eq0.false) refl)
