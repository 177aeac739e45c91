use Rattle.std.proofs.Common.{sym}
use Rattle.std.proofs.lemmas.Result.{err_from_is_err_and}
use Rattle.dev_block.proofs.CheckLaws.{checked_fits}
use Rattle.dev_block.proofs.ServeLaws.{ends_refused, ends_done, ends_failed}
use Rattle.dev_block.proofs.serve.answer.Goals as goal

pub returns-in_err-task-clause-ends : goal.returns-in_err-task-clause-ends
returns-in_err-task-clause-ends g c =
    let p = err_from_is_err_and c.from_residual.result c.from_residual.ensures.1 in
    let test = rw (c.limits_of-limits.ensures.value, c.requires.room) at c.in_err-task.ensures in
    rw (p.1, p.2) (ends_refused c.args.state.now c.args.chain.now.pieces.items _ _ _ (sym test))

pub carry_out-requires-clause-fits : goal.carry_out-requires-clause-fits
carry_out-requires-clause-fits g c =
    let test = rw (c.limits_of-limits.ensures.value, c.requires.room) at c.in_ok-task.ensures in
    checked_fits _ _ _ _ (sym test)

pub returns-in-Ok-clause-ends : goal.returns-in-Ok-clause-ends
returns-in-Ok-clause-ends g c =
    let test = rw (c.limits_of-limits.ensures.value, c.requires.room) at c.in_ok-task.ensures in
    ends_done c.args.state.now c.args.chain.now.pieces.items _ _ _ _ _ _ (sym test) (rw c.cache_mode.ensures at c.in-Ok.ensures.carries)

pub returns-in-Err-clause-ends : goal.returns-in-Err-clause-ends
returns-in-Err-clause-ends g c =
    let test = rw (c.limits_of-limits.ensures.value, c.requires.room) at c.in_ok-task.ensures in
    ends_failed c.args.state.now c.args.chain.now.pieces.items _ _ _ _ _ _ (sym test) (rw c.cache_mode.ensures at c.in-Err.ensures.carries)
