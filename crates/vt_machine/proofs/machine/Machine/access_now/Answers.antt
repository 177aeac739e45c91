use Rattle.vt_machine.proofs.StepLaws.{no_bytes_of_step}
use Rattle.vt_machine.proofs.machine.Machine.access_now.Goals as goal

pub access_line_is_short-requires-clause-bytes : goal.access_line_is_short-requires-clause-bytes
access_line_is_short-requires-clause-bytes g c = no_bytes_of_step g.B.Bus.table _ _ _ _ _ _ c.access-answer.ensures.step
