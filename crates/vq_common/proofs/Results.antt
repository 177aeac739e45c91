-- Results of calls.
use Rattle.std.proofs.Common.{Result, Ok, Err}
use Rattle.std.specs.Prelude.{IsOk, OnOk}
use Rattle.std.proofs.lemmas.Bool.{false≢true}

-- what a clause says of a call that went well
pub on_ok_at : {T E P : Type 0} (r : Result T E) → IsOk r → OnOk r P → P
on_ok_at (Ok x) ok h = h
on_ok_at (Err e) ok h = absurd (false≢true ok)
