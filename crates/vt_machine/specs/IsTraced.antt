use Rattle.std.specs.Prelude.{◌≡◌, ◌++◌}
use Rattle.vt_machine.specs.Machine.{MachineView, happening_lines}
use Rattle.vt_machine.specs.Trace.{Trace}

-- an operation that led from one machine to another, with all of its events, is its trace: the result, the raw machine, the
-- number of accesses, the place, and the lines of what happened
pub record IsTraced {R X : Type 0} (t : Trace R X) (x : X) (old new : MachineView R) : Type 0 where
  pub result : t.result ≡ x
  pub raw : t.raw ≡ new.raw
  pub count : t.count ≡ new.count
  pub place : t.place ≡ new.place
  pub lines : new.lines ≡ old.lines ++ happening_lines t.happenings
  pub disk : new.disk ≡ old.disk
