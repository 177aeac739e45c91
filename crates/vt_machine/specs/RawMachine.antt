use Rattle.std.specs.Prelude.{ℕ}
use Rattle.vt_outside.specs.Tripped.{TrippedView}
use Rattle.dev_core.specs.Bus.{Raw}

-- the raw machine with its disk: how many spare bytes the console has, and how many more pages of guest memory may be made
pub record RawMachineView (R : Type 0) : Type 0 where
  pub raw : Raw R
  pub spare : ℕ
  pub pages : ℕ
  pub disk : TrippedView
