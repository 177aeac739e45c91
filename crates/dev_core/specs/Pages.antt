use Rattle.std.specs.Prelude.{ℕ, ◌+◌}
use Rattle.vq_common.specs.Pages.{PAGES_OF_SCATTER, PAGES_OF_GIVE}

-- the pages of guest memory that one event may make

-- those of serving one buffer: those of its pieces, and those of the used element and index
abbrev pub PAGES_OF_SERVE : ℕ
PAGES_OF_SERVE = PAGES_OF_SCATTER + PAGES_OF_GIVE

-- those of a signal of a bus: that of an indicator, and that of a summary
abbrev pub PAGES_OF_SIGNAL : ℕ
PAGES_OF_SIGNAL = 2

abbrev pub PAGES_OF_EVENT : ℕ
PAGES_OF_EVENT = PAGES_OF_SERVE + PAGES_OF_SIGNAL
