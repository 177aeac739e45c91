use Rattle.std.specs.Prelude.{◌≡◌, ℕ, ◌+◌, ◌≤◌, List, ◌++◌, length}

-- the spare bytes that are enough for the line of an access, a reply or a sector (our own)
abbrev pub LINE_SPARE : ℕ
LINE_SPARE = 33024

-- and for that of an event
abbrev pub EVENT_SPARE : ℕ
EVENT_SPARE = 8192

-- no line of an access without bytes is longer (our own)
abbrev pub SHORT_LINE : ℕ
SHORT_LINE = 128

-- a text, and how many spare bytes it has
pub record TextView : Type 0 where
  pub bytes : List ℕ
  pub spare : ℕ

-- more bytes were added at the end of a text, and took no more spare bytes than their count
pub record Added (old new : TextView) (more : List ℕ) : Type 0 where
  pub bytes : new.bytes ≡ old.bytes ++ more
  pub spare : old.spare ≤ new.spare + length more
