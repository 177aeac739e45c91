use Rattle.std.specs.Prelude.{ℕ, ◌^◌}

-- the most pieces of a buffer, and the most bytes of each (our own)
abbrev pub MOST_PIECES : ℕ
MOST_PIECES = 8

abbrev pub LONGEST_PIECE : ℕ
LONGEST_PIECE = 4096

-- the most bytes of a buffer, of a put and of a get (our own)
abbrev pub LONGEST_BUFFER : ℕ
LONGEST_BUFFER = 8192

-- the most bytes of a frame, and of one press of keys (our own)
abbrev pub LONGEST_FRAME : ℕ
LONGEST_FRAME = 2048

abbrev pub LONGEST_KEYS : ℕ
LONGEST_KEYS = 64

-- the most bytes of a script (our own)
abbrev pub LONGEST_SCRIPT : ℕ
LONGEST_SCRIPT = 2 ^ 26

-- the most bytes of guest memory, and the bytes of each of its pages (our own)
abbrev pub LONGEST_MEMORY : ℕ
LONGEST_MEMORY = 2 ^ 28

abbrev pub GUEST_PAGE : ℕ
GUEST_PAGE = 4096

-- the most sectors of a disk (our own)
abbrev pub MOST_SECTORS : ℕ
MOST_SECTORS = 65536

-- the most that the accesses of one operation may cost a port (our own)
abbrev pub GREATEST_COST : ℕ
GREATEST_COST = 4096
