use Rattle.std.specs.Prelude.{ℕ, ◌==◌, List, [], ◌∷◌, length, replicate, Bool, if◌then◌else◌}
use Rattle.vt_types.specs.Access.{AccessValue, Get, Put}
use Rattle.vt_types.specs.Program.{Program, Do, Mark, End}

-- the put of bytes, where there are any
abbrev pub data_puts : ℕ → List ℕ → List AccessValue
data_puts location [] = []
data_puts location (byte ∷ bytes) = Put location (byte ∷ bytes) ∷ []

-- bytes that were asked for: zeros where another number of them came
abbrev pub bytes_or_zeros : ℕ → List ℕ → List ℕ
bytes_or_zeros count bytes = if length bytes == count then bytes else replicate count 0

-- bytes are got: zeros where another number of them came
abbrev pub get_bytes : ℕ → ℕ → Program (List ℕ)
get_bytes addr count = Do (Get addr count) (λ _ bytes. End (bytes_or_zeros count bytes))

-- the bytes that a device wrote are got, where there are any
abbrev pub bytes_program : ℕ → ℕ → Program (List ℕ)
bytes_program addr len = if len == 0 then End [] else get_bytes addr len

-- a mark where nothing was marked before
abbrev pub mark_unless : {X : Type 0} → Bool → Program X → Program X
mark_unless marked next = if marked then next else Mark next

-- that mark and nothing else
abbrev pub mark_alone : Bool → Program (Unit {0})
mark_alone marked = mark_unless marked (End tt)
