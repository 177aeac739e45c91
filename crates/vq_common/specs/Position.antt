-- The positions of a packed ring: a location, and the wrap counter with which it is reached (VIRTIO 1.2, 2.8.1).
use Rattle.std.specs.Prelude.{ℕ, zero, suc, ◌+◌, ◌-◌, ◌%◌, ◌==◌, ◌&&◌, ◌||◌, not, nat_le, nat_lt, Bool, false, if◌then◌else◌}
use Rattle.std.specs.Bool.{beq}
use Rattle.vq_common.specs.declared.position.Position.{Position}

-- the location that lies so many slots after a location of a ring: past the last one the locations begin again
abbrev pub location_after : ℕ → ℕ → ℕ → ℕ
location_after size location slots = if nat_lt (location + slots) size then location + slots else location + slots - size

-- the wrap counter there: it turns at the end of the ring
abbrev pub wrap_after : ℕ → ℕ → Bool → ℕ → Bool
wrap_after size location wrap slots = if nat_lt (location + slots) size then wrap else not wrap

-- the position that lies so many slots after one
abbrev pub position_after : ℕ → Position → ℕ → Position
position_after size p slots = record { location = location_after size p.location slots; wrap = wrap_after size p.location p.wrap slots }

-- the location that lies so many slots before a location of a ring
abbrev pub location_before : ℕ → ℕ → ℕ → ℕ
location_before size location slots = if nat_le slots location then location - slots else location + size - slots

-- the wrap counter there
abbrev pub wrap_before : ℕ → Bool → ℕ → Bool
wrap_before location wrap slots = if nat_le slots location then wrap else not wrap

-- the position that lies so many slots before one
abbrev pub position_before : ℕ → Position → ℕ → Position
position_before size p slots = record { location = location_before size p.location slots; wrap = wrap_before p.location p.wrap slots }

-- location and wrap counter are the same
abbrev pub is_same_position : Position → Position → Bool
is_same_position p q = p.location == q.location && beq p.wrap q.wrap

-- a position is one of so many in a row
abbrev pub is_among : ℕ → ℕ → Position → Position → Bool
is_among size zero first p = false
is_among size (suc slots) first p = is_same_position p first || is_among size slots (position_after size first 1) p

-- the position that an event word names: the location in the low 15 bits, the wrap counter in the last (VIRTIO 1.2, 2.8.14)
abbrev pub event_position : ℕ → Position
event_position word = record { location = word % 0x8000; wrap = nat_le 0x8000 word }

-- the event word that names a position
abbrev pub event_word : Position → ℕ
event_word p = p.location + (if p.wrap then 0x8000 else 0)
